use Rattle.std.proofs.Common.{◌≡◌, List, [], ◌∷◌, ◌++◌, ◌||◌, false, map, sym, ◌∙◌, ap, subst}
use Rattle.std.proofs.lemmas.Bool.{true≢false, eq-eqb}
use Rattle.conflicts.specs.declared.table.ClaimOwner.{ClaimOwner}
use Rattle.transactions.specs.Entries.{tx_slots_of}
use Rattle.store_model.specs.Transactions.{at}
use Rattle.transactions.specs.Tables.{IsPending, MeetNone, Table, is_listed}
use Rattle.transactions.proofs.Holding.{pending_meet_none}
use Rattle.transactions.proofs.table.TxTable.rebase_others.Goals as goal

pub rebase_views-requires-clause-holders : goal.rebase_views-requires-clause-holders
rebase_views-requires-clause-holders c = λ other unlisted.
    let change = c.args.change.now in
    let length = c.requires.pending.0 in
    let elsewhere : other ≡ c.args.slot → ⊥ = λ same. true≢false (
    ap (λ b. b || false) (sym (eq-eqb c.args.slot other (sym same)))
    ∙ ap (λ (owners : List ClaimOwner). is_listed (map (λ (o : ClaimOwner). o.0) owners) other) (ap (λ xs. xs ++ record { 0 = c.args.slot } ∷ []) (sym c.new-owners.ensures.items) ∙ sym c.in_ok-push.ensures.items)
    ∙ unlisted) in
    subst (λ (t : Table). IsPending (at t.tx_slots c.args.slot) change length → MeetNone change (at t.tx_slots other)) c.self.view_is
    (pending_meet_none (tx_slots_of c.self.inside.tx_slots.slots) c.self.inside.claims c.self.invariant.claimed c.owners_dont_conflict.ensures c.args.slot other elsewhere change length) c.requires.pending.1
