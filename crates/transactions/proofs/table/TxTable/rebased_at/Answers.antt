use Rattle.std.proofs.Common.{◌≡◌, ◌+◌, IfOk, Some, sym, ◌∙◌, ap, subst}
use Rattle.reg_tree.specs.Judgement.{applied}
use Rattle.store_model.specs.Transactions.{at}
use Rattle.transactions.specs.Entries.{transaction_of, IsRebasedTo}
use Rattle.transactions.specs.Tables.{Table, MeetNone}
use Rattle.transactions.proofs.Kept.{at_slot}
use Rattle.transactions.proofs.Views.{apart_all_if}
use Rattle.transactions.proofs.table.TxTable.rebased_at.Goals as goal

pub rebased-requires-clause-apart : goal.rebased-requires-clause-apart
rebased-requires-clause-apart c =
    let one = transaction_of c.in-Some.entry.now in
    let there : at c.args.self.now.tx_slots c.args.slot ≡ Some one = ap (λ (t : Table). at t.tx_slots c.args.slot) (sym c.self.view_is) ∙ at_slot c.self.inside.tx_slots.slots c.args.slot c.in-Some.entry.now (sym c.in-Some.ensures) in
    apart_all_if c.args.change.now one (sym c.if-is_active.ensures) (subst (MeetNone c.args.change.now) there (c.requires.holders (sym c.if-not-has.ensures)))

pub returns-in-Some : goal.returns-in-Some
returns-in-Some c =
    subst (λ (t : Table). IfOk c.rebased.result (λ rebased. IsRebasedTo (applied t.trees c.args.change.now c.args.moment) (t.number + 1) (at t.tx_slots c.args.slot) rebased)) c.self.view_is
    (subst (λ one. IfOk c.rebased.result (λ rebased. IsRebasedTo (applied c.self.inside.trees c.args.change.now c.args.moment) (c.self.inside.number + 1) one rebased)) (sym (at_slot c.self.inside.tx_slots.slots c.args.slot c.in-Some.entry.now (sym c.in-Some.ensures)))
    c.rebased.ensures)
