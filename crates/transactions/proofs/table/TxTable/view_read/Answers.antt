use Rattle.store_model.specs.Transactions.{at}
use Rattle.std.proofs.Common.{◌≡◌, Some, refl, sym, ◌∙◌, ap, subst}
use Rattle.std.specs.Prelude.{IsSome}
use Rattle.slab.specs.Slab.{with_value}
use Rattle.slab.proofs.SlabLemmas.{Updates-with_value}
use Rattle.transactions.specs.Entries.{transaction_of, tx_slots_of}
use Rattle.transactions.proofs.Kept.{kept_seen, seen_entry, same_tx_slots}
use Rattle.transactions.proofs.Slots.{content}
use Rattle.transactions.proofs.table.TxTable.view_read.Goals as goal

there : (c : goal.After-self-2-1) → content c.self.inside.tx_slots.slots c.args.tx.slot ≡ Some c.in-Some.entry.now
there c = sym c.in-Some.ensures.value

same : (c : goal.After-self-2-1) → tx_slots_of (with_value c.self.inside.tx_slots c.args.tx.slot c.look_up.new.self).slots ≡ tx_slots_of c.self.inside.tx_slots.slots
same c = same_tx_slots c.self.inside.tx_slots.slots c.args.tx.slot c.in-Some.entry.now c.look_up.new.self (there c) (ap transaction_of c.look_up.ensures.rest)

pub invariant_of-self : goal.invariant_of-self
invariant_of-self c =
    kept_seen c.self.inside.trees c.self.inside.number c.self.inside.begun c.self.inside.hives c.self.inside.aside c.self.inside.claims c.self.inside.tx_slots (with_value c.self.inside.tx_slots c.args.tx.slot c.look_up.new.self) c.args.tx.slot c.in-Some.entry.now c.look_up.new.self c.self.invariant
    (Updates-with_value c.self.inside.tx_slots c.args.tx.slot c.look_up.new.self (subst IsSome (sym (there c)) refl)) (there c)
    (seen_entry c.self.inside.trees c.self.inside.number c.self.inside.begun c.self.inside.hives c.self.inside.aside c.in-Some.entry.now c.look_up.new.self (c.self.invariant.entries c.args.tx.slot c.in-Some.entry.now (there c)) c.look_up.ensures.rest c.look_up.ensures.kept)
    (ap transaction_of c.look_up.ensures.rest) (λ slot. ap (λ tx_slots. at tx_slots slot) (same c))

pub returns-clause-same : goal.returns-clause-same
returns-clause-same c = ap (λ tx_slots. record { trees = c.self.inside.trees; number = c.self.inside.number; tx_slots = tx_slots; begun = c.self.inside.begun; hives = c.self.inside.hives; aside = c.self.inside.aside }) (same c) ∙ c.self.view_is
