use Rattle.std.proofs.Common.{◌≡◌, Some, refl, sym, ◌∙◌, ap, subst}
use Rattle.std.specs.Prelude.{IsSome}
use Rattle.slab.specs.Slab.{with_value}
use Rattle.slab.proofs.SlabLemmas.{Updates-with_value}
use Rattle.store_model.specs.Transactions.{at}
use Rattle.transactions.specs.Entries.{transaction_of, tx_slots_of, IsViewed, IsRebasedTo}
use Rattle.transactions.specs.Tables.{Table}
use Rattle.transactions.specs.declared.entry.TxEntry.{TxEntry}
use Rattle.transactions.proofs.Kept.{at_slot, kept_seen, seen_entry, same_tx_slots}
use Rattle.transactions.proofs.Slots.{content}
use Rattle.transactions.proofs.table.TxTable.take_view.Goals as goal

there : (c : goal.After-self-2-1) → content c.self.inside.tx_slots.slots c.args.slot ≡ Some c.in-Some.entry.now
there c = sym c.in-Some.ensures.value

same : (c : goal.After-self-2-1) → tx_slots_of (with_value c.self.inside.tx_slots c.args.slot c.take_view.new.self).slots ≡ tx_slots_of c.self.inside.tx_slots.slots
same c = same_tx_slots c.self.inside.tx_slots.slots c.args.slot c.in-Some.entry.now c.take_view.new.self (there c) (ap transaction_of c.take_view.ensures.rest)

viewed : (c : goal.After-self-2-1) → IsViewed c.self.inside.trees c.self.inside.number c.take_view.new.self.ops.items c.take_view.new.self.view
viewed c =
    let its = subst (λ (t : Table). IsRebasedTo t.trees t.number (at t.tx_slots c.args.slot) c.args.view) (sym c.self.view_is) c.requires in
    let own : IsViewed c.self.inside.trees c.self.inside.number c.in-Some.entry.now.ops.items c.args.view = subst (λ one. IsRebasedTo c.self.inside.trees c.self.inside.number one c.args.view) (at_slot c.self.inside.tx_slots.slots c.args.slot c.in-Some.entry.now (there c)) its in
    subst (λ (e : TxEntry). IsViewed c.self.inside.trees c.self.inside.number e.ops.items c.take_view.new.self.view) (sym c.take_view.ensures.rest)
    (subst (IsViewed c.self.inside.trees c.self.inside.number c.in-Some.entry.now.ops.items) (sym c.take_view.ensures.taken) own)

pub invariant_of-self-2 : goal.invariant_of-self-2
invariant_of-self-2 c =
    kept_seen c.self.inside.trees c.self.inside.number c.self.inside.begun c.self.inside.hives c.self.inside.aside c.self.inside.claims c.self.inside.tx_slots (with_value c.self.inside.tx_slots c.args.slot c.take_view.new.self) c.args.slot c.in-Some.entry.now c.take_view.new.self c.self.invariant
    (Updates-with_value c.self.inside.tx_slots c.args.slot c.take_view.new.self (subst IsSome (sym (there c)) refl)) (there c)
    (seen_entry c.self.inside.trees c.self.inside.number c.self.inside.begun c.self.inside.hives c.self.inside.aside c.in-Some.entry.now c.take_view.new.self (c.self.invariant.entries c.args.slot c.in-Some.entry.now (there c)) c.take_view.ensures.rest (viewed c))
    (ap transaction_of c.take_view.ensures.rest) (λ slot. ap (λ tx_slots. at tx_slots slot) (same c))

pub returns : goal.returns
returns c = ap (λ tx_slots. record { trees = c.self.inside.trees; number = c.self.inside.number; tx_slots = tx_slots; begun = c.self.inside.begun; hives = c.self.inside.hives; aside = c.self.inside.aside }) (same c) ∙ c.self.view_is
