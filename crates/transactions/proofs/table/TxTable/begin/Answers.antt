use Rattle.std.proofs.Common.{◌≡◌, ◌+◌, ◌<◌, ◌^◌, Some, None}
use Rattle.refusals.specs.declared.refusal.Refusal.TheVariants.{NoSeat}
use Rattle.transactions.specs.Entries.{transaction_of}
use Rattle.transactions.specs.Tables.{Begins}
use Rattle.store_model.specs.Machine.{slot_refusal}
use Rattle.store_model.specs.Transactions.{fresh_transaction}
use Rattle.std.proofs.Common.{inl, refl, sym, ◌∙◌, ap, subst}
use Rattle.slab.specs.Slab.{Updates}
use Rattle.store_model.specs.Transactions.{Transaction}
use Rattle.transactions.specs.Entries.{EntriesAreSound}
use Rattle.transactions.specs.Tables.{Table}
use Rattle.transactions.proofs.Kept.{kept_begun}
use Rattle.transactions.proofs.Slots.{content}
use Rattle.transactions.proofs.TableChanges.{begins, begun_entry, shown, no_seat, some_seat, updates_of, slot_of}
use Rattle.transactions.proofs.table.TxTable.begin.Goals as goal

next : (c : goal.After-insert_reserved-slot) → c.in-Some.generation ≡ c.self.inside.begun + 1
next c = c.in-Some.ensures.1

below : (c : goal.After-insert_reserved-slot) → c.self.inside.begun + 1 < 2 ^ 64
below c = c.in-Some.ensures.0

changed : (c : goal.After-insert_reserved-slot) → Updates c.self.inside.tx_slots c.insert_reserved-slot.new.self c.insert_reserved-slot.result (Some c.begin-entry.result)
changed c = updates_of c.self.inside.tx_slots c.reserve.new.self c.insert_reserved-slot.new.self c.insert_reserved-slot.result (Some c.begin-entry.result) c.reserve.ensures.rest_kept c.insert_reserved-slot.ensures.updates

vacant : (c : goal.After-insert_reserved-slot) → content c.self.inside.tx_slots.slots c.insert_reserved-slot.result ≡ None
vacant c = slot_of c.self.inside.tx_slots c.reserve.new.self c.insert_reserved-slot.result None c.reserve.ensures.rest_kept c.insert_reserved-slot.ensures.was_vacant

kept : (c : goal.After-insert_reserved-slot) → transaction_of c.begin-entry.result ≡ fresh_transaction c.args.session c.args.id (c.self.inside.begun + 1)
kept c = c.begin-entry.ensures.kept ∙ ap (fresh_transaction c.args.session c.args.id) (next c)

pub returns-then-len-ge-MOST_TRANSACTIONS-clause-refused : goal.returns-then-len-ge-MOST_TRANSACTIONS-clause-refused
returns-then-len-ge-MOST_TRANSACTIONS-clause-refused c =
    (inl (subst (λ (t : Table). slot_refusal t.tx_slots t.begun ≡ Some NoSeat) c.self.view_is (no_seat c.self.inside.begun c.self.inside.tx_slots.slots c.len.result c.len.ensures c.if-len-ge-MOST_TRANSACTIONS.true)), refl)

pub invariant_of-self-2 : goal.invariant_of-self-2
invariant_of-self-2 c =
    subst (λ generation. EntriesAreSound c.self.inside.trees c.self.inside.number generation c.self.inside.hives c.self.inside.aside c.insert_reserved-slot.new.self.slots c.self.inside.claims) (sym (next c))
    (kept_begun c.self.inside.trees c.self.inside.number c.self.inside.begun c.self.inside.hives c.self.inside.aside c.self.inside.claims c.self.inside.tx_slots c.insert_reserved-slot.new.self c.insert_reserved-slot.result c.begin-entry.result c.self.invariant
    (changed c) (vacant c) (begun_entry c.self.inside.trees c.self.inside.number (c.self.inside.begun + 1) c.self.inside.hives c.self.inside.aside c.args.session c.args.id c.begin-entry.result (kept c) c.begin-entry.ensures.counted c.begin-entry.ensures.unseen c.self.invariant.few)
    (ap (λ (t : Transaction). t.ops) c.begin-entry.ensures.kept))

pub returns-clause-ok : goal.returns-clause-ok
returns-clause-ok c =
    subst (λ (t : Table). Begins t c.args.session c.args.id (record { slot = c.insert_reserved-slot.result; generation = c.in-Some.generation }) (shown c.self.inside.trees c.self.inside.number c.in-Some.generation c.self.inside.hives c.self.inside.aside c.insert_reserved-slot.new.self.slots)) c.self.view_is
    (subst (λ generation. Begins (shown c.self.inside.trees c.self.inside.number c.self.inside.begun c.self.inside.hives c.self.inside.aside c.self.inside.tx_slots.slots) c.args.session c.args.id (record { slot = c.insert_reserved-slot.result; generation = generation })
    (shown c.self.inside.trees c.self.inside.number generation c.self.inside.hives c.self.inside.aside c.insert_reserved-slot.new.self.slots)) (sym (next c))
    (begins c.self.inside.trees c.self.inside.number c.self.inside.begun c.self.inside.hives c.self.inside.aside c.self.inside.tx_slots c.insert_reserved-slot.new.self c.args.session c.args.id c.insert_reserved-slot.result c.begin-entry.result
    (some_seat c.self.inside.begun c.self.inside.tx_slots.slots c.len.result c.len.ensures c.if-len-ge-MOST_TRANSACTIONS.false (below c)) (vacant c) (changed c) (kept c)))
