use Rattle.std.proofs.Common.{◌≡◌, ◌+◌, ◌<◌, ◌++◌, ◌∷◌, [], true, false, inl, inr, Some, refl, sym, ◌∙◌, ap, subst}
use Rattle.reg_tree.specs.Encodings.{op_encoded_len}
use Rattle.std.specs.Prelude.{IsSome}
use Rattle.slab.specs.Slab.{with_value}
use Rattle.slab.proofs.SlabLemmas.{Updates-with_value}
use Rattle.conflicts.specs.Claims.{claim_of}
use Rattle.store_model.specs.Transactions.{Transaction, SetsSlot, at, is_active, is_claimed, with_op}
use Rattle.reg_tree.specs.Operations.{hive_of}
use Rattle.store_model.specs.Machine.{too_long}
use Rattle.transactions.specs.Entries.{transaction_of, tx_slots_of, IsEntry, IsViewNow, EntriesAreSound, with_op_if}
use Rattle.transactions.specs.Tables.{Table}
use Rattle.transactions.specs.declared.entry.TxEntry.{TxEntry}
use Rattle.transactions.proofs.Claimed.{some_same}
use Rattle.transactions.proofs.Holding.{claimed_free, claimed_met}
use Rattle.transactions.proofs.Kept.{at_slot, kept_seen, kept_added, reserved_same, reserved_entry, added_entry, same_tx_slots, if_err}
use Rattle.transactions.proofs.Slots.{content, puts}
use Rattle.transactions.proofs.table.TxTable.add.Goals as goal

-- the entry before and after room was made, if the claim is not held
there : (c : goal.After-drop-op) → content c.self.inside.tx_slots.slots c.args.slot ≡ Some c.in-Some.entry.now
there c = sym c.in-Some.ensures.value

same : (c : goal.After-drop-op) → tx_slots_of (with_value c.self.inside.tx_slots c.args.slot c.add_claim.new.entry).slots ≡ tx_slots_of c.self.inside.tx_slots.slots
same c = same_tx_slots c.self.inside.tx_slots.slots c.args.slot c.in-Some.entry.now c.add_claim.new.entry (there c) (reserved_same c.in-Some.entry.now c.add_claim.new.entry c.in_err-add_claim.ensures.same)

pub invariant_of-self : goal.invariant_of-self
invariant_of-self c =
    subst (λ claims. EntriesAreSound c.self.inside.trees c.self.inside.number c.self.inside.begun c.self.inside.hives c.self.inside.aside (with_value c.self.inside.tx_slots c.args.slot c.add_claim.new.entry).slots claims) (sym c.in_err-add_claim.ensures.refused.0)
    (kept_seen c.self.inside.trees c.self.inside.number c.self.inside.begun c.self.inside.hives c.self.inside.aside c.self.inside.claims c.self.inside.tx_slots (with_value c.self.inside.tx_slots c.args.slot c.add_claim.new.entry) c.args.slot c.in-Some.entry.now c.add_claim.new.entry c.self.invariant
    (Updates-with_value c.self.inside.tx_slots c.args.slot c.add_claim.new.entry (subst IsSome (sym (there c)) refl)) (there c)
    (reserved_entry c.self.inside.trees c.self.inside.number c.self.inside.begun c.self.inside.hives c.self.inside.aside c.in-Some.entry.now c.add_claim.new.entry (c.self.invariant.entries c.args.slot c.in-Some.entry.now (there c)) c.in_err-add_claim.ensures.same)
    (reserved_same c.in-Some.entry.now c.add_claim.new.entry c.in_err-add_claim.ensures.same) (λ slot. ap (λ tx_slots. at tx_slots slot) (same c)))

pub returns-in_err-add_claim-clause-refused : goal.returns-in_err-add_claim-clause-refused
returns-in_err-add_claim-clause-refused c =
    if_err c.from_residual.result c.in_err-add_claim.field-0.0 _ c.from_residual.ensures.1 (
      elim c.in_err-add_claim.ensures.refused.1 [
        | inl memory ↦ inl memory
        | inr met ↦ inr (
          met.0,
          subst (λ (t : Table). is_claimed t.tx_slots c.args.slot (claim_of c.args.op) ≡ true) c.self.view_is
              (claimed_met (tx_slots_of c.self.inside.tx_slots.slots) c.self.inside.claims c.self.invariant.claimed (claim_of c.args.op) c.args.slot met.1.0),
        )
      ],
      ap (λ tx_slots. record { trees = c.self.inside.trees; number = c.self.inside.number; tx_slots = tx_slots; begun = c.self.inside.begun; hives = c.self.inside.hives; aside = c.self.inside.aside }) (same c) ∙ c.self.view_is,
    )

-- the entry before and after the operation was added
was : (c : goal.After-self-2-1) → content c.self.inside.tx_slots.slots c.args.slot ≡ Some c.in-Some.entry.now
was c = sym c.in-Some.ensures.value

kept : (c : goal.After-self-2-1) → transaction_of c.add.new.self ≡ with_op (transaction_of c.in-Some.entry.now) c.args.op c.args.moment
kept c = c.add.ensures.kept ∙ ap (λ one. with_op one c.args.op c.args.moment) (reserved_same c.in-Some.entry.now c.add_claim.new.entry c.in_ok-add_claim.ensures.same)

one : (c : goal.After-self-2-1) → c.requires.one ≡ transaction_of c.in-Some.entry.now
one c = some_same c.requires.one (transaction_of c.in-Some.entry.now)
    (sym c.requires.there ∙ sym (ap (λ (t : Table). at t.tx_slots c.args.slot) c.self.view_is) ∙ at_slot c.self.inside.tx_slots.slots c.args.slot c.in-Some.entry.now (was c))

entry : (c : goal.After-self-2-1) → IsEntry c.self.inside.trees c.self.inside.number c.self.inside.begun c.self.inside.hives c.self.inside.aside c.add.new.self
entry c =
    added_entry c.self.inside.trees c.self.inside.number c.self.inside.begun c.self.inside.hives c.self.inside.aside c.in-Some.entry.now c.add.new.self c.args.op c.args.moment c.args.judged.made
    (c.self.invariant.entries c.args.slot c.in-Some.entry.now (was c)) (kept c)
    (c.add.ensures.length ∙ ap (λ (e : TxEntry). e.length + op_encoded_len c.args.op) c.in_ok-add_claim.ensures.same.0) c.add.ensures.seen
    (subst (λ one. too_long c.self.inside.aside one c.args.op ≡ false) (one c) (subst (λ (t : Table). too_long t.aside c.requires.one c.args.op ≡ false) (sym c.self.view_is) c.requires.short)) (subst (λ (t : Table). hive_of c.args.op < t.hives) (sym c.self.view_is) c.requires.named) (c.requires.numbered ∙ sym (ap (λ (t : Table). t.number) c.self.view_is))
    (subst (λ (one : Transaction). IsViewNow c.self.inside.trees (one.ops ++ c.args.op ∷ []) c.args.judged.made) (one c)
    (subst (λ (t : Table). IsViewNow t.trees (c.requires.one.ops ++ c.args.op ∷ []) c.args.judged.made) (sym c.self.view_is) c.requires.seen)) c.add.ensures.spare

pub invariant_of-self-2 : goal.invariant_of-self-2
invariant_of-self-2 c =
    kept_added c.self.inside.trees c.self.inside.number c.self.inside.begun c.self.inside.hives c.self.inside.aside c.self.inside.claims c.self.inside.tx_slots (with_value c.self.inside.tx_slots c.args.slot c.add.new.self) c.args.slot c.in-Some.entry.now c.add.new.self c.args.op c.args.moment c.add_claim.new.held
    c.in_ok-add_claim.ensures.ok.1.1 c.self.invariant
    (Updates-with_value c.self.inside.tx_slots c.args.slot c.add.new.self (subst IsSome (sym (was c)) refl)) (was c) (entry c) (kept c) (subst (λ one. is_active one ≡ true) (one c) c.requires.active)

pub returns-clause-ok : goal.returns-clause-ok
returns-clause-ok c = (
  refl,
  subst (λ (t : Table). is_claimed t.tx_slots c.args.slot (claim_of c.args.op) ≡ false) c.self.view_is
      (claimed_free (tx_slots_of c.self.inside.tx_slots.slots) c.self.inside.claims c.self.invariant.claimed (claim_of c.args.op) c.args.slot c.in_ok-add_claim.ensures.ok.1.0),
  ap (λ (t : Table). record { trees = t.trees; number = t.number; tx_slots = tx_slots_of (with_value c.self.inside.tx_slots c.args.slot c.add.new.self).slots; begun = t.begun; hives = t.hives; aside = t.aside }) c.self.view_is,
  subst (λ (t : Table). SetsSlot t.tx_slots (tx_slots_of (with_value c.self.inside.tx_slots c.args.slot c.add.new.self).slots) c.args.slot (with_op_if c.args.op c.args.moment (at t.tx_slots c.args.slot))) c.self.view_is
      (subst (SetsSlot (tx_slots_of c.self.inside.tx_slots.slots) (tx_slots_of (with_value c.self.inside.tx_slots c.args.slot c.add.new.self).slots) c.args.slot)
      (ap Some (kept c) ∙ sym (ap (with_op_if c.args.op c.args.moment) (at_slot c.self.inside.tx_slots.slots c.args.slot c.in-Some.entry.now (was c))))
      (puts c.self.inside.tx_slots (with_value c.self.inside.tx_slots c.args.slot c.add.new.self) c.args.slot (Some c.add.new.self) (Updates-with_value c.self.inside.tx_slots c.args.slot c.add.new.self (subst IsSome (sym (was c)) refl)))),
)
