use Rattle.std.proofs.lemmas.Grind.{common_steps}
use Rattle.std.proofs.Common.{◌≡◌, Some, true, refl, sym, ap, subst, arith}
use Rattle.std.specs.Prelude.{IsSome}
use Rattle.store_model.specs.Transactions.{is_active, at, SetsSlot}
use Rattle.store_model.specs.declared.handle.Outcome.TheVariants.{RolledBack}
use Rattle.slab.specs.Slab.{Updates, with_value}
use Rattle.slab.proofs.SlabLemmas.{Updates-with_value}
use Rattle.transactions.specs.Tables.{Table, rolled_back_if}
use Rattle.transactions.specs.Entries.{tx_slots_of}
use Rattle.transactions.proofs.Kept.{kept_ended}
use Rattle.transactions.proofs.Slots.{content}
use Rattle.transactions.proofs.TableChanges.{ended_entry, rolled_back_put}
use Rattle.transactions.proofs.table.TxTable.roll_back_at.Goals as goal

there : (c : goal.After-drop-end) → content c.self.inside.tx_slots.slots c.args.owner ≡ Some c.in-Some.entry.now
there c = sym c.in-Some.ensures.value

changed : (c : goal.After-drop-end) → Updates c.self.inside.tx_slots (with_value c.self.inside.tx_slots c.args.owner c.end.new.self) c.args.owner (Some c.end.new.self)
changed c = Updates-with_value c.self.inside.tx_slots c.args.owner c.end.new.self (subst IsSome (sym (there c)) refl)

pub invariant_of-self : goal.invariant_of-self
invariant_of-self c =
    kept_ended c.self.inside.trees c.self.inside.number c.self.inside.begun c.self.inside.hives c.self.inside.aside c.self.inside.claims c.self.inside.tx_slots (with_value c.self.inside.tx_slots c.args.owner c.end.new.self) c.args.owner c.end.new.self c.drop_of.new.self
    c.drop_of.ensures c.self.invariant (changed c)
    (ended_entry c.self.inside.trees c.self.inside.number c.self.inside.begun c.self.inside.hives c.self.inside.aside c.in-Some.entry.now c.end.new.self RolledBack (c.self.invariant.entries c.args.owner c.in-Some.entry.now (there c)) c.end.ensures.kept c.end.ensures.length c.end.ensures.unseen)
    (ap is_active c.end.ensures.kept)

pub returns-in-Some-clause-put : goal.returns-in-Some-clause-put
returns-in-Some-clause-put c =
    subst (λ (t : Table). SetsSlot t.tx_slots (tx_slots_of (with_value c.self.inside.tx_slots c.args.owner c.end.new.self).slots) c.args.owner (rolled_back_if true (at t.tx_slots c.args.owner))) c.self.view_is
    (rolled_back_put c.self.inside.tx_slots (with_value c.self.inside.tx_slots c.args.owner c.end.new.self) c.args.owner c.in-Some.entry.now c.end.new.self (there c) (sym c.if-is_active.ensures) (changed c) c.end.ensures.kept)

pub invariant_of-self-else-is_active : goal.invariant_of-self-else-is_active
invariant_of-self-else-is_active c = grind (arith, common_steps)

pub returns-else-is_active-clause-rest : goal.returns-else-is_active-clause-rest
returns-else-is_active-clause-rest c = grind (arith, common_steps)

pub returns-else-is_active-clause-put : goal.returns-else-is_active-clause-put
returns-else-is_active-clause-put c = grind (arith, common_steps)

pub returns-clause-put : goal.returns-clause-put
returns-clause-put c = grind (arith, common_steps)
