use Rattle.std.proofs.Common.{◌≡◌, ◌==◌, ◌&&◌, true, Some, None}
use Rattle.transactions.specs.Entries.{transaction_of, tx_slots_of}
use Rattle.transactions.specs.Tables.{EndsWith}
use Rattle.std.proofs.Common.{◌+◌, ◌<◌, ◌≤◌, length, refl, sym, ◌∙◌, ap, subst}
use Rattle.std.specs.Prelude.{IsSome, vec_capacity}
use Rattle.std.specs.Global.{Vec}
use Rattle.reg_tree.specs.declared.op.Op.{Op}
use Rattle.store_model.specs.Transactions.{own, is_active, inactive_refusal}
use Rattle.slab.specs.Slab.{Updates, with_value}
use Rattle.slab.proofs.SlabLemmas.{Updates-with_value}
use Rattle.transactions.specs.Tables.{Table, EndsWith}
use Rattle.transactions.proofs.Kept.{kept_ended}
use Rattle.transactions.proofs.Slots.{content}
use Rattle.transactions.proofs.TableChanges.{ends, ended_entry, shown, its_own}
use Rattle.transactions.proofs.table.TxTable.end.Goals as goal

there : (c : goal.After-self-2-1) → content c.self.inside.tx_slots.slots c.args.tx.slot ≡ Some c.in-Some.entry.now
there c = sym c.in-Some.ensures.value

passes : (c : goal.After-self-2-1) → inactive_refusal (own (tx_slots_of c.self.inside.tx_slots.slots) c.args.session c.args.tx) ≡ None
passes c = subst (λ (t : Table). inactive_refusal (own t.tx_slots c.args.session c.args.tx) ≡ None) (sym c.self.view_is) c.in_ok-check_active.ensures.ok

its : (c : goal.After-self-2-1) → ((c.in-Some.entry.now.session == c.args.session && c.in-Some.entry.now.generation == c.args.tx.generation) ≡ true) × (is_active (transaction_of c.in-Some.entry.now) ≡ true)
its c = its_own c.self.inside.tx_slots.slots c.args.session c.args.tx (passes c) c.in-Some.entry.now (there c)

changed : (c : goal.After-self-2-1) → Updates c.self.inside.tx_slots (with_value c.self.inside.tx_slots c.args.tx.slot c.end.new.self) c.args.tx.slot (Some c.end.new.self)
changed c = Updates-with_value c.self.inside.tx_slots c.args.tx.slot c.end.new.self (subst IsSome (sym (there c)) refl)

pub invariant_of-self : goal.invariant_of-self
invariant_of-self c =
    kept_ended c.self.inside.trees c.self.inside.number c.self.inside.begun c.self.inside.hives c.self.inside.aside c.self.inside.claims c.self.inside.tx_slots (with_value c.self.inside.tx_slots c.args.tx.slot c.end.new.self) c.args.tx.slot c.end.new.self c.drop_of.new.self
    c.drop_of.ensures c.self.invariant (changed c)
    (ended_entry c.self.inside.trees c.self.inside.number c.self.inside.begun c.self.inside.hives c.self.inside.aside c.in-Some.entry.now c.end.new.self c.args.outcome (c.self.invariant.entries c.args.tx.slot c.in-Some.entry.now (there c)) c.end.ensures.kept c.end.ensures.length c.end.ensures.unseen)
    (ap is_active c.end.ensures.kept ∙ c.requires)

pub returns-clause-ok : goal.returns-clause-ok
returns-clause-ok c =
    subst (λ (t : Table). EndsWith t c.args.session c.args.tx c.args.outcome c.end.result.items
    (shown c.self.inside.trees c.self.inside.number c.self.inside.begun c.self.inside.hives c.self.inside.aside (with_value c.self.inside.tx_slots c.args.tx.slot c.end.new.self).slots)) c.self.view_is
    (ends c.self.inside.trees c.self.inside.number c.self.inside.begun c.self.inside.hives c.self.inside.aside c.self.inside.tx_slots (with_value c.self.inside.tx_slots c.args.tx.slot c.end.new.self) c.args.session c.args.tx c.args.outcome c.end.result.items
    c.in-Some.entry.now c.end.new.self (there c) (its c).0 (its c).1 (changed c) c.end.ensures.kept (ap (λ (ops : Vec Op). ops.items) c.end.ensures.ops))

pub returns-clause-spare : goal.returns-clause-spare
returns-clause-spare c = subst (λ (ops : Vec Op). 0 < length ops.items → length ops.items + 2 ≤ vec_capacity ops) (sym c.end.ensures.ops) (c.self.invariant.entries c.args.tx.slot c.in-Some.entry.now (there c)).spare
