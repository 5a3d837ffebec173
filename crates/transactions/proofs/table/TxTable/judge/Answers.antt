use Rattle.std.proofs.Common.{◌≡◌, ◌⊎◌, Some, refl, sym, ◌∙◌, ap, subst, arith}
use Rattle.std.specs.Prelude.{IsSome, IfOk, IfErr, true, None}
use Rattle.refusals.specs.declared.refusal.Refusal.TheVariants.{NoMemory}
use Rattle.slab.specs.Slab.{with_value}
use Rattle.slab.proofs.SlabLemmas.{Updates-with_value}
use Rattle.store_model.specs.Transactions.{Transaction, at, own, is_active, inactive_refusal}
use Rattle.transactions.specs.Entries.{transaction_of, tx_slots_of, IsJudged, IsJudgedOf, judge_refusal, illegal}
use Rattle.transactions.specs.Tables.{Table}
use Rattle.transactions.proofs.Kept.{kept_seen, seen_entry, same_tx_slots}
use Rattle.transactions.proofs.Slots.{content}
use Rattle.transactions.proofs.TableChanges.{shown, own_is, its_own, judge_ok, judge_refused}
use Rattle.transactions.proofs.table.TxTable.judge.Goals as goal

there : (c : goal.After-self-2-1) → content c.self.inside.tx_slots.slots c.args.tx.slot ≡ Some c.in-Some.entry.now
there c = sym c.in-Some.ensures.value

same : (c : goal.After-self-2-1) → tx_slots_of (with_value c.self.inside.tx_slots c.args.tx.slot c.judge.new.self).slots ≡ tx_slots_of c.self.inside.tx_slots.slots
same c = same_tx_slots c.self.inside.tx_slots.slots c.args.tx.slot c.in-Some.entry.now c.judge.new.self (there c) (ap transaction_of c.judge.ensures.rest)

pub judge-requires-clause-counted : goal.judge-requires-clause-counted
judge-requires-clause-counted c = let e = c.self.invariant.entries c.args.tx.slot c.in-Some.entry.now (sym c.in-Some.ensures.value) in (e.counted, omega (arith, e.short))

pub invariant_of-self : goal.invariant_of-self
invariant_of-self c =
    kept_seen c.self.inside.trees c.self.inside.number c.self.inside.begun c.self.inside.hives c.self.inside.aside c.self.inside.claims c.self.inside.tx_slots (with_value c.self.inside.tx_slots c.args.tx.slot c.judge.new.self) c.args.tx.slot c.in-Some.entry.now c.judge.new.self c.self.invariant
    (Updates-with_value c.self.inside.tx_slots c.args.tx.slot c.judge.new.self (subst IsSome (sym (there c)) refl)) (there c)
    (seen_entry c.self.inside.trees c.self.inside.number c.self.inside.begun c.self.inside.hives c.self.inside.aside c.in-Some.entry.now c.judge.new.self (c.self.invariant.entries c.args.tx.slot c.in-Some.entry.now (there c)) c.judge.ensures.rest c.judge.ensures.kept)
    (ap transaction_of c.judge.ensures.rest) (λ slot. ap (λ tx_slots. at tx_slots slot) (same c))

pub returns-clause-same : goal.returns-clause-same
returns-clause-same c = ap (λ tx_slots. record { trees = c.self.inside.trees; number = c.self.inside.number; tx_slots = tx_slots; begun = c.self.inside.begun; hives = c.self.inside.hives; aside = c.self.inside.aside }) (same c) ∙ c.self.view_is

passes : (c : goal.After-self-2-1) → inactive_refusal (own (tx_slots_of c.self.inside.tx_slots.slots) c.args.session c.args.tx) ≡ None
passes c = subst (λ (t : Table). inactive_refusal (own t.tx_slots c.args.session c.args.tx) ≡ None) (sym c.self.view_is) c.requires

its : (c : goal.After-self-2-1) → own (tx_slots_of c.self.inside.tx_slots.slots) c.args.session c.args.tx ≡ Some (transaction_of c.in-Some.entry.now)
its c = own_is c.self.inside.tx_slots.slots c.args.session c.args.tx (passes c) c.in-Some.entry.now (there c)

active : (c : goal.After-self-2-1) → is_active (transaction_of c.in-Some.entry.now) ≡ true
active c = (its_own c.self.inside.tx_slots.slots c.args.session c.args.tx (passes c) c.in-Some.entry.now (there c)).1

pub returns-clause-ok : goal.returns-clause-ok
returns-clause-ok c =
    subst (λ (t : Table). IfOk c.judge.result (IsJudgedOf t c.args.session c.args.tx c.args.op.now)) c.self.view_is
    (judge_ok (shown c.self.inside.trees c.self.inside.number c.self.inside.begun c.self.inside.hives c.self.inside.aside c.self.inside.tx_slots.slots) c.args.session c.args.tx c.args.op.now (transaction_of c.in-Some.entry.now) (its c) (active c) c.judge.result
    (subst (λ (one : Transaction). IfOk c.judge.result (IsJudged c.self.inside.aside c.self.inside.trees c.self.inside.number one c.args.op.now)) (ap transaction_of c.judge.ensures.rest) c.judge.ensures.ok))

pub returns-clause-refused : goal.returns-clause-refused
returns-clause-refused c =
    subst (λ (t : Table). IfErr c.judge.result (λ why. (judge_refusal t.aside t.trees c.args.op.now (own t.tx_slots c.args.session c.args.tx) ≡ Some why) ⊎ (why ≡ NoMemory))) c.self.view_is
    (judge_refused (shown c.self.inside.trees c.self.inside.number c.self.inside.begun c.self.inside.hives c.self.inside.aside c.self.inside.tx_slots.slots) c.args.session c.args.tx c.args.op.now (transaction_of c.in-Some.entry.now) (its c) (active c) c.judge.result
    (subst (λ (one : Transaction). IfErr c.judge.result (λ why. (illegal c.self.inside.aside c.self.inside.trees c.args.op.now one ≡ Some why) ⊎ (why ≡ NoMemory))) (ap transaction_of c.judge.ensures.rest) c.judge.ensures.refused))
