use Rattle.std.proofs.Common.{◌≡◌, ◌⊎◌, inl, inr, ◌+◌, ◌<◌, ◌≤◌, ℕ, List, ◌++◌, length, Bool, true, false, Some, None, refl, sym, ◌∙◌, ap, subst, arith}
use Rattle.std.specs.Prelude.{IfSome, min}
use Rattle.std.proofs.lemmas.List.Sums.{sum_by-append}
use Rattle.refusals.specs.declared.refusal.Refusal.{Refusal}
use Rattle.refusals.specs.declared.refusal.Refusal.TheVariants.{NoMemory, TooLarge}
use Rattle.reg_tree.specs.Encodings.{op_encoded_len, ops_encoded_len}
use Rattle.reg_tree.specs.Judgement.{applied, any_outweighs}
use Rattle.reg_tree.specs.Maps.{TreeMap}
use Rattle.reg_tree.specs.declared.op.Op.{Op}
use Rattle.store_model.specs.Machine.{Machine, outcome_bytes, outcome_tree, trees_now}
use Rattle.store_model.specs.Transactions.{own}
use Rattle.store_model.proofs.TreeCounts.{all_long, ops_long}
use Rattle.transactions.specs.Entries.{IsCommitted}
use Rattle.transactions.specs.Prepared.{IsOutcomeChange, unit_ops, unit_refusal}
use Rattle.transactions.specs.Stores.{StoreView}
use Rattle.transactions.specs.Tables.{IsPending}
use Rattle.transactions.proofs.Kept.{if_err}
use Rattle.transactions.proofs.Outcomes.{outcome_tree_stays}
use Rattle.transactions.proofs.Stored.{crowded, heavy_front, heavy_outcome, of_pending, pending_len}
use Rattle.transactions.proofs.store.Store.judge_commit.Goals as goal

-- as a change is refused, or since there is no memory
refused_so : (m : Machine) (unit : List ℕ) (moment : ℕ) (ops : List Op) (test : Bool) (why : Refusal) → (test ≡ true → unit_refusal m unit moment ops ≡ Some TooLarge) → ((test ≡ true) × (why ≡ TooLarge)) ⊎ (why ≡ NoMemory) →
    (unit_refusal m unit moment ops ≡ Some why) ⊎ (why ≡ NoMemory)
refused_so m unit moment ops test why is (inl heavy) = inl (is heavy.0 ∙ ap Some (sym heavy.1))
refused_so m unit moment ops test why is (inr none) = inr none

pub returns-in_err-trees-clause-refused : goal.returns-in_err-trees-clause-refused
returns-in_err-trees-clause-refused c =
    let m = c.args.self.now.machine in
    let ops = c.args.ops.now in
    let why = c.in_err-trees.field-0.0 in
    let now : c.self.inside.table.trees ≡ trees_now m = c.self.invariant.0.trees ∙ ap (λ (v : StoreView). trees_now v.machine) c.self.view_is in
    let pending : IsPending (own c.self.inside.table.tx_slots c.args.session c.args.tx) ops c.args.text_len = subst (λ (v : StoreView). IsPending (own v.machine.tx_slots c.args.session c.args.tx) ops c.args.text_len) (sym c.self.view_is) c.requires.pending in
    if_err c.from_residual.result why _ c.from_residual.ensures.1
    (refused_so m c.args.unit.now c.args.moment ops (any_outweighs (trees_now m) ops c.args.moment) why (heavy_front m c.args.unit.now c.args.moment ops)
    (subst (λ ts. ((any_outweighs ts ops c.args.moment ≡ true) × (why ≡ TooLarge)) ⊎ (why ≡ NoMemory)) now
    (of_pending (λ ops. ((any_outweighs c.self.inside.table.trees ops c.args.moment ≡ true) × (why ≡ TooLarge)) ⊎ (why ≡ NoMemory)) (own c.self.inside.table.tx_slots c.args.session c.args.tx) ops c.args.text_len pending c.in_err-trees.ensures.refused)))

pub outcome_change-requires-clause-many : goal.outcome_change-requires-clause-many
outcome_change-requires-clause-many c =
    let m = c.args.self.now.machine in
    let ops = c.args.ops.now in
    let now : c.self.inside.table.trees ≡ trees_now m = c.self.invariant.0.trees ∙ ap (λ (v : StoreView). trees_now v.machine) c.self.view_is in
    let pending : IsPending (own c.self.inside.table.tx_slots c.args.session c.args.tx) ops c.args.text_len = subst (λ (v : StoreView). IsPending (own v.machine.tx_slots c.args.session c.args.tx) ops c.args.text_len) (sym c.self.view_is) c.requires.pending in
    let counted = pending_len (own c.self.inside.table.tx_slots c.args.session c.args.tx) ops c.args.text_len pending in
    let made : IsCommitted (trees_now m) ops c.args.moment c.in_ok-trees.field-0 =
    subst (λ ts. IsCommitted ts ops c.args.moment c.in_ok-trees.field-0) now
    (of_pending (λ ops. IsCommitted c.self.inside.table.trees ops c.args.moment c.in_ok-trees.field-0) (own c.self.inside.table.tx_slots c.args.session c.args.tx) ops c.args.text_len pending c.in_ok-trees.ensures.ok) in
    ap (λ (ts : List TreeMap). length ts) made.trees ∙ ops_long (trees_now m) ops c.args.moment ∙ all_long m.opened m.accepted

pub outcome_change-requires-clause-same : goal.outcome_change-requires-clause-same
outcome_change-requires-clause-same c =
    let m = c.args.self.now.machine in
    let ops = c.args.ops.now in
    let now : c.self.inside.table.trees ≡ trees_now m = c.self.invariant.0.trees ∙ ap (λ (v : StoreView). trees_now v.machine) c.self.view_is in
    let pending : IsPending (own c.self.inside.table.tx_slots c.args.session c.args.tx) ops c.args.text_len = subst (λ (v : StoreView). IsPending (own v.machine.tx_slots c.args.session c.args.tx) ops c.args.text_len) (sym c.self.view_is) c.requires.pending in
    let counted = pending_len (own c.self.inside.table.tx_slots c.args.session c.args.tx) ops c.args.text_len pending in
    let made : IsCommitted (trees_now m) ops c.args.moment c.in_ok-trees.field-0 =
    subst (λ ts. IsCommitted ts ops c.args.moment c.in_ok-trees.field-0) now
    (of_pending (λ ops. IsCommitted c.self.inside.table.trees ops c.args.moment c.in_ok-trees.field-0) (own c.self.inside.table.tx_slots c.args.session c.args.tx) ops c.args.text_len pending c.in_ok-trees.ensures.ok) in
    ap (outcome_tree m.bounds) made.trees ∙ outcome_tree_stays m.bounds (trees_now m) ops c.args.moment c.requires.named

pub returns-in_err-outcome-clause-refused : goal.returns-in_err-outcome-clause-refused
returns-in_err-outcome-clause-refused c =
    let why = c.in_err-outcome.field-0.0 in
    let m = c.args.self.now.machine in
    let ops = c.args.ops.now in
    let now : c.self.inside.table.trees ≡ trees_now m = c.self.invariant.0.trees ∙ ap (λ (v : StoreView). trees_now v.machine) c.self.view_is in
    let pending : IsPending (own c.self.inside.table.tx_slots c.args.session c.args.tx) ops c.args.text_len = subst (λ (v : StoreView). IsPending (own v.machine.tx_slots c.args.session c.args.tx) ops c.args.text_len) (sym c.self.view_is) c.requires.pending in
    let counted = pending_len (own c.self.inside.table.tx_slots c.args.session c.args.tx) ops c.args.text_len pending in
    let made : IsCommitted (trees_now m) ops c.args.moment c.in_ok-trees.field-0 =
    subst (λ ts. IsCommitted ts ops c.args.moment c.in_ok-trees.field-0) now
    (of_pending (λ ops. IsCommitted c.self.inside.table.trees ops c.args.moment c.in_ok-trees.field-0) (own c.self.inside.table.tx_slots c.args.session c.args.tx) ops c.args.text_len pending c.in_ok-trees.ensures.ok) in
    if_err c.from_residual-in_err-outcome.result why _ c.from_residual-in_err-outcome.ensures.1
    (refused_so m c.args.unit.now c.args.moment ops (any_outweighs c.in_ok-trees.field-0.trees (unit_ops m c.args.unit.now) c.args.moment) why
    (λ heavy. heavy_outcome m c.args.unit.now c.args.moment ops made.light (ap (λ (ts : List TreeMap). any_outweighs ts (unit_ops m c.args.unit.now) c.args.moment) (sym made.trees) ∙ heavy))
    c.in_err-outcome.ensures.refused)

-- how long the change is
long_is : (ops others : List Op) (front rest sum bytes : ℕ) → front ≡ 16 + ops_encoded_len ops → rest ≡ ops_encoded_len others → sum ≡ min (front + rest) 18446744073709551615 → rest ≤ bytes → front + bytes ≤ 4194304 →
    (sum ≡ 16 + ops_encoded_len (ops ++ others)) × (sum ≤ 4194304)
long_is ops others front rest sum bytes a b e few short =
    (omega (arith, a, b, e, few, short, sum_by-append op_encoded_len ops others), omega (arith, e, few, short))

pub returns-in_err-room-clause-refused : goal.returns-in_err-room-clause-refused
returns-in_err-room-clause-refused c =
    let why = c.in_err-room.field-0.0 in
    let m = c.args.self.now.machine in
    let ops = c.args.ops.now in
    let now : c.self.inside.table.trees ≡ trees_now m = c.self.invariant.0.trees ∙ ap (λ (v : StoreView). trees_now v.machine) c.self.view_is in
    let pending : IsPending (own c.self.inside.table.tx_slots c.args.session c.args.tx) ops c.args.text_len = subst (λ (v : StoreView). IsPending (own v.machine.tx_slots c.args.session c.args.tx) ops c.args.text_len) (sym c.self.view_is) c.requires.pending in
    let counted = pending_len (own c.self.inside.table.tx_slots c.args.session c.args.tx) ops c.args.text_len pending in
    let made : IsCommitted (trees_now m) ops c.args.moment c.in_ok-trees.field-0 =
    subst (λ ts. IsCommitted ts ops c.args.moment c.in_ok-trees.field-0) now
    (of_pending (λ ops. IsCommitted c.self.inside.table.trees ops c.args.moment c.in_ok-trees.field-0) (own c.self.inside.table.tx_slots c.args.session c.args.tx) ops c.args.text_len pending c.in_ok-trees.ensures.ok) in
    let out = c.in_ok-outcome.ensures.ok in
    let long = long_is ops c.in_ok-outcome.outcome.ops.items c.args.text_len c.in_ok-outcome.outcome.text_len c.saturating_add-text_len.result (outcome_bytes m) counted out.long c.saturating_add-text_len.ensures out.few c.requires.short in
    if_err c.from_residual-in_err-room.result why _ c.from_residual-in_err-room.ensures.1
    (inl (crowded m c.args.unit.now c.args.moment ops c.saturating_add-text_len.result why made.light
    (ap (λ (l : List Op). any_outweighs (applied (trees_now m) ops c.args.moment) l c.args.moment) (sym out.ops) ∙ ap (λ (ts : List TreeMap). any_outweighs ts c.in_ok-outcome.outcome.ops.items c.args.moment) (sym made.trees) ∙ out.light)
    (long.0 ∙ ap (λ (l : List Op). 16 + ops_encoded_len (ops ++ l)) out.ops) c.in_err-room.ensures.refused))

pub returns-clause-ok : goal.returns-clause-ok
returns-clause-ok c =
    let m = c.args.self.now.machine in
    let ops = c.args.ops.now in
    let now : c.self.inside.table.trees ≡ trees_now m = c.self.invariant.0.trees ∙ ap (λ (v : StoreView). trees_now v.machine) c.self.view_is in
    let pending : IsPending (own c.self.inside.table.tx_slots c.args.session c.args.tx) ops c.args.text_len = subst (λ (v : StoreView). IsPending (own v.machine.tx_slots c.args.session c.args.tx) ops c.args.text_len) (sym c.self.view_is) c.requires.pending in
    let counted = pending_len (own c.self.inside.table.tx_slots c.args.session c.args.tx) ops c.args.text_len pending in
    let made : IsCommitted (trees_now m) ops c.args.moment c.in_ok-trees.field-0 =
    subst (λ ts. IsCommitted ts ops c.args.moment c.in_ok-trees.field-0) now
    (of_pending (λ ops. IsCommitted c.self.inside.table.trees ops c.args.moment c.in_ok-trees.field-0) (own c.self.inside.table.tx_slots c.args.session c.args.tx) ops c.args.text_len pending c.in_ok-trees.ensures.ok) in
    let out = c.in_ok-outcome.ensures.ok in
    let long = long_is ops c.in_ok-outcome.outcome.ops.items c.args.text_len c.in_ok-outcome.outcome.text_len c.saturating_add-text_len.result (outcome_bytes m) counted out.long c.saturating_add-text_len.ensures out.few c.requires.short in
    record {
      outcome = subst (λ ts. IsOutcomeChange m c.args.unit.now c.args.moment ts c.in_ok-outcome.outcome) made.trees out;
      light = made.light;
      carried = made.carried;
      long = long.0;
      short = long.1;
      roomy = c.in_ok-room.ensures.ok.0;
      room = c.in_ok-room.ensures.ok.1;
    }
