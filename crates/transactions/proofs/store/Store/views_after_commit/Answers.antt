use Rattle.std.proofs.Common.{◌≡◌, ◌+◌, ◌<◌, ℕ, true, List, [], length, Some, Option, sym, ◌∙◌, ap, subst, cond, slice_set, slice_index_or}
use Rattle.std.specs.Prelude.{IfOk, slice_get}
use Rattle.std.specs.List.{AllByRecursion}
use Rattle.std.proofs.lemmas.Result.{IfOk-weaker}
use Rattle.std.proofs.lemmas.Option.{get_or_from_slice_get}
use Rattle.reg_tree.specs.Fresh.{fresh_tree}
use Rattle.reg_tree.specs.Maps.{TreeMap}
use Rattle.reg_tree.specs.Operations.{hive_of}
use Rattle.reg_tree.specs.Judgement.{applied}
use Rattle.reg_tree.specs.declared.op.Op.{Op}
use Rattle.commit_outcomes.specs.Units.{unit_name}
use Rattle.commit_outcomes.specs.Operations.{outcome_ops}
use Rattle.store_model.specs.Machine.{Machine, has_outcomes, outcome_tree, trees_now, last_number}
use Rattle.store_model.proofs.TreeCounts.{all_long, ops_long}
use Rattle.transactions.specs.Entries.{AreRebased}
use Rattle.transactions.specs.Prepared.{IsJudgedCommit, unit_ops}
use Rattle.transactions.specs.Stores.{StoreView}
use Rattle.transactions.specs.contracts.store.Store.{the_view}
use Rattle.transactions.specs.Tables.{Table}
use Rattle.transactions.specs.declared.prepared.JudgedCommit.{JudgedCommit}
use Rattle.transactions.proofs.OtherTrees.{all_on, outcome_on}
use Rattle.transactions.proofs.store.Store.views_after_commit.Goals as goal

-- how many trees there are after a commit
long_after : (m : Machine) (unit : List ℕ) (moment : ℕ) (ops : List Op) (judged : JudgedCommit) → IsJudgedCommit m unit moment ops judged → length judged.outcome.trees ≡ length m.opened
long_after m unit moment ops judged j =
    ap (λ (ts : List TreeMap). length ts) j.outcome.trees ∙ ops_long (applied (trees_now m) ops moment) judged.outcome.ops.items moment ∙ ops_long (trees_now m) ops moment ∙ all_long m.opened m.accepted

-- if outcomes are kept, a commit makes another tree of outcomes of the trees after its operations
other_after : (m : Machine) (unit : List ℕ) (moment : ℕ) (ops : List Op) (judged : JudgedCommit) (tree : TreeMap) → IsJudgedCommit m unit moment ops judged → has_outcomes m ≡ true → slice_get judged.outcome.trees m.bounds.hives ≡ Some tree →
    judged.outcome.trees ≡ slice_set (applied (trees_now m) ops moment) m.bounds.hives tree
other_after m unit moment ops judged tree j keeps there =
    let front = applied (trees_now m) ops moment in
    let hive = m.bounds.hives in
    let extra : judged.outcome.ops.items ≡ outcome_ops hive (outcome_tree m.bounds (trees_now m)) (last_number m + 1, unit_name unit) =
    j.outcome.ops ∙ ap (λ b. cond b (outcome_ops hive (outcome_tree m.bounds (trees_now m)) (last_number m + 1, unit_name unit)) []) keeps in
    let on : AllByRecursion (λ op. hive_of op ≡ hive) judged.outcome.ops.items = subst (λ (l : List Op). AllByRecursion (λ op. hive_of op ≡ hive) l) (sym extra) (outcome_on hive (outcome_tree m.bounds (trees_now m)) (last_number m + 1, unit_name unit)) in
    j.outcome.trees ∙ all_on front hive judged.outcome.ops.items moment on
    ∙ ap (slice_set front hive) (ap (λ ts. slice_index_or ts hive fresh_tree) (sym j.outcome.trees) ∙ get_or_from_slice_get judged.outcome.trees hive tree fresh_tree there)

pub outcome_tree-requires : goal.outcome_tree-requires
outcome_tree-requires c = long_after c.args.self.now.machine c.requires.judged.0 c.args.moment c.args.ops.now c.args.judged.now c.requires.judged.1

-- the store as its fields show it
abbrev store_view : goal.After-views_with → StoreView
store_view c = the_view c.self.inside

pub returns-in-Some : goal.returns-in-Some
returns-in-Some c =
    let m = c.args.self.now.machine in
    let now = c.self.inside.table.trees in
    let rebased = c.in_ok-rebased.rebased.items in
    let old = (store_view c).machine in
    let numbered : AreRebased (applied now c.args.ops.now c.args.moment) (last_number old + 1) old.tx_slots rebased =
    subst (λ n. AreRebased (applied now c.args.ops.now c.args.moment) (n + 1) c.self.inside.table.tx_slots rebased) c.self.invariant.0.number c.in_ok-rebased.ensures in
    let before : AreRebased (applied (trees_now m) c.args.ops.now c.args.moment) (last_number m + 1) m.tx_slots rebased =
    subst (λ (v : StoreView). AreRebased (applied (trees_now v.machine) c.args.ops.now c.args.moment) (last_number v.machine + 1) v.machine.tx_slots rebased) c.self.view_is
    (subst (λ ts. AreRebased (applied ts c.args.ops.now c.args.moment) (last_number old + 1) old.tx_slots rebased) c.self.invariant.0.trees numbered) in
    let other = other_after m c.requires.judged.0 c.args.moment c.args.ops.now c.args.judged.now c.in-Some.tree.now c.requires.judged.1 c.in-Some.ensures.0 c.in-Some.ensures.1 in
    let hives : c.self.inside.table.hives ≡ m.bounds.hives = c.self.invariant.0.hives ∙ ap (λ (v : StoreView). v.machine.bounds.hives) c.self.view_is in
    IfOk-weaker c.views_with.result _ _ (λ made after.
    subst (λ ts. AreRebased ts (last_number m + 1) m.tx_slots made.items) (sym other)
    (subst (λ h. AreRebased (slice_set (applied (trees_now m) c.args.ops.now c.args.moment) h c.in-Some.tree.now) (last_number m + 1) m.tx_slots made.items) hives
    (subst (λ (v : StoreView). AreRebased (slice_set (applied (trees_now m) c.args.ops.now c.args.moment) c.self.inside.table.hives c.in-Some.tree.now) (last_number m + 1) v.machine.tx_slots made.items) c.self.view_is
    (after (applied (trees_now m) c.args.ops.now c.args.moment) (last_number m + 1) c.root.ensures.tree
    (subst (λ (v : StoreView). AreRebased (applied (trees_now m) c.args.ops.now c.args.moment) (last_number m + 1) v.machine.tx_slots rebased) (sym c.self.view_is) before)))))
    c.views_with.ensures
