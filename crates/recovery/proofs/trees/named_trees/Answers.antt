use Rattle.std.proofs.Common.{◌≡◌, ◌+◌, ◌++◌, ◌∷◌, [], suc, sym, ◌∙◌, ap, arith, List, take}
use Rattle.reg_tree.specs.Maps.{TreeMap}
use Rattle.commit_journal.proofs.Namings.{take_more}
use Rattle.recovery.proofs.trees.named_trees.Goals as goal

pub loop-hive-preserved : goal.loop-hive-preserved
loop-hive-preserved c =
    let hive = c.loop-hive.hive in
    let trees = c.args.trees.now in
    let next : hive + 1 ≡ suc hive = omega arith in
    let one : take (hive + 1) trees ≡ take hive trees ++ c.in-Some.tree.now ∷ [] = ap (λ n. take n trees) next ∙ take_more hive trees c.in-Some.tree.now (sym c.in-Some.ensures) in
    c.in_ok-push.ensures.items ∙ ap (λ (ts : List TreeMap). ts ++ c.in_ok-clone.field-0 ∷ []) c.loop-hive.invariant
    ∙ ap (λ (tree : TreeMap). take hive trees ++ tree ∷ []) c.in_ok-clone.ensures ∙ sym one
