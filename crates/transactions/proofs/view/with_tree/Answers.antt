use Rattle.std.proofs.Common.{◌≡◌, ◌+◌, ◌++◌, ◌∷◌, [], List, sym, ◌∙◌, ap, arith}
use Rattle.std.specs.Prelude.{slice_set}
use Rattle.std.proofs.lemmas.List.{length-set}
use Rattle.reg_tree.specs.Maps.{TreeMap}
use Rattle.transactions.proofs.OtherTrees.{take_one_more}
use Rattle.transactions.proofs.view.with_tree.Goals as goal

pub loop-at-preserved : goal.loop-at-preserved
loop-at-preserved c =
    let trees = slice_set c.args.trees.now c.args.hive c.args.tree.now in
    let made = c.in_ok-tree_with.field-0 in
    c.in_ok-push.ensures.items ∙ ap (λ (l : List TreeMap). l ++ made ∷ []) c.loop-at.invariant
    ∙ sym (take_one_more trees c.loop-at.at made c.in_ok-tree_with.ensures (omega (arith, c.loop-at-test.true, c.len-at-end.ensures.all, length-set c.args.trees.now c.args.hive c.args.tree.now)))
