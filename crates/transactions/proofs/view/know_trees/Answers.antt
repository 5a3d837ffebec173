use Rattle.std.proofs.Common.{◌≡◌, inl, inr, ap, arith, ◌∙◌}
use Rattle.std.specs.Prelude.{slice_get}
use Rattle.std.proofs.lemmas.Bool.{cases_lt}
use Rattle.std.proofs.lemmas.Option.{slice_get_within}
use Rattle.transactions.proofs.view.know_trees.Goals as goal

pub loop-hive-preserved : goal.loop-hive-preserved
loop-hive-preserved c = λ hive tree below there. elim (cases_lt hive c.loop-hive.hive) [
  | inl less ↦ c.loop-hive.invariant hive tree less there
  | inr more ↦
      let same : c.loop-hive.hive ≡ hive = omega (arith, below, more) in
      c.know_tree.ensures tree (ap (slice_get c.args.trees.now) same ∙ there)
]

pub returns : goal.returns
returns c = λ hive tree there. c.loop-hive.invariant hive tree (omega (arith, slice_get_within c.args.trees.now hive tree there)) there
