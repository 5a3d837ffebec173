use Rattle.std.proofs.Common.{inl, inr, sym}
use Rattle.std.proofs.lemmas.Result.{IfErr-weaker}
use Rattle.recovery.proofs.creation.judge_last.Goals as goal

pub returns-in-Some-clause-fails : goal.returns-in-Some-clause-fails
returns-in-Some-clause-fails c = IfErr-weaker c.judge_tree.result _ _ (λ why refused. elim (refused) [
  | inl memory ↦ inl memory
  | inr wrong ↦ inr (c.in-Some.tree.now, sym c.in-Some.ensures, wrong)
]) c.judge_tree.ensures.fails
