use Rattle.engine_invariant.proofs.Folding.{fold_keeps}
use Rattle.engine_invariant.proofs.laws.folds_keep.Goals as goal

pub returns : goal.returns
returns c = λ old new number base opened journal hives kept step.
    fold_keeps base opened journal hives old kept step.all_durable c.steps_keep_invariant.ensures.step number new step
