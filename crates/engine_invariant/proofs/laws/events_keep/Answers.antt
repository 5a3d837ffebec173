use Rattle.engine_invariant.proofs.Accepting.{request_keeps}
use Rattle.engine_invariant.proofs.laws.events_keep.Goals as goal

pub returns : goal.returns
returns c = λ old new base opened journal hives event reply kept quiet step.
    request_keeps base opened journal hives c.trees_have_commits.ensures.passes c.only_steps_make_durable.ensures c.steps_keep_invariant.ensures.step old new kept event reply quiet step
