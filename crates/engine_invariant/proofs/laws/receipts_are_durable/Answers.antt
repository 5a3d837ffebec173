use Rattle.engine_invariant.proofs.Receipts.{all_held}
use Rattle.engine_invariant.proofs.laws.receipts_are_durable.Goals as goal

pub returns : goal.returns
returns c = all_held c.only_steps_make_durable.ensures c.steps_keep_invariant.ensures.step
