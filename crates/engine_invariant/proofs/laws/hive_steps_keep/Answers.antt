use Rattle.std.proofs.Common.{refl}
use Rattle.engine_invariant.specs.Answers.{opened_above, accepted_above}
use Rattle.std.proofs.Common.{◌++◌}
use Rattle.engine_invariant.proofs.Flushing.{lacked_is, may_take, up, takes_in, flush_goes}
use Rattle.engine_invariant.proofs.laws.hive_steps_keep.Goals as goal

pub returns : goal.returns
returns c = record {
  lacks = λ machine base opened journal hives i old kept is.
      (up machine base opened journal hives kept i old is, may_take machine base opened journal hives kept i old is (opened_above base opened old.memory.1 ++ accepted_above machine old.memory.1) refl);
  above = λ machine base opened journal hives i number kept. lacked_is machine base opened kept.begun kept.kept.within.opened i number;
  takes = λ machine base opened journal hives i old kept is idle. takes_in machine base opened journal hives kept i old is idle;
  step = λ machine base opened journal hives i old new result kept free is same sound says.
      flush_goes c.steps_keep_invariant.ensures.step machine base opened journal hives kept free i old is new same result says sound;
}
