use Rattle.engine_invariant.proofs.Stepping.{journal_goes, trim_goes}
use Rattle.engine_invariant.proofs.laws.journal_steps_keep.Goals as goal

pub returns : goal.returns
returns c = record {
  batch = λ machine base opened old new hives result kept free sound says.
      journal_goes c.steps_keep_invariant.ensures.step machine base opened old new hives kept free result says sound;
  trim = λ machine base opened old new hives result kept free may sound says.
      trim_goes c.steps_keep_invariant.ensures.step machine base opened old new hives kept free may result says sound;
}
