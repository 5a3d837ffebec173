use Rattle.crash_model.proofs.KeepSteps.{step_keeps, reopens_keeps, reopens_goes, reopens_quiet, begun, fresh}
use Rattle.crash_model.proofs.kept.Goals as goal

pub returns : goal.returns
returns g c = record {
  step = λ r most hives old new. step_keeps r most hives old new;
  reopens = λ r most hives old new engine step. (reopens_keeps r most hives old new engine step, reopens_goes r most hives old new engine step);
  quiet = λ r most hives old new kept all step. reopens_quiet r most hives old new kept all step;
  begins = λ r most hives decoded held n trees. begun r most hives decoded held n trees;
  created = λ r most hives some trees all_allowed. fresh r most hives some trees all_allowed;
}
