use Rattle.std.proofs.Common.{sym, ◌∙◌}
use Rattle.std.proofs.lemmas.Option.{same_Some}
use Rattle.crash_model.specs.Promises.{nothing}
use Rattle.engine_invariant.proofs.Ending.{batch_settles, trim_ends}
use Rattle.engine_invariant.proofs.laws.ended_steps_effects.Goals as goal

pub returns : goal.returns
returns c = record {
  settles = batch_settles;
  frees = λ machine base opened old new hives kept trims ends. trim_ends machine base opened old new hives kept ends.0 ends.2 (same_Some ends.0 nothing (sym ends.1 ∙ trims));
}
