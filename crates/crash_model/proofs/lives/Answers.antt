use Rattle.crash_model.proofs.RunsKeep.{runs_keep, runs_safe, runs_go_on, runs_rise}
use Rattle.crash_model.proofs.lives.Goals as goal

pub returns : goal.returns
returns g c = record {
  keeps = λ r most hives s engine ts run. runs_keep r most hives s engine ts run;
  safe = λ r most hives s engine ts run. runs_safe r most hives s engine ts run;
  continues = λ r most hives s engine ts run. runs_go_on r most hives s engine ts run;
  rises = λ r most hives s engine ts run. runs_rise r most hives s engine ts run;
}
