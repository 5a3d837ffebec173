use Rattle.engine.proofs.Living.{repaired, ran}
use Rattle.engine.proofs.laws.calls_are_lives.Goals as goal

pub returns : goal.returns
returns c = record {
  repairs = repaired;
  runs = ran c.safe_runs_go_on.ensures.each_moment c.safe_runs_go_on.ensures.runs;
}
