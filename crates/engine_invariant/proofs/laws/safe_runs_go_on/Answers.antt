use Rattle.std.specs.Prelude.{⊤}
use Rattle.engine_invariant.specs.Prefixes.{IsSafeAt}
use Rattle.engine_invariant.proofs.Running.{runs_on, safe_in, is_run, run_long, at_moment}
use Rattle.engine_invariant.proofs.laws.safe_runs_go_on.Goals as goal

pub returns : goal.returns
returns c = record {
  continues = λ store was is old mid new events replies event reply run past told there.
      runs_on (IsSafeAt store is) old mid new events replies event reply
      (safe_in (IsSafeAt store was) (IsSafeAt store is) old mid events replies (c.crashes_leave_prefixes.ensures.past store was is mid.clock past) run) told there;
  answers = λ old mid new events replies event reply run told. runs_on (λ k m. ⊤) old mid new events replies event reply run told tt;
  runs = λ old new events replies run. (is_run (λ k m. ⊤) old new events replies run, run_long (λ k m. ⊤) old new events replies run);
  each_moment = λ store states old new events replies run. at_moment (IsSafeAt store states) old new events replies run;
}
