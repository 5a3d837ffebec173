use Rattle.ktm_calls.specs.Moments.{SeesSteps}
use Rattle.ktm_calls.proofs.registry.Registry.wait_durable.Given as goal

abbrev pub invariant-loop : goal.invariant-loop
invariant-loop g l = SeesSteps g.O.Start.sole l.fn.mine l.mine
