use Rattle.std.proofs.Common.{Option}
use Rattle.store_model.specs.Machine.{Machine}
use Rattle.refusals.specs.declared.refusal.Refusal.{Refusal}
use Rattle.store_driver.specs.Later.{IsLater}
use Rattle.store_driver.specs.Work.{MakesSteps}
use Rattle.store_driver.proofs.background_work.run_until_idle.Given as goal

-- however the work continues, it is the whole work; and the store was reached from the first one
abbrev pub invariant-loop : goal.invariant-loop
invariant-loop g l = IsLater g.D.Disk.faithful g.D.Disk.failures l.fn.engine l.engine × ((ended : Option Refusal) (new : Machine) → MakesSteps ended l.engine.machine new → MakesSteps ended l.fn.engine.machine new)
