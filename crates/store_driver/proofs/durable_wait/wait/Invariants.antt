use Rattle.std.proofs.Common.{◌≤◌, Option}
use Rattle.refusals.specs.declared.refusal.Refusal.{Refusal}
use Rattle.store_model.specs.Machine.{Machine, last_number}
use Rattle.engine_invariant.specs.Progress.{steps_to_all}
use Rattle.store_driver.specs.Later.{IsLater}
use Rattle.store_driver.specs.Waits.{IsWaited}
use Rattle.store_driver.proofs.durable_wait.wait.Given as goal

-- however the wait continues, it is the whole wait; and the store was reached from the first one
abbrev pub invariant-loop-engine : goal.invariant-loop-engine
invariant-loop-engine g l = (l.number ≤ last_number l.engine.machine) × IsLater g.D.Disk.faithful g.D.Disk.failures l.fn.engine l.engine × ((ended : Option Refusal) (new : Machine) → IsWaited l.engine.machine l.number ended new → IsWaited l.fn.engine.machine l.number ended new)

-- how many steps of the journal are left at most
abbrev pub decreases-loop-engine : goal.decreases-loop-engine
decreases-loop-engine g l = steps_to_all l.engine.machine l.engine.left
