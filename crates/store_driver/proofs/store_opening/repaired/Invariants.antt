use Rattle.std.proofs.Common.{◌≡◌, ◌≤◌, false}
use Rattle.recovery.specs.Shown.{store_of}
use Rattle.recovery.specs.Repairs.{repairs_left}
use Rattle.store_driver.specs.Openings.{room_in}
use Rattle.store_driver.proofs.store_opening.repaired.Given as goal

-- the device has not failed, and it is the same store
abbrev pub invariant-loop-opened : goal.invariant-loop-opened
invariant-loop-opened g l = (l.opened.failed ≡ false) × (l.opened.found.number ≡ l.fn.opened.found.number) × (l.opened.found.trees ≡ l.fn.opened.found.trees) × (store_of l.opened ≡ store_of l.fn.opened)
    × (room_in l.opened ≡ room_in l.fn.opened) × (g.D.Disk.failures l.fn.opened.disk ≤ g.D.Disk.failures l.opened.disk) × (g.D.Disk.faithful l.opened.disk → g.D.Disk.faithful l.fn.opened.disk)

-- how many steps are left at most
abbrev pub decreases-loop-opened : goal.decreases-loop-opened
decreases-loop-opened g l = repairs_left l.opened.found.hives.items
