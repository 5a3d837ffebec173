use Rattle.std.proofs.Common.{◌≡◌, ◌<◌, ◌≤◌, ◌^◌, ◌-◌, length}
use Rattle.reg_file.specs.Scanning.{digits_from}
use Rattle.reg_file.proofs.hex_number.digits_behind.Given as goal

abbrev pub invariant-loop-unit : goal.invariant-loop-unit
invariant-loop-unit l = (digits_from l.left l.number l.rest ≡ digits_from 7 l.first l.line) × (l.left ≤ 7) × (l.number < 16 ^ (8 - l.left))

abbrev pub decreases-loop-unit : goal.decreases-loop-unit
decreases-loop-unit l = length l.rest
