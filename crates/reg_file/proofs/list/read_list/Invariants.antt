use Rattle.std.proofs.Common.{◌≡◌, length}
use Rattle.reg_file.specs.Scanning.{Before, list_at, onto_list}
use Rattle.reg_file.proofs.list.read_list.Given as goal

abbrev pub invariant-loop-unit : goal.invariant-loop-unit
invariant-loop-unit l = onto_list l.bytes (list_at Before l.rest) ≡ onto_list l.fn.bytes (list_at Before l.line)

abbrev pub decreases-loop-unit : goal.decreases-loop-unit
decreases-loop-unit l = length l.rest
