use Rattle.std.proofs.Common.{◌≡◌, ◌==◌, length}
use Rattle.std.specs.List.{list_any}
use Rattle.change_codec.proofs.hives.are_any.Given as goal

abbrev pub invariant-loop-one : goal.invariant-loop-one
invariant-loop-one l = list_any (λ one. one == l.hive) l.left ≡ list_any (λ one. one == l.hive) l.fn.left

abbrev pub decreases-loop-one : goal.decreases-loop-one
decreases-loop-one l = length l.left
