use Rattle.std.proofs.Common.{◌≤◌, ◌+◌, ◌*◌, ◌-◌, length}
use Rattle.change_plan.specs.Removals.{DeletesMore}
use Rattle.change_plan.proofs.removal.+levels.Given as goal

-- a child's path has one name more, up to 512
abbrev pub decreases-remove : goal.decreases-remove
decreases-remove l = 2 * (512 - length l.path.now) + 1

abbrev pub decreases-remove_child : goal.decreases-remove_child
decreases-remove_child l = 2 * (512 - length l.path.now)

-- deletions of keys below the path were added
abbrev pub invariant-remove-loop-index : goal.invariant-remove-loop-index
invariant-remove-loop-index l = (l.index ≤ length l.names) × DeletesMore l.initial.made l.moment l.hive l.path l.made
