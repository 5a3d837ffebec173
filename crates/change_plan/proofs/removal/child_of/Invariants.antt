use Rattle.std.proofs.Common.{◌≡◌, take}
use Rattle.change_plan.proofs.removal.child_of.Given as goal

abbrev pub invariant-loop-above : goal.invariant-loop-above
invariant-loop-above l = l.names.items ≡ take l.above-index l.above-items
