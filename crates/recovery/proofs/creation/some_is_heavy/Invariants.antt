use Rattle.recovery.proofs.Creations.{LightUpTo}
use Rattle.recovery.proofs.creation.some_is_heavy.Given as goal

abbrev pub invariant-loop-hive : goal.invariant-loop-hive
invariant-loop-hive l = LightUpTo l.hive l.trees
