use Rattle.std.proofs.Common.{◌≡◌, take}
use Rattle.conflicts.specs.IndexKeys.{hasher_after}
use Rattle.conflicts.proofs.index_keys.hash_units.Given as goal

abbrev pub invariant-loop-unit : goal.invariant-loop-unit
invariant-loop-unit l = l.hasher ≡ hasher_after l.initial.hasher (take l.unit-index l.text)
