use Rattle.std.proofs.Common.{◌≡◌, ◌⊎◌, ◌<◌, ◌≤◌, ℕ, Some, slice_get}
use Rattle.hive_flush.specs.HiveStates.{memory_of}
use Rattle.hive_flush.specs.declared.hive.HiveFile.{HiveFile}
use Rattle.engine.proofs.flushes.flushed_by_all.Given as goal

abbrev pub invariant-loop-place : goal.invariant-loop-place
invariant-loop-place l = record {
  high : l.held ≤ l.durable;
  held : (i m : ℕ) (hive : HiveFile) → i < l.place → slice_get l.hives i ≡ Some hive → slice_get l.last i ≡ Some m → (m ≤ (memory_of hive).1) ⊎ (l.held ≤ (memory_of hive).1);
}
