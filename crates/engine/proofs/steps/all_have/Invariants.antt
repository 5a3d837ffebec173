use Rattle.std.proofs.Common.{◌≡◌, ◌<◌, ◌≤◌, ℕ, Some, slice_get}
use Rattle.hive_flush.specs.HiveStates.{file_choice}
use Rattle.hive_flush.specs.declared.hive.HiveFile.{HiveFile}
use Rattle.engine.proofs.steps.all_have.Given as goal

abbrev pub invariant-loop-place : goal.invariant-loop-place
invariant-loop-place l = (i m : ℕ) (hive : HiveFile) → i < l.place → slice_get l.hives i ≡ Some hive → slice_get l.last i ≡ Some m → m ≤ (file_choice hive).now.1
