use Rattle.std.proofs.Common.{◌≡◌, ◌≤◌, length, map, take}
use Rattle.std.specs.Prelude.{vec_capacity}
use Rattle.hive_flush.specs.HiveStates.{file_choice}
use Rattle.hive_flush.specs.declared.hive.HiveFile.{HiveFile}
use Rattle.recovery.proofs.numbers.numbers_of.Given as goal

abbrev pub invariant-loop-hive : goal.invariant-loop-hive
invariant-loop-hive l = record {
  items : l.numbers.items ≡ map (λ (hive : HiveFile). (file_choice hive).now.1) (take l.hive-index l.hives);
  room : length l.hives ≤ vec_capacity l.numbers;
}
