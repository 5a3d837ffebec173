use Rattle.std.proofs.Common.{◌≡◌, ◌≤◌, take}
use Rattle.recovery.specs.Retained.{count_lacked, numbered_changes}
use Rattle.recovery.proofs.retained_changes.RetainedChanges.count_lacked.Given as goal

abbrev pub invariant-loop-place : goal.invariant-loop-place
invariant-loop-place l = record {
  few : l.count ≤ l.place;
  count : l.count ≡ count_lacked l.hive l.number (take l.place (numbered_changes l.self));
}
