use Rattle.std.proofs.Common.{◌≡◌, ◌++◌, take}
use Rattle.hive_recovery.proofs.sequence.append.Given as goal

abbrev pub invariant-more : goal.invariant-more
invariant-more l = l.entries.items ≡ l.initial.entries.items ++ take l.entry-index l.more
