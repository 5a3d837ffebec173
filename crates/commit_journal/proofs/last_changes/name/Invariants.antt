use Rattle.std.proofs.Common.{length}
use Rattle.change_codec.specs.Changes.{hives_of}
use Rattle.commit_journal.proofs.Namings.{HasNamed}
use Rattle.commit_journal.proofs.last_changes.name.Given as goal

abbrev pub invariant-loop-hive : goal.invariant-loop-hive
invariant-loop-hive l = HasNamed l.fn.last l.number (hives_of l.change) l.last l.hives

abbrev pub decreases-loop-hive : goal.decreases-loop-hive
decreases-loop-hive l = length l.hives
