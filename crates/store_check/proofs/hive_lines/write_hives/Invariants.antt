use Rattle.std.proofs.Common.{ℕ, List, Option, drop}
use Rattle.std.specs.Io.KnownBytes.{Appends}
use Rattle.recovery.specs.Retained.{numbered_changes}
use Rattle.store_check.specs.StoreTexts.{hive_lines}
use Rattle.store_check.proofs.hive_lines.write_hives.Given as goal

-- whatever is written of the hives from here on, it is all of their lines with what was written
abbrev pub invariant-loop-hive : goal.invariant-loop-hive
invariant-loop-hive g l =
    (after : Option (List ℕ)) → Appends (g.W.Write.contents l.writer) after (hive_lines l.named l.hive (numbered_changes l.changes) (drop l.hive l.hives)) → Appends (g.W.Write.contents l.fn.writer) after (hive_lines l.named 0 (numbered_changes l.changes) l.hives)
