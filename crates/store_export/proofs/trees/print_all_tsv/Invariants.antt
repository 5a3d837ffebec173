use Rattle.std.proofs.Common.{ℕ, List, Option, drop}
use Rattle.std.specs.Io.KnownBytes.{Appends}
use Rattle.store_export.specs.Exports.{all_rows, tsv_text}
use Rattle.store_export.proofs.trees.print_all_tsv.Given as goal

-- whatever is written of the hives from here on, it is all of their text with what was written
abbrev pub invariant-loop-hive : goal.invariant-loop-hive
invariant-loop-hive g l =
    (after : Option (List ℕ)) → Appends (g.W.Write.contents l.writer) after (tsv_text (all_rows l.hive (drop l.hive l.trees))) → Appends (g.W.Write.contents l.fn.writer) after (tsv_text (all_rows 0 l.trees))
