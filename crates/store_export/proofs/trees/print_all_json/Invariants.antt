use Rattle.std.proofs.Common.{ℕ, List, Option, drop}
use Rattle.store_export.specs.Exports.{PrintsJson, all_rows}
use Rattle.store_export.proofs.trees.print_all_json.Given as goal

-- whatever is written of the hives from here on, it is all of their text with what was written
abbrev pub invariant-loop-hive : goal.invariant-loop-hive
invariant-loop-hive g l =
    (after : Option (List ℕ)) → PrintsJson (all_rows l.hive (drop l.hive l.trees)) (g.W.Write.contents l.writer) after → PrintsJson (all_rows 0 l.trees) (g.W.Write.contents l.fn.writer) after
