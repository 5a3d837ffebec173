use Rattle.std.proofs.Common.{ℕ, List, Option, drop, take}
use Rattle.std.specs.Io.KnownBytes.{Appends}
use Rattle.crash_lab.specs.Experiments.{trees_text}
use Rattle.crash_lab.proofs.reply.write_trees.Given as goal

-- whatever is written of the trees from here on, it is all of the text of those that are named, with what was written
abbrev pub invariant-loop-hive : goal.invariant-loop-hive
invariant-loop-hive g l =
    (after : Option (List ℕ)) → Appends (g.W.Write.contents l.writer) after (trees_text l.hive (drop l.hive (take l.hives l.trees))) → Appends (g.W.Write.contents l.fn.writer) after (trees_text 0 (take l.hives l.trees))
