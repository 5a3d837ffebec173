use Rattle.std.proofs.Common.{map, take}
use Rattle.std.specs.List.{flat_map}
use Rattle.reg_export.specs.Encodings.{Prints}
use Rattle.reg_export.specs.RegTexts.{reg_hive_lines}
use Rattle.reg_export.specs.Hives.{keys_of}
use Rattle.reg_export.proofs.whole_file.write_hives.Given as goal

-- the lines of the hives so far were printed
abbrev pub invariant-loop-hive : goal.invariant-loop-hive
invariant-loop-hive g l = Prints l.encoding (g.W.Write.contents l.fn.writer) (g.W.Write.contents l.writer) (flat_map reg_hive_lines (map keys_of (take l.hive-index l.hives)))
