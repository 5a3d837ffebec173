use Rattle.std.proofs.Common.{take}
use Rattle.std.specs.List.{flat_map}
use Rattle.std.specs.FinMap as finite
use Rattle.reg_export.specs.Encodings.{Prints}
use Rattle.reg_export.specs.RegTexts.{reg_value_line}
use Rattle.reg_export.proofs.reg_value.write_values.Given as goal

-- the lines of those so far were printed
abbrev pub invariant-loop-index : goal.invariant-loop-index
invariant-loop-index g l = Prints l.encoding (g.W.Write.contents l.fn.writer) (g.W.Write.contents l.writer) (flat_map reg_value_line (take l.index (finite.values l.values)))
