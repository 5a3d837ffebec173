use Rattle.std.proofs.Common.{take}
use Rattle.std.specs.List.{flat_map}
use Rattle.std.specs.FinMap as finite
use Rattle.std.specs.Io.KnownBytes.{Appends}
use Rattle.store_values.specs.Answers.{value_line}
use Rattle.store_values.proofs.file_read.write_all_values.Given as goal

-- the lines of those so far were written
abbrev pub invariant-loop-index : goal.invariant-loop-index
invariant-loop-index g l = Appends (g.W.Write.contents l.fn.writer) (g.W.Write.contents l.writer) (flat_map value_line (take l.index (finite.values l.values)))
