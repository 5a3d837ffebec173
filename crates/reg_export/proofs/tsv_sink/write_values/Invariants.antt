use Rattle.std.proofs.Common.{take}
use Rattle.std.specs.List.{flat_map}
use Rattle.std.specs.FinMap as finite
use Rattle.std.specs.Io.KnownBytes.{Appends}
use Rattle.key_walk.specs.KeyPaths.{names_on}
use Rattle.reg_export.specs.TsvTexts.{tsv_key_fields, tsv_value_line}
use Rattle.reg_export.proofs.tsv_sink.write_values.Given as goal

-- the lines of those so far were written
abbrev pub invariant-loop-index : goal.invariant-loop-index
invariant-loop-index g l = Appends (g.W.Write.contents l.fn.writer) (g.W.Write.contents l.writer) (flat_map (tsv_value_line (tsv_key_fields l.hive (names_on l.path, l.key))) (take l.index (finite.values l.values)))
