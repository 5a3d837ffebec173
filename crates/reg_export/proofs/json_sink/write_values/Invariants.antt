use Rattle.std.proofs.Common.{take}
use Rattle.std.specs.List.{flat_map}
use Rattle.std.specs.FinMap as finite
use Rattle.std.specs.Io.KnownBytes.{Appends}
use Rattle.key_walk.specs.KeyPaths.{names_on}
use Rattle.reg_export.specs.Moments.{utc_field}
use Rattle.reg_export.specs.JsonTexts.{json_key_fields, json_value_line}
use Rattle.reg_export.proofs.json_sink.write_values.Given as goal

-- the lines of those so far were written
abbrev pub invariant-loop-index : goal.invariant-loop-index
invariant-loop-index g l = Appends (g.W.Write.contents l.fn.writer) (g.W.Write.contents l.writer) (flat_map (json_value_line (json_key_fields l.hive (utc_field l.utc) (names_on l.path, l.key))) (take l.index (finite.values l.values)))
