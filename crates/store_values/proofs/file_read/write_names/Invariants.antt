use Rattle.std.proofs.Common.{take}
use Rattle.std.specs.List.{flat_map}
use Rattle.std.specs.Io.KnownBytes.{Appends}
use Rattle.store_values.specs.Answers.{subkey_line}
use Rattle.store_values.proofs.file_read.write_names.Given as goal

-- the lines of those so far were written
abbrev pub invariant-loop-name : goal.invariant-loop-name
invariant-loop-name g l = Appends (g.W.Write.contents l.fn.writer) (g.W.Write.contents l.writer) (flat_map subkey_line (take l.name-index l.names))
