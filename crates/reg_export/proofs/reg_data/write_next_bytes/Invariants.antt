use Rattle.std.proofs.Common.{◌≡◌, ◌++◌, ℕ, List, drop}
use Rattle.std.specs.List.{flat_map}
use Rattle.reg_export.specs.Encodings.{Prints}
use Rattle.reg_export.specs.RegTexts.{next_byte, at_columns}
use Rattle.reg_export.proofs.reg_data.write_next_bytes.Given as goal

-- the bytes before those that are left were printed, or are in the block; the next stands at the column
abbrev pub invariant-loop-byte : goal.invariant-loop-byte
invariant-loop-byte g l =
    (done : List ℕ) × Prints l.encoding (g.W.Write.contents l.fn.writer) (g.W.Write.contents l.writer) done
    × (done ++ (l.block.items ++ flat_map next_byte (at_columns l.column (drop l.byte-index l.bytes))) ≡ flat_map next_byte (at_columns l.fn.column l.bytes))
