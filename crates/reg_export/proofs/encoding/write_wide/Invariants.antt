use Rattle.std.proofs.Common.{◌≡◌, ◌++◌, ℕ, List, drop}
use Rattle.std.specs.List.{flat_map}
use Rattle.std.specs.Int.{w16, to_le_bytes}
use Rattle.std.specs.Io.KnownBytes.{Appends}
use Rattle.reg_export.proofs.encoding.write_wide.Given as goal

-- the bytes of the units before those that are left were written, or are in the block
abbrev pub invariant-loop-byte : goal.invariant-loop-byte
invariant-loop-byte g l =
    (done : List ℕ) × Appends (g.W.Write.contents l.fn.writer) (g.W.Write.contents l.writer) done
    × (done ++ (l.block.items ++ flat_map (to_le_bytes w16) (drop l.byte-index l.text)) ≡ flat_map (to_le_bytes w16) l.text)
