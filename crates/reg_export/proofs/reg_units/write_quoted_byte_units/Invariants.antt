use Rattle.std.proofs.Common.{◌≡◌, ◌++◌, ℕ, List, length}
use Rattle.std.specs.List.{flat_map}
use Rattle.reg_export.specs.ByteUnits.{units_of}
use Rattle.reg_export.specs.Encodings.{Prints}
use Rattle.reg_export.specs.RegTexts.{escaped_unit}
use Rattle.reg_export.proofs.reg_units.write_quoted_byte_units.Given as goal

-- the units before those that are left were printed
abbrev pub invariant-loop-unit : goal.invariant-loop-unit
invariant-loop-unit g l =
    (done : List ℕ) × Prints l.encoding (g.W.Write.contents l.fn.writer) (g.W.Write.contents l.writer) (flat_map escaped_unit done) × (done ++ units_of l.rest ≡ units_of l.bytes)

abbrev pub decreases-loop-unit : goal.decreases-loop-unit
decreases-loop-unit g l = length l.rest
