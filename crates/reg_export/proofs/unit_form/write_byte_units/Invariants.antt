use Rattle.std.proofs.Common.{◌≡◌, ◌++◌, ℕ, List, length}
use Rattle.std.specs.List.{flat_map}
use Rattle.std.specs.Io.KnownBytes.{Appends}
use Rattle.reg_export.specs.ByteUnits.{units_of}
use Rattle.reg_export.specs.UnitForms.{form_text}
use Rattle.reg_export.proofs.unit_form.write_byte_units.Given as goal

-- the text of the units before those that are left was written
abbrev pub invariant-loop-unit : goal.invariant-loop-unit
invariant-loop-unit g l =
    (done : List ℕ) × Appends (g.W.Write.contents l.fn.writer) (g.W.Write.contents l.writer) (flat_map (form_text l.form) done) × (done ++ units_of l.rest ≡ units_of l.bytes)

abbrev pub decreases-loop-unit : goal.decreases-loop-unit
decreases-loop-unit g l = length l.rest
