use Rattle.std.proofs.Common.{take}
use Rattle.std.specs.List.{flat_map}
use Rattle.std.specs.Io.KnownBytes.{Appends}
use Rattle.reg_export.specs.UnitForms.{form_text}
use Rattle.reg_export.proofs.unit_form.write_units.Given as goal

-- the text of those so far was written
abbrev pub invariant-loop-unit : goal.invariant-loop-unit
invariant-loop-unit g l = Appends (g.W.Write.contents l.fn.writer) (g.W.Write.contents l.writer) (flat_map (form_text l.form) (take l.unit-index l.units))
