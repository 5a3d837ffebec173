use Rattle.std.proofs.Common.{List, ℕ, ap, sym, ◌∙◌, ◌∷◌, take, arith}
use Rattle.std.specs.Int.{w16, from_le_bytes}
use Rattle.reg_export.specs.ByteUnits.{units_of}
use Rattle.reg_export.proofs.Lists.{one_unit, no_unit}
use Rattle.reg_export.proofs.byte_units.first_unit.Goals as goal

pub returns-in-Some-clause-parts : goal.returns-in-Some-clause-parts
returns-in-Some-clause-parts c =
    let cut = c.in-Some.ensures.cases in
    let bytes = c.args.bytes.now in
    one_unit bytes (omega (arith, cut.2)) ∙ ap (λ (rest : List ℕ). from_le_bytes w16 (take 2 bytes) ∷ units_of rest) (sym cut.1)
    ∙ ap (λ (pair : List ℕ). from_le_bytes w16 pair ∷ units_of c.in-Some.rest.now) (sym cut.0) ∙ ap (λ (unit : ℕ). unit ∷ units_of c.in-Some.rest.now) (sym c.from_le_bytes.ensures)

pub returns-in-None-clause-parts : goal.returns-in-None-clause-parts
returns-in-None-clause-parts c = no_unit c.args.bytes.now c.in-None.ensures.cases
