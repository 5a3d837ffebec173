use Rattle.std.proofs.Common.{◌∷◌, ◌++◌, [], List, ℕ, sym, ap, ◌∙◌, append_assoc}
use Rattle.std.specs.List.{flat_map}
use Rattle.std.proofs.lemmas.List.{append-nil}
use Rattle.std.proofs.lemmas.List.Concat.{flat_map-append}
use Rattle.reply_lines.proofs.Written.{appends_both}
use Rattle.reg_export.specs.ByteUnits.{units_of}
use Rattle.reg_export.specs.UnitForms.{form_text}
use Rattle.reg_export.proofs.unit_form.write_byte_units.Goals as goal

pub loop-unit-preserved : goal.loop-unit-preserved
loop-unit-preserved g c =
    let before = c.loop-unit.invariant in
    let unit = c.in-Some.unit in
    let text = form_text c.args.form in (
      before.0 ++ unit ∷ [],
      appends_both _ _ _ _ _ _ before.1 c.in_ok-write_unit.ensures (ap (λ (t : List ℕ). flat_map text before.0 ++ t) (sym (append-nil (text unit))) ∙ sym (flat_map-append text before.0 (unit ∷ []))),
      append_assoc before.0 (unit ∷ []) (units_of c.in-Some.others.now) ∙ ap (λ (us : List ℕ). before.0 ++ us) (sym c.in-Some.ensures.parts) ∙ before.2,
    )
