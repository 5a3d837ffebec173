use Rattle.std.proofs.Common.{◌++◌, ◌∷◌, [], List, ℕ, refl, sym, ap, subst, ◌∙◌, append_assoc}
use Rattle.std.specs.List.{flat_map}
use Rattle.std.proofs.lemmas.List.{append-nil}
use Rattle.std.proofs.lemmas.List.Concat.{flat_map-append}
use Rattle.reg_export.specs.ByteUnits.{units_of}
use Rattle.reg_export.specs.Encodings.{Prints}
use Rattle.reg_export.specs.RegTexts.{escaped_unit}
use Rattle.reg_export.specs.SinkLaws.{prints_both, prints_nothing}
use Rattle.reg_export.proofs.reg_units.write_quoted_byte_units.Goals as goal

pub loop-unit-init : goal.loop-unit-init
loop-unit-init g c = ([], prints_nothing c.args.encoding (g.W.Write.contents c.args.writer.now), refl)

pub loop-unit-preserved : goal.loop-unit-preserved
loop-unit-preserved g c =
    let before = c.loop-unit.invariant in
    let unit = c.in-Some.unit in (
      before.0 ++ unit ∷ [],
      prints_both c.args.encoding _ _ _ _ _ _ before.1 c.in_ok-write_escaped.ensures
          (ap (λ (t : List ℕ). flat_map escaped_unit before.0 ++ t) (sym (append-nil (escaped_unit unit))) ∙ sym (flat_map-append escaped_unit before.0 (unit ∷ []))),
      append_assoc before.0 (unit ∷ []) (units_of c.in-Some.others.now) ∙ ap (λ (us : List ℕ). before.0 ++ us) (sym c.in-Some.ensures.parts) ∙ before.2,
    )

pub returns : goal.returns
returns g c =
    let before = c.loop-unit.invariant in
    subst (λ (us : List ℕ). Prints c.args.encoding (g.W.Write.contents c.args.writer.now) (g.W.Write.contents c.loop-unit.writer) (flat_map escaped_unit us))
    (sym (append-nil before.0) ∙ ap (λ (us : List ℕ). before.0 ++ us) (sym c.in_default.ensures.parts) ∙ before.2) before.1
