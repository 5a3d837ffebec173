use Rattle.std.proofs.Common.{◌++◌, [], List, ℕ, refl, sym, ap, subst, ◌∙◌, append_assoc}
use Rattle.std.specs.List.{flat_map}
use Rattle.std.proofs.lemmas.List.{append-nil}
use Rattle.std.proofs.lemmas.List.Concat.{flat_map-append}
use Rattle.reg_export.specs.Characters.{units_in}
use Rattle.reg_export.specs.Encodings.{Prints}
use Rattle.reg_export.specs.RegTexts.{escaped_unit}
use Rattle.reg_export.specs.SinkLaws.{prints_both, prints_nothing}
use Rattle.reg_export.proofs.reg_units.write_quoted_units.Goals as goal

pub loop-first-init : goal.loop-first-init
loop-first-init g c = ([], prints_nothing c.args.encoding (g.W.Write.contents c.args.writer.now), refl)

pub loop-first-preserved : goal.loop-first-preserved
loop-first-preserved g c =
    let before = c.loop-first.invariant in
    let units = units_in c.in-Some.first in (
      before.0 ++ units,
      prints_both c.args.encoding _ _ _ _ _ _ before.1 c.in_ok-write_quoted.ensures (sym (flat_map-append escaped_unit before.0 units)),
      append_assoc before.0 units c.in-Some.others.now ∙ ap (λ (us : List ℕ). before.0 ++ us) c.in-Some.ensures.parts ∙ before.2,
    )

pub returns : goal.returns
returns g c =
    let before = c.loop-first.invariant in
    subst (λ (us : List ℕ). Prints c.args.encoding (g.W.Write.contents c.args.writer.now) (g.W.Write.contents c.loop-first.writer) (flat_map escaped_unit us))
    (sym (append-nil before.0) ∙ ap (λ (us : List ℕ). before.0 ++ us) (sym c.in_default.ensures.parts) ∙ before.2) before.1
