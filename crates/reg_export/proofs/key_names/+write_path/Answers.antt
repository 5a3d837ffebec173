use Rattle.std.proofs.Common.{◌++◌, ◌∷◌, [], List, ℕ, sym, ap, subst, ◌∙◌, codes, refl}
use Rattle.std.specs.List.{flat_map}
use Rattle.std.proofs.lemmas.List.{append-nil}
use Rattle.std.proofs.lemmas.List.Concat.{flat_map-append}
use Rattle.key_walk.specs.KeyPaths.{names_on}
use Rattle.key_walk.proofs.Rows.{on_ok}
use Rattle.key_walk.specs.declared.key_path.KeyPath.{KeyPath}
use Rattle.reg_export.specs.Encodings.{Prints}
use Rattle.reg_export.specs.SinkLaws.{prints_both, prints_nothing}
use Rattle.reg_export.proofs.key_names.+write_path.Goals as goal

pub returns-in_default : goal.returns-in_default
returns-in_default g t c =
    let known = g.W.Write.contents c.args.writer.now in
    subst (λ (path : KeyPath). Prints c.args.encoding known known (flat_map (λ name. codes "\\" ++ name) (names_on path))) (sym c.in_default.is) (prints_nothing c.args.encoding known)

pub returns : goal.returns
returns g t c = on_ok c.write_plain_units.result (λ named.
    let last = c.units.result.now in
    let above = names_on c.in-Below.above.now in
    let text : List ℕ → List ℕ = λ name. codes "\\" ++ name in
    prints_both c.args.encoding _ _ _ _ _ _ c.in_ok-write_path.ensures (prints_both c.args.encoding _ _ _ _ _ _ c.in_ok-write_text.ensures named refl)
    (ap (λ (rest : List ℕ). flat_map text above ++ rest) (sym (append-nil (text last))) ∙ sym (flat_map-append text above (last ∷ [])) ∙ ap (λ (name : List ℕ). flat_map text (above ++ name ∷ [])) c.units.ensures ∙ ap (λ path. flat_map text (names_on path)) (sym c.in-Below.is)))
    c.write_plain_units.ensures
