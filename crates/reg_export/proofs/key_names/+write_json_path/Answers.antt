use Rattle.std.proofs.Common.{◌≡◌, List, ℕ, ◌++◌, ◌∷◌, [], sym, ap, subst, ◌∙◌}
use Rattle.std.specs.List.{flat_map, join_with_byte}
use Rattle.std.specs.Io.KnownBytes.{Appends}
use Rattle.key_walk.specs.KeyPaths.{names_on}
use Rattle.key_walk.proofs.Rows.{on_ok}
use Rattle.reg_export.specs.UnitForms.{json_unit}
use Rattle.reg_export.proofs.Joined.{json_behind}
use Rattle.reg_export.proofs.key_names.+write_json_path.Goals as goal

pub returns-in_ok-write_all-in-Below-above : goal.returns-in_ok-write_all-in-Below-above
returns-in_ok-write_all-in-Below-above g t c = on_ok c.write_units-in-Below-above.result (λ named.
    let front = names_on c.in-Below-above.field-0.now in
    let before = c.in-Below-above.field-1.now in
    let last = c.in-Below.name.now in
    let above : names_on c.in-Below.above.now ≡ front ++ before ∷ [] = ap names_on c.in-Below-above.is in
    let whole : names_on c.args.path.now ≡ (front ++ before ∷ []) ++ last ∷ [] = ap names_on c.in-Below.is ∙ ap (λ (names : List (List ℕ)). names ++ last ∷ []) above in
    let text : List (List ℕ) → List ℕ = λ names. flat_map json_unit (join_with_byte 92 names) in
    subst (λ (names : List (List ℕ)). Appends (g.W.Write.contents c.args.writer.now) (g.W.Write.contents c.write_units-in-Below-above.new.writer) (text names)) (sym whole)
    (json_behind _ _ _ _ front before last
    (subst (λ (names : List (List ℕ)). Appends (g.W.Write.contents c.args.writer.now) (g.W.Write.contents c.write_json_path.new.writer) (text names)) above c.in_ok-write_json_path-in-Below-above.ensures)
    c.in_ok-write_all-in-Below-above.ensures.bytes
    (subst (λ (name : List ℕ). Appends (g.W.Write.contents c.write_all.new.self) (g.W.Write.contents c.write_units-in-Below-above.new.writer) (flat_map json_unit name)) c.units-in-Below-above.ensures named)))
    c.write_units-in-Below-above.ensures
