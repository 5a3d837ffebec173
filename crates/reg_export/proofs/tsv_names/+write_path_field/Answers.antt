use Rattle.std.proofs.Common.{◌≡◌, List, ℕ, ◌++◌, ◌∷◌, [], sym, ap, subst, ◌∙◌}
use Rattle.std.specs.Io.KnownBytes.{Appends}
use Rattle.key_walk.specs.KeyPaths.{names_on}
use Rattle.key_walk.proofs.Rows.{on_ok}
use Rattle.reg_export.specs.Fields.{name_field, path_field}
use Rattle.reg_export.proofs.FieldTexts.{field_behind}
use Rattle.reg_export.proofs.tsv_names.+write_path_field.Goals as goal

pub returns-in_ok-write_all-in-Below-above : goal.returns-in_ok-write_all-in-Below-above
returns-in_ok-write_all-in-Below-above g t c = on_ok c.write_name_field-in-Below-above.result (λ named.
    let front = names_on c.in-Below-above.field-0.now in
    let before = c.in-Below-above.field-1.now in
    let last = c.in-Below.name.now in
    let above : names_on c.in-Below.above.now ≡ front ++ before ∷ [] = ap names_on c.in-Below-above.is in
    let whole : names_on c.args.path.now ≡ (front ++ before ∷ []) ++ last ∷ [] = ap names_on c.in-Below.is ∙ ap (λ (names : List (List ℕ)). names ++ last ∷ []) above in
    subst (λ (names : List (List ℕ)). Appends (g.W.Write.contents c.args.writer.now) (g.W.Write.contents c.write_name_field-in-Below-above.new.writer) (path_field names)) (sym whole)
    (field_behind _ _ _ _ front before last
    (subst (λ (names : List (List ℕ)). Appends (g.W.Write.contents c.args.writer.now) (g.W.Write.contents c.write_path_field.new.writer) (path_field names)) above c.in_ok-write_path_field-in-Below-above.ensures)
    c.in_ok-write_all-in-Below-above.ensures.bytes
    (subst (λ (name : List ℕ). Appends (g.W.Write.contents c.write_all.new.self) (g.W.Write.contents c.write_name_field-in-Below-above.new.writer) (name_field name)) c.units-in-Below-above.ensures named)))
    c.write_name_field-in-Below-above.ensures
