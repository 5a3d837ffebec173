use Rattle.std.proofs.Common.{◌≡◌, List, ℕ, ◌++◌, ◌∷◌, [], sym, ap, subst, ◌∙◌}
use Rattle.std.specs.Io.KnownBytes.{Appends}
use Rattle.reply_lines.specs.Replies.{name_text}
use Rattle.tree_printer.specs.TreeTexts.{path_text}
use Rattle.key_walk.specs.KeyPaths.{names_on}
use Rattle.key_walk.proofs.Rows.{on_ok}
use Rattle.tree_printer.proofs.Paths.{written_behind}
use Rattle.tree_printer.proofs.key_path.+write_key_path.Goals as goal

pub returns-in_ok-write_all-in-Below-above : goal.returns-in_ok-write_all-in-Below-above
returns-in_ok-write_all-in-Below-above g t c = on_ok c.write_name-in-Below-above.result (λ named.
    let front = names_on c.in-Below-above.field-0.now in
    let before = c.in-Below-above.field-1.now in
    let last = c.in-Below.name.now in
    let above : names_on c.in-Below.above.now ≡ front ++ before ∷ [] = ap names_on c.in-Below-above.is in
    let whole : names_on c.args.key_path.now ≡ (front ++ before ∷ []) ++ last ∷ [] = ap names_on c.in-Below.is ∙ ap (λ (names : List (List ℕ)). names ++ last ∷ []) above in
    subst (λ (names : List (List ℕ)). Appends (g.W.Write.contents c.args.writer.now) (g.W.Write.contents c.write_name-in-Below-above.new.writer) (path_text names)) (sym whole)
    (written_behind _ _ _ _ front before last
    (subst (λ (names : List (List ℕ)). Appends (g.W.Write.contents c.args.writer.now) (g.W.Write.contents c.write_key_path.new.writer) (path_text names)) above c.in_ok-write_key_path-in-Below-above.ensures)
    c.in_ok-write_all-in-Below-above.ensures.bytes
    (subst (λ (name : List ℕ). Appends (g.W.Write.contents c.write_all.new.self) (g.W.Write.contents c.write_name-in-Below-above.new.writer) (name_text name)) c.units-in-Below-above.ensures named)))
    c.write_name-in-Below-above.ensures
