use Rattle.std.proofs.Common.{◌≡◌, ◌∷◌, ℕ, List, rules, subst, sym}
use Rattle.std.specs.List.{flat_map}
use Rattle.std.specs.Io.KnownBytes.{Appends}
use Rattle.reply_lines.specs.Replies.{name_text}
use Rattle.reply_lines.proofs.Written.{appends_both}
use Rattle.key_walk.proofs.Rows.{on_ok}
use Rattle.tree_printer.specs.TreeTexts.{path_text}
use Rattle.tree_printer.proofs.Paths.{first_and_others}
use Rattle.tree_printer.proofs.key_path.write_path.Goals as goal

pub returns-in_ok-write_name-in-Some : goal.returns-in_ok-write_name-in-Some
returns-in_ok-write_name-in-Some g c = on_ok c.write_others.result (λ others.
    let first = c.in-Some.first.now in
    let rest = c.in-Some.others.now in
    let whole : c.args.names.now ≡ first ∷ rest = search rules in
    subst (λ (names : List (List ℕ)). Appends (g.W.Write.contents c.args.writer.now) (g.W.Write.contents c.write_others.new.writer) (path_text names)) (sym whole)
    (appends_both _ _ _ (name_text first) (flat_map (λ name. 92 ∷ name_text name) rest) (path_text (first ∷ rest))
    (subst (λ (name : List ℕ). Appends (g.W.Write.contents c.args.writer.now) (g.W.Write.contents c.write_name.new.writer) (name_text name)) c.units.ensures c.in_ok-write_name-in-Some.ensures)
    others (first_and_others first rest)))
    c.write_others.ensures
