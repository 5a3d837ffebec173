use Rattle.std.proofs.Common.{List, ℕ, ap, ◌++◌, codes}
use Rattle.std.specs.Fmt.{decimal}
use Rattle.std.specs.FinMap as finite
use Rattle.std.proofs.lemmas.List.Folds.{flat_map-map}
use Rattle.reply_lines.proofs.Written.{appends_both}
use Rattle.key_walk.specs.KeyRows.{spelled_names}
use Rattle.key_walk.proofs.Rows.{on_ok}
use Rattle.tree_printer.specs.TreeTexts.{named_lines, tree_text}
use Rattle.std.specs.Io.KnownBytes.{Appends}
use Rattle.tree_printer.specs.Printed.{at_end}
use Rattle.tree_printer.proofs.keys.write_tree.Goals as goal

pub returns : goal.returns
returns g c = on_ok c.walk_tree.result (λ lines.
    at_end (λ w. Appends (g.W.Write.contents c.args.writer.now) (g.W.Write.contents w) (tree_text c.args.hive c.args.tree.now)) (assumption) lines.2
    (appends_both _ _ _ _ _ _ c.in_ok-writeln.ensures.bytes lines.0 (ap (λ (text : List ℕ). codes "hive " ++ decimal c.args.hive ++ codes "\n" ++ text) (flat_map-map (named_lines c.args.hive) (λ entry. (spelled_names c.args.tree.now entry.0, entry.1)) (finite.entries c.args.tree.now))))) c.walk_tree.ensures
