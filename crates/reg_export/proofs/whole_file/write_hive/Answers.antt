use Rattle.key_walk.proofs.Rows.{on_ok}
use Rattle.tree_printer.specs.Printed.{at_end}
use Rattle.reg_export.specs.Encodings.{Prints}
use Rattle.reg_export.specs.RegTexts.{reg_hive_lines}
use Rattle.reg_export.specs.Hives.{keys_of}
use Rattle.reg_export.proofs.whole_file.write_hive.Goals as goal

pub returns : goal.returns
returns g c = on_ok c.walk_tree.result (λ printed.
    at_end (λ w. Prints c.args.encoding (g.W.Write.contents c.args.writer.now) (g.W.Write.contents w) (reg_hive_lines (keys_of c.args.hive.now))) (assumption) printed.3 printed.0) c.walk_tree.ensures
