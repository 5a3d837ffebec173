use Rattle.std.proofs.Common.{rules}
use Rattle.key_walk.specs.KeyPaths.{names_on}
use Rattle.key_walk.specs.KeyRows.{tree_rows}
use Rattle.hive_walk.specs.Walks.{rows_under}
use Rattle.store_export.proofs.FilePrints.{unscanned}
use Rattle.store_export.proofs.hive_part.print_keys.Goals as goal

pub returns-in_err-names : goal.returns-in_err-names
returns-in_err-names g c = λ tree encodes.
    let lacking = unscanned (Unit {0}) c.args.form c.args.prefix.now (rows_under (names_on c.args.way.now) (tree_rows tree)) (g.W.Write.contents c.args.writer.now) (g.W.Write.contents c.args.writer.now) c.in_err-names.field-0.0 c.in_err-names.ensures.refused in search rules

pub returns : goal.returns
returns g c = λ tree encodes. c.print_scanned.ensures tree encodes (c.in_ok-names.ensures.scanned tree encodes)
