use Rattle.std.proofs.Common.{sym}
use Rattle.key_walk.specs.KeyRows.{tree_rows}
use Rattle.store_export.specs.declared.request.Form.TheVariants.{Reg}
use Rattle.key_walk.specs.KeyPaths.{names_on}
use Rattle.hive_walk.specs.Walks.{rows_under}
use Rattle.store_export.proofs.FilePrints.{bad_name, file_shown, scanned_by}
use Rattle.store_export.proofs.hive_part.print_file.Goals as goal

pub returns-then-not-can_show : goal.returns-then-not-can_show
returns-then-not-can_show g c = λ tree encodes seen.
    bad_name (Unit {0}) c.args.encoding c.args.names c.args.prefix.now (rows_under (names_on c.args.way.now) (tree_rows tree)) _ seen (sym c.if-not-can_show.ensures)

pub returns : goal.returns
returns g c = λ tree encodes seen.
    let keys = rows_under (names_on c.args.way.now) (tree_rows tree) in
    scanned_by c.print_reg.result (Reg c.args.encoding) c.args.prefix.now keys _ _ (file_shown c.args.encoding c.args.prefix.now keys _ _) (c.print_reg.ensures tree encodes)
