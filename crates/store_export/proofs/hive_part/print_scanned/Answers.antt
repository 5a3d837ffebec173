use Rattle.key_walk.specs.KeyRows.{tree_rows}
use Rattle.store_export.specs.declared.request.Form.TheVariants.{Reg, Json, Tsv}
use Rattle.key_walk.specs.KeyPaths.{names_on}
use Rattle.hive_walk.specs.Walks.{rows_under}
use Rattle.store_export.proofs.FilePrints.{in_form, scanned_by, tsv_shown}
use Rattle.store_export.proofs.hive_part.print_scanned.Goals as goal

pub returns-in-Reg : goal.returns-in-Reg
returns-in-Reg g c = λ tree encodes seen.
    in_form c.print_file.result c.args.form (Reg c.in-Reg.encoding) c.args.prefix.now (rows_under (names_on c.args.way.now) (tree_rows tree)) _ _ c.in-Reg.is (c.print_file.ensures tree encodes seen)

pub returns-in-Json : goal.returns-in-Json
returns-in-Json g c = λ tree encodes seen.
    let keys = rows_under (names_on c.args.way.now) (tree_rows tree) in
    in_form c.print_json.result c.args.form Json c.args.prefix.now keys _ _ c.in-Json.is (scanned_by c.print_json.result Json c.args.prefix.now keys _ _ (λ shown. shown) (c.print_json.ensures tree encodes))

pub returns-in-Tsv : goal.returns-in-Tsv
returns-in-Tsv g c = λ tree encodes seen.
    let keys = rows_under (names_on c.args.way.now) (tree_rows tree) in
    in_form c.print_tsv.result c.args.form Tsv c.args.prefix.now keys _ _ c.in-Tsv.is (scanned_by c.print_tsv.result Tsv c.args.prefix.now keys _ _ (tsv_shown c.args.prefix.now keys _ _) (c.print_tsv.ensures tree encodes))
