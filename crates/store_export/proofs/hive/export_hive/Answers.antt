use Rattle.std.proofs.Common.{IfSome, rules}
use Rattle.store_export.specs.HiveExports.{ReportsFile}
use Rattle.store_export.proofs.Told.{if_ok}
use Rattle.store_export.proofs.FilePrints.{file_reported}
use Rattle.store_export.proofs.hive.export_hive.Goals as goal

pub returns : goal.returns
returns g c =
    let contents = g.W.Write.contents in
    let known = g.R.Read.remaining c.args.reader.now in
    let old = contents c.args.writer.now in
    let mid = contents c.print_file-printed.new.writer in
    let new = contents c.reported.new.writer in
    let reported = if_ok {Q = λ status. IfSome known (λ file. ReportsFile c.args.request.now file old new status)} c.reported.result
    (λ status told. file_reported known c.args.request.now c.print_file-printed.result old mid new status c.print_file-printed.ensures told) c.reported.ensures in search rules
