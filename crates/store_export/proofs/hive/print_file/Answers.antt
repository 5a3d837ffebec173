use Rattle.std.proofs.Common.{rules}
use Rattle.store_export.proofs.FilePrints.{file_asked, file_unread}
use Rattle.store_export.proofs.hive.print_file.Goals as goal

pub returns-in_err-read : goal.returns-in_err-read
returns-in_err-read g c =
    let stopped = file_unread (Unit {0}) (g.R.Read.remaining c.args.reader.now) c.args.request.now (g.W.Write.contents c.args.writer.now) c.in_err-read.field-0.0 c.in_err-read.ensures.refused in search rules

pub returns : goal.returns
returns g c =
    file_asked (g.R.Read.remaining c.args.reader.now) c.args.request.now _ _ c.in_ok-read.read.0 c.in_ok-read.read.1.bytes c.print_asked.result c.in_ok-read.ensures.read c.print_asked.ensures
