use Rattle.std.proofs.Common.{inr}
use Rattle.hive_file_reader.specs.Hives.{not_loaded}
use Rattle.hive_file_reader.proofs.Files.{some_as, bins_refused}
use Rattle.hive_file_reader.proofs.hive.read_tree.Goals as goal

pub returns-in-Err-clause-unread : goal.returns-in-Err-clause-unread
returns-in-Err-clause-unread g c = bins_refused (g.R.Read.remaining c.args.reader.now) c.in-Err.error c.in-Err.ensures.unread

pub returns-clause-unread : goal.returns-clause-unread
returns-clause-unread g c = some_as (g.R.Read.remaining c.args.reader.now) (λ file has. inr (not_loaded c.in-Err-load.why c.in-Ok.read.0 c.in-Ok.read.1.bytes has c.in-Err-load.ensures.refused)) c.in-Ok.ensures.image

pub returns-in-Ok-load-clause-hive : goal.returns-in-Ok-load-clause-hive
returns-in-Ok-load-clause-hive g c = some_as (g.R.Read.remaining c.args.reader.now)
    (λ file has. record { block = c.in-Ok.read.0; bins = c.in-Ok.read.1.bytes; has = has.0; own = has.1; tree_is = (c.in-Ok-load.ensures.stands, c.in-Ok-load.ensures.within) }) c.in-Ok.ensures.image
