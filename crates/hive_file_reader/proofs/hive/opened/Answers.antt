use Rattle.std.proofs.Common.{subst}
use Rattle.hive_file_reader.specs.Readings.{BinsOrRefusal}
use Rattle.hive_file_reader.proofs.Files.{unread_bins, untiled}
use Rattle.hive_file_reader.proofs.hive.opened.Goals as goal

pub returns-in-Err-open-clause-unread : goal.returns-in-Err-open-clause-unread
returns-in-Err-open-clause-unread c = λ known read.
    untiled known c.in-Ok.block c.in-Ok.bytes.items c.in-Err-open.unopened.refusal (subst (BinsOrRefusal known) c.in-Ok.is read) c.in-Err-open.ensures.1

pub returns-in-Err-clause-unread : goal.returns-in-Err-clause-unread
returns-in-Err-clause-unread c = λ known read. unread_bins known c.in-Err.why (subst (BinsOrRefusal known) c.in-Err.is read)
