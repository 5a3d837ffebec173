use Rattle.std.proofs.Common.{Ok, Err, subst}
use Rattle.hive_file_reader.specs.Readings.{RefusalFitsFileAs}
use Rattle.hive_dump.proofs.output.dump.Goals as goal

pub returns-in_ok-write_dump-in-Ok-clause-dumped : goal.returns-in_ok-write_dump-in-Ok-clause-dumped
returns-in_ok-write_dump-in-Ok-clause-dumped g c = (Ok c.in-Ok.tree, c.in-Ok.ensures.hive, c.in_ok-write_dump-in-Ok.ensures.1, c.in_ok-write_dump-in-Ok.ensures.0)

pub returns-in_ok-write_refusal-in-Err-Refused-clause-dumped : goal.returns-in_ok-write_refusal-in-Err-Refused-clause-dumped
returns-in_ok-write_refusal-in-Err-Refused-clause-dumped g c = (Err c.in-Err-Refused.why, subst (RefusalFitsFileAs 0 (g.R.Read.remaining c.args.reader.now)) c.in-Err-Refused.field-0-is c.in-Err-Refused.ensures.unread, c.in_ok-write_refusal-in-Err-Refused.ensures.1, c.in_ok-write_refusal-in-Err-Refused.ensures.0)
