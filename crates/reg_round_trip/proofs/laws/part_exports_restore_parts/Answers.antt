use Rattle.reg_round_trip.proofs.Clauses.{part_does, part_ended}
use Rattle.reg_round_trip.proofs.laws.part_exports_restore_parts.Goals as goal

pub returns-clause-restores : goal.returns-clause-restores
returns-clause-restores c = λ encoding prefixes hive tree top moment old can. part_does (record { wide = c.text_is_read.ensures.wide; crlf = c.text_is_read.ensures.crlf; read = c.files_are_parsed.ensures.read }) encoding prefixes hive tree top moment old can

pub returns-clause-ended : goal.returns-clause-ended
returns-clause-ended c = λ encoding prefixes hive tree top moment unit old new outcome can ends. part_ended (record { wide = c.text_is_read.ensures.wide; crlf = c.text_is_read.ensures.crlf; read = c.files_are_parsed.ensures.read }) encoding prefixes hive tree top moment old can unit new outcome ends
