use Rattle.reg_round_trip.proofs.Clauses.{whole_restores, whole_ended}
use Rattle.reg_round_trip.proofs.laws.exports_restore_trees.Goals as goal

pub returns-clause-restores : goal.returns-clause-restores
returns-clause-restores c = λ encoding prefixes trees moment old can. whole_restores (record { wide = c.text_is_read.ensures.wide; crlf = c.text_is_read.ensures.crlf; read = c.files_are_parsed.ensures.read }) encoding prefixes trees moment old can

pub returns-clause-ended : goal.returns-clause-ended
returns-clause-ended c = λ encoding prefixes trees moment unit old new outcome can ends. whole_ended (record { wide = c.text_is_read.ensures.wide; crlf = c.text_is_read.ensures.crlf; read = c.files_are_parsed.ensures.read }) encoding prefixes trees moment old can unit new outcome ends
