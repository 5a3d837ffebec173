use Rattle.hive_records.proofs.Follow.{follows_on, follows_out}
use Rattle.hive_records.proofs.reading_laws.follows.Goals as goal

pub returns-clause-on : goal.returns-clause-on
returns-clause-on g c = λ m f cells first then last x r h k. follows_on m f cells first then last x r h k

pub returns-clause-out : goal.returns-clause-out
returns-clause-out g c = λ m f cells first then last e h. follows_out m f cells first then last e h
