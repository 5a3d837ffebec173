use Rattle.hive_flush_model.proofs.Showing.{reads_honest}
use Rattle.hive_flush_model.proofs.laws.reads_are_honest.Goals as goal

pub returns : goal.returns
returns g c = λ decode work phase p l sound on rests. reads_honest decode work phase p l sound on rests
