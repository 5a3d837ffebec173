use Rattle.hive_flush_model.proofs.Moving.{begins, repair_begins, absorbed}
use Rattle.hive_flush_model.proofs.laws.without_calls.Goals as goal

pub returns : goal.returns
returns g c = record {
  begins = λ decode w p l ready on. begins decode w p l ready on;
  repair = λ decode w p l mark ready rest unclean long behind log. repair_begins decode w p l ready rest unclean long behind log;
  absorb = λ decode w memory image v p l marks on. absorbed decode w memory image v p marks on;
}
