use Rattle.hive_flush_model.proofs.Planning.{ready, ready_again}
use Rattle.hive_flush_model.proofs.laws.plans.Goals as goal

pub returns : goal.returns
returns g c = record {
  flush = λ decode memory image v old plan size loggable kind tree number fits raised_long raised final_long final encoding.
      ready decode memory image v old plan size loggable kind tree number fits raised_long raised final_long final encoding;
  repair = λ decode memory old primary log raised final whole covered tree number fits raised_long raised_is final_long final_is.
      ready_again decode memory old primary log raised final whole covered tree number fits raised_long raised_is final_long final_is;
}
