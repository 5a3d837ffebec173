use Rattle.hive_flush_model.proofs.Moving.{log_written, log_failed, log_synced, log_synced_alone}
use Rattle.hive_flush_model.proofs.laws.log_calls.Goals as goal

pub returns : goal.returns
returns g c = record {
  written = λ decode w n chunk p l new on fits is done. log_written decode w n chunk p l new on fits is done;
  failed = λ decode w n chunk p l new on part. log_failed decode w n chunk p l new on part;
  synced = λ decode w p l new on done. log_synced decode w p l new on done;
  unchanged = λ decode w p l new on clean done. log_synced_alone decode w p l new on clean done;
}
