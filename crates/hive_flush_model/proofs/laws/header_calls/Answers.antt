use Rattle.hive_flush_model.proofs.Moving.{final_written, final_failed, final_synced}
use Rattle.hive_flush_model.proofs.laws.header_calls.Goals as goal

pub returns : goal.returns
returns g c = record {
  written = λ decode w p l new mark sound on done. final_written decode w mark p l new sound on done;
  failed = λ decode w p l new mark sound on part. final_failed decode w mark p l new sound on part;
  synced = λ decode w v p l new mark sound on size done. final_synced decode w v mark p l new sound on size done;
}
