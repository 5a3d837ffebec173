use Rattle.hive_flush_model.proofs.Moving.{raised_written, raised_failed, raised_synced}
use Rattle.hive_flush_model.proofs.laws.marking_calls.Goals as goal

pub returns : goal.returns
returns g c = record {
  written = λ decode w p l new sound on done. raised_written decode w p l new sound on done;
  failed = λ decode w p l new sound on part. raised_failed decode w p l new sound on part;
  synced = λ decode w p l new mark sound on done. raised_synced decode w p l new sound on done;
}
