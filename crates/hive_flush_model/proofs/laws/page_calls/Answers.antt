use Rattle.hive_flush_model.proofs.Moving.{page_written, page_failed, pages_synced}
use Rattle.hive_flush_model.proofs.laws.page_calls.Goals as goal

pub returns : goal.returns
returns g c = record {
  written = λ decode w n a m p l new mark sound on from within clean dirty done. page_written decode w n a m p l new sound on from within clean dirty done;
  failed = λ decode w n a m p l new mark on from dirty part. page_failed decode w n a m p l new on from dirty part;
  synced = λ decode w n p l new mark sound on clean done. pages_synced decode w n mark p l new sound on clean done;
}
