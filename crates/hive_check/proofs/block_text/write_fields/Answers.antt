use Rattle.hive_check.proofs.Texts.{block_written, on_ok}
use Rattle.hive_check.proofs.block_text.write_fields.Goals as goal

pub returns : goal.returns
returns g c = on_ok c.write_store.result (block_written c.args.report.now _ _ _ _ c.in_ok-write_head.ensures c.in_ok-write_moment.ensures) c.write_store.ensures
