use Rattle.hive_mending.proofs.Mended.{cell_gap}
use Rattle.hive_mending.proofs.cells.mend_cell.Goals as goal

pub returns : goal.returns
returns c = cell_gap c.args.bytes.now _ _ _ _ _ _ c.requires.before c.requires.here c.in_default.ensures c.requires.restart c.put_free.auto.bytes c.put_free.ensures.size c.put_free.ensures.free c.put_free.ensures.others c.in_ok-push.ensures.items
