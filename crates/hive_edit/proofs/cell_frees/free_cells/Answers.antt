use Rattle.std.proofs.Common.{◌∙◌}
use Rattle.hive_edit.proofs.ValueFrees.{is_at, one_freed}
use Rattle.hive_edit.proofs.cell_frees.free_cells.Goals as goal

pub loop-at-preserved : goal.loop-at-preserved
loop-at-preserved c = record {
  freed = one_freed c.args.image.now.bytes c.loop-at.image.bytes c.free.new.self.bytes c.args.cells.now _ c.loop-at.invariant.freed c.in_ok-free.ensures.dropped (is_at c.args.cells.now c.loop-at.at-index c.loop-at-test.true);
  saved = c.in_ok-free.ensures.saved ∙ c.loop-at.invariant.saved;
}
