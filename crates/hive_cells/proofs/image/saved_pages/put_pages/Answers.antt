use Rattle.std.proofs.Common.{◌∙◌}
use Rattle.hive_cells.proofs.SavedPages.{page_back}
use Rattle.hive_cells.proofs.image.saved_pages.put_pages.Goals as goal

pub loop-index-preserved : goal.loop-index-preserved
loop-index-preserved c = (
  c.put_page.ensures.len ∙ c.loop-index.invariant.0,
  λ old s i within. page_back old c.args.bytes.now c.loop-index.bytes c.put_page.new.bytes c.args.order.now c.args.saved.now c.loop-index.index i s c.loop-index-test.true within c.put_page.ensures.its c.put_page.ensures.others (c.loop-index.invariant.1 old s i within),
)
