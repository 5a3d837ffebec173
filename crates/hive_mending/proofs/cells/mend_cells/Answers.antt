use Rattle.std.proofs.lemmas.Result.{on_ok_weaker}
use Rattle.hive_mending.proofs.Mended.{cells_both, cells_sound}
use Rattle.hive_mending.proofs.cells.mend_cells.Goals as goal

pub returns : goal.returns
returns c = on_ok_weaker c.mend_broken.result (λ done. cells_both _ _ _ _ _ _ _ (c.sound_end-broken.ensures.mends _) done) c.mend_broken.ensures

pub returns-then-broken-end : goal.returns-then-broken-end
returns-then-broken-end c = cells_sound _ _ _ _ _ c.if-broken-end.true (c.sound_end-broken.ensures.mends _)
