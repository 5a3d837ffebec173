use Rattle.hive_mending.proofs.Mended.{bin_on, page_on}
use Rattle.hive_mending.proofs.bins.mend_bin.Goals as goal

pub returns-in_ok-mend_cells-in-Some : goal.returns-in_ok-mend_cells-in-Some
returns-in_ok-mend_cells-in-Some c = bin_on _ _ _ _ _ _ c.requires.pages c.requires.here c.in-Some.ensures.0 c.in-Some.ensures.1 c.in_ok-mend_cells-in-Some.ensures

pub returns-in_ok-push-in-None : goal.returns-in_ok-push-in-None
returns-in_ok-push-in-None c = page_on _ _ _ _ _ c.requires.pages c.requires.here c.requires.before c.in-None.ensures c.lay_page.auto.bytes c.lay_page.ensures.page c.lay_page.ensures.before c.lay_page.ensures.after c.in_ok-push-in-None.ensures.items
