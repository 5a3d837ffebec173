use Rattle.std.proofs.lemmas.Result.{IfErr-weaker}
use Rattle.disk_model.proofs.Unwritten.{synced_still}
use Rattle.store_driver.proofs.OpeningLives.{left_unopened}
use Rattle.store_driver.proofs.store_opening.found.Goals as goal

pub returns-clause-left : goal.returns-clause-left
returns-clause-left g c =
    let D = g.D.Disk in
    IfErr-weaker c.open.result _ _ (λ back syncs. left_unopened _ (D.faithful back.1) (D.state_at c.args.disk (D.clock c.args.disk)) (D.state_at back.1 (D.clock back.1)) (λ f. synced_still (syncs f))) c.open.ensures.back
