use Rattle.std.proofs.Common.{◌≡◌, ◌<◌, ◌∙◌, false, ap, sym, subst}
use Rattle.std.proofs.lemmas.Bool.{true≢false}
use Rattle.recovery.specs.Shown.{Shown, store_of}
use Rattle.store_driver.specs.Openings.{HasLived}
use Rattle.store_driver.proofs.OpeningLives.{found_lives}
use Rattle.store_driver.proofs.store_opening.begun.Goals as goal

pub returns-in-Err-clause-left : goal.returns-in-Err-clause-left
returns-in-Err-clause-left g c =
    let D = g.D.Disk in
    let first = c.args.opened in
    let back = c.in-Err.opened in
    let is : back ≡ first = c.in-Err.ensures.refused.1 in
    let kept = c.keeps_what_was_found.ensures in
    let Failed : _ → Type 0 = λ d. D.failures first.disk < D.failures d in
    let whole : back.failed ≡ false = ap (λ (o : Shown _). o.failed) is ∙ c.requires.1 in
    subst (λ d. D.faithful d → HasLived (Failed d) (store_of first) first.found.number first.found.trees (D.state_at d (D.clock d))) (sym c.into_disk.ensures)
    (λ f. subst (λ (o : Shown _). HasLived (Failed back.disk) (store_of o) o.found.number o.found.trees (D.state_at back.disk (D.clock back.disk))) is
    (found_lives (Failed back.disk) false (store_of back) back.found.number back.found.trees (D.state_at back.disk (D.clock back.disk)) kept.many (kept.crash f) (λ e. kept.read f whole) (λ e. absurd (true≢false (sym e)))))
