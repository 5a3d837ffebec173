use Rattle.std.proofs.Common.{◌∙◌, inl, inr, refl, sym, subst}
use Rattle.recovery.specs.Shown.{store_of}
use Rattle.store_create.proofs.Upgrades.{if_err_both}
use Rattle.store_create.proofs.layout_upgrade.open_alone.Goals as goal

pub returns-in-HivesAlone-clause-kept : goal.returns-in-HivesAlone-clause-kept
returns-in-HivesAlone-clause-kept g c =
    let opened = c.in_ok-opened.opened in
    if_err_both c.repaired.result _ _ _ (λ back was left f. inr (store_of opened, opened.found.number, opened.found.trees, c.in_ok-opened.ensures.recovered (was f), left f)) c.repaired.ensures.back c.repaired.ensures.kept

pub returns-in-WithOutcomes-clause-err : goal.returns-in-WithOutcomes-clause-err
returns-in-WithOutcomes-clause-err g c =
    let D = g.D.Disk in
    let opened = c.in_ok-opened.opened in
    inr (inr (inr (inl (
      refl,
      λ f. (
        store_of opened,
        opened.found.number,
        opened.found.trees,
        c.in_ok-opened.ensures.recovered (subst (λ d. D.faithful d) c.into_disk.ensures f),
        sym c.layout.ensures ∙ c.in-WithOutcomes.is,
      ),
    ))))
