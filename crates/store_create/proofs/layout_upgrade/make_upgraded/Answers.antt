use Rattle.std.proofs.Common.{◌≡◌, ◌∙◌, ◌<◌, ◌≤◌, ◌+◌, List, length, inr, ap, arith, sym, subst}
use Rattle.std.proofs.lemmas.Result.{on_ok_weaker}
use Rattle.commit_journal.specs.Store.{hives_in}
use Rattle.commit_journal.specs.Journals as journals
use Rattle.commit_journal.specs.declared.store_layout.Layout.{Layout}
use Rattle.hive_files.specs.Frames.{RefusalHasCause}
use Rattle.recovery.specs.Created.{IsRefusedFor}
use Rattle.recovery.specs.Recovered.{IsRecovered, seen_in}
use Rattle.recovery.specs.Shown.{store_of}
use Rattle.recovery.specs.declared.found.RecoveredStore.{RecoveredStore}
use Rattle.store_create.specs.Creations.{IsNewStore}
use Rattle.store_driver.specs.Openings.{CrashesRecover}
use Rattle.store_create.specs.Upgrades.{AreNotUpgraded}
use Rattle.store_create.proofs.Creations.{new_where_made, not_made_as}
use Rattle.store_create.proofs.Upgrades.{refused_of_files, touches_more}
use Rattle.store_create.proofs.layout_upgrade.make_upgraded.Goals as goal

pub returns-in-Ok-clause-made : goal.returns-in-Ok-clause-made
returns-in-Ok-clause-made g c =
    let O = g.O.Disk in
    let N = g.N.Disk in
    let opened = c.in-Ok.opened in
    let parts = c.into_parts-source.result in
    let e = c.into_parts-source.ensures in
    let kept = c.keeps_what_was_found.ensures in
    let created = c.create-made in
    let state = N.state_at created.new.disk (N.clock created.new.disk) in
    let was : O.faithful parts.0 → O.faithful opened.disk = subst (λ d. O.faithful d) e.disk in
    on_ok_weaker created.result (λ new. (
      opened.found.trees,
      record {
        store = store_of opened;
        number = opened.found.number;
        alone = c.in-Ok.ensures.alone;
        recovered = λ f. c.in-Ok.ensures.recovered (was f);
        kept = λ f. subst (λ d. CrashesRecover (store_of opened) opened.found.number opened.found.trees (O.state_at d (O.clock d))) (sym e.disk) (kept.crash (was f));
        seen = λ f. subst (λ d. IsRecovered (seen_in (O.state_at d (O.clock d))) (store_of opened) opened.found.number opened.found.trees) (sym e.disk)
            (kept.crash (was f) (seen_in (O.state_at opened.disk (O.clock opened.disk))) (kept.read (was f) c.in-Ok.ensures.whole.1));
        created = λ f. subst (λ (found : RecoveredStore). IsNewStore (journals.store_of found.journal).id found.trees state) e.found (subst (λ (id : List _). IsNewStore id parts.1.trees state) c.id.ensures (new f));
      },
    )) (new_where_made created.result (N.faithful created.new.disk) c.id.result parts.1.trees state created.ensures.made created.ensures.recovers created.ensures.seen)

pub returns-in-Ok-clause-refused : goal.returns-in-Ok-clause-refused
returns-in-Ok-clause-refused g c =
    let O = g.O.Disk in
    let N = g.N.Disk in
    let opened = c.in-Ok.opened in
    let parts = c.into_parts-source.result in
    let e = c.into_parts-source.ensures in
    let created = c.create-made in
    let fault = O.failures c.args.source < O.failures parts.0 in
    let files = seen_in (O.state_at c.args.source (O.clock c.args.source)) in
    not_made_as created.result (N.failures c.args.target.now < N.failures created.new.disk) (created.new.disk ≡ c.args.target.now) (IsRefusedFor parts.1.trees) (RefusalHasCause fault (AreNotUpgraded (O.faithful parts.0) files))
    (λ why refused. refused_of_files fault (O.faithful parts.0) files why (store_of opened) opened.found.number opened.found.trees
    (λ f. c.in-Ok.ensures.recovered (subst (λ d. O.faithful d) e.disk f)) (subst (λ (found : RecoveredStore). IsRefusedFor found.trees why) e.found refused)) created.ensures.refused

pub returns-in-Ok-clause-kept : goal.returns-in-Ok-clause-kept
returns-in-Ok-clause-kept g c = λ f.
    let O = g.O.Disk in
    let opened = c.in-Ok.opened in
    let e = c.into_parts-source.ensures in
    let was : O.faithful opened.disk = subst (λ d. O.faithful d) e.disk f in
    inr (
      store_of opened,
      opened.found.number,
      opened.found.trees,
      c.in-Ok.ensures.recovered was,
      subst (λ d. CrashesRecover (store_of opened) opened.found.number opened.found.trees (O.state_at d (O.clock d))) (sym e.disk) (c.keeps_what_was_found.ensures.crash was),
    )

pub returns-in-Ok-clause-stays : goal.returns-in-Ok-clause-stays
returns-in-Ok-clause-stays g c =
    let N = g.N.Disk in
    let opened = c.in-Ok.opened in
    let parts = c.into_parts-source.result in
    let e = c.into_parts-source.ensures in
    let created = c.create-made in
    let store = store_of opened in
    let many : length opened.found.trees ≡ store.hives = c.keeps_what_was_found.ensures.many ∙ ap (λ (l : Layout). hives_in l store.hives) c.in-Ok.ensures.alone in
    let trees = ap (λ (found : RecoveredStore). length found.trees) e.found in
    let hives = ap (λ (found : RecoveredStore). (journals.store_of found.journal).hives) e.found in
    let few : length parts.1.trees + 1 ≤ 17 = omega (arith, e.kept.store.few_hives, many, trees, hives) in
    touches_more (length parts.1.trees + 1) 17 (N.state_at c.args.target.now) (N.state_at created.new.disk) (N.clock c.args.target.now) (N.clock created.new.disk) few created.ensures.stays
