use Rattle.std.proofs.Common.{◌≡◌, ◌∙◌, ℕ, sym, ap, subst, map, arith, List, ◌≤◌, Option, Some, slice_get}
use Rattle.reg_tree.specs.Maps.{TreeMap}
use Rattle.crash_model.specs.Promises.{Choice}
use Rattle.reg_tree.specs.declared.element.Element.{Element}
use Rattle.engine.specs.EarlierChanges.{changes_before}
use Rattle.hive_flush.specs.HiveStates.{file_choice}
use Rattle.hive_flush.specs.declared.hive.HiveFile.{HiveFile}
use Rattle.std.proofs.lemmas.Option.{slice_get_within}
use Rattle.commit_journal.specs.Journals.{changes_of, choice_of, store_of}
use Rattle.store_model.specs.Machine.{Machine, bounds_for}
use Rattle.engine_invariant.specs.Openings.{held_if}
use Rattle.engine_invariant.specs.States.{HiveView, IsConsistent}
use Rattle.engine_invariant.specs.Prefixes.{view_of}
use Rattle.engine_invariant.proofs.HiveLists.{view_at}
use Rattle.std.proofs.lemmas.List.{length-map}
use Rattle.commit_journal.proofs.StoreHives.{most_hives}
use Rattle.recovery.specs.Invariant.{AreWhole}
use Rattle.recovery.specs.Retained.{numbered_changes}
use Rattle.recovery.specs.declared.found.RecoveredStore.{RecoveredStore}
use Rattle.engine.specs.RetainedChanges.{RetainsWhatHivesLack}
use Rattle.engine.specs.LastChangePerHive.{AreLastNaming}
use Rattle.engine.specs.Parts.{AreSound}
use Rattle.engine.proofs.RetainedChanges.{hand_opens}
use Rattle.engine.proofs.Namings.{naming_opens}
use Rattle.engine.proofs.engine.Engine.new.Goals as goal

pub invariant_of-result : goal.invariant_of-result
invariant_of-result g c =
    let f = c.into_parts-disk.result.1 in
    let e = c.into_parts-disk.ensures in
    let told = c.in-Ok.ensures.machine in
    let all = changes_of f.journal in
    let kept = subst (λ (m : Machine). IsConsistent m f.base all (choice_of f.journal) (map view_of f.hives.items)) (sym told) (c.openings_begin.ensures (bounds_for (store_of f.journal).hives) f.trees f.number 0 f.base all (choice_of f.journal) (map view_of f.hives.items) e.kept.recovers
    (let most = most_hives (store_of f.journal).layout (store_of f.journal).hives in let long = length-map f.hives.items view_of in omega (arith, e.kept.recovers.all, long, e.kept.many, most)) e.kept.outcomes) in
    let decoded : changes_before c.of-earlier.result ≡ all = c.of-earlier.ensures in
    let store = c.in-Ok.store in
    let below : (i : ℕ) (hive : HiveFile) → slice_get f.hives.items i ≡ Some hive → (file_choice hive).now.1 ≤ store.machine.before = (λ i hive is.
    let at = view_at f.hives.items i hive is in
    let low = e.kept.recovers.recovers.not_above i (let lt = slice_get_within (map view_of f.hives.items) i (view_of hive) at in omega (arith, lt, e.kept.recovers.all)) in
    omega (arith, low, ap (λ (o : Option HiveView). (held_if o).1) at, ap (λ (m : Machine). m.before) told)) in
    let durable : store.machine.durable ≡ store.machine.before = ap (λ (m : Machine). m.durable) told ∙ sym (ap (λ (m : Machine). m.before) told) in
    record {
      sound = record {
        holds = subst (λ (l : List Element). AreSound store f.base l f.journal f.hives.items) (sym decoded) (record {
          kept = kept;
          placed = e.kept.placed;
          some = e.kept.store.some_hives;
          many = e.kept.many;
          named = ap (λ (m : Machine). m.bounds.hives) told;
          whole = subst (λ (x : RecoveredStore). AreWhole x.hives.items) (sym e.found) c.requires.whole.0;
          journal_works = λ _. e.kept.works;
          hives_work = λ _. e.works c.requires.whole.1;
        });
        last_changes = subst (λ (l : List Element). AreLastNaming store.machine f.base l f.last_changes.last.items) (sym decoded) (naming_opens store.machine f.base all f.last_changes.last.items kept.begun durable (ap (λ (m : Machine). m.accepted) told) e.kept.names);
        named = e.kept.named;
        retained = subst (λ (l : List Element). RetainsWhatHivesLack store f.base l (numbered_changes f.opened) f.hives.items) (sym decoded) (hand_opens store f.base all (numbered_changes f.opened) f.hives.items kept.begun durable
            (omega (arith, c.in-Ok.ensures.retained, ap (λ (m : Machine). m.before) told)) e.kept.opened
            (λ i hive is. (ap (λ (k : Choice (TreeMap × ℕ)). k.now.1) (e.kept.recovers.each i (view_of hive) (view_at f.hives.items i hive is)), below i hive is)));
      };
      on_disk = e.on_disk;
      prepared = tt;
    }
