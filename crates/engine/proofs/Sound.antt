-- The engine's parts stay sound.
use Rattle.std.proofs.Common.{◌≡◌, ◌⊎◌, inl, inr, ℕ, ◌+◌, ◌-◌, ◌<◌, ◌≤◌, false, List, length, map, get_or, refl, sym, ◌∙◌, ap, subst, arith, Some, Result, Ok, Err, slice_get}
use Rattle.std.specs.Prelude.{slice_set}
use Rattle.std.proofs.lemmas.Option.{same_Some, slice_get_read}
use Rattle.std.proofs.lemmas.List.{length-set, map-set}
use Rattle.std.proofs.lemmas.Bool.{true≢false}
use Rattle.refusals.specs.declared.refusal.Refusal.{Refusal}
use Rattle.refusals.specs.declared.refusal.Refusal.TheVariants as refusal
use Rattle.reg_tree.specs.declared.element.Element.{Element}
use Rattle.crash_model.specs.Promises.{Choice, Content, top}
use Rattle.store_model.specs.Machine.{Machine, last_number}
use Rattle.store_model.specs.declared.bounds.StoreBounds.{StoreBounds}
use Rattle.store_model.specs.Invariant.{JournalStateStays, AcceptsOneChange}
use Rattle.transactions.specs.Stores.{StoreView}
use Rattle.change_codec.specs.ModelChanges.{TimedOp}
use Rattle.disk_model.specs.declared.progress.Progress.{Progress}
use Rattle.disk_model.specs.declared.progress.Progress.TheVariants as progress
use Rattle.commit_journal.specs.Store.{Store, all_hives, room_of}
use Rattle.commit_journal.specs.Journals.{choice_of, store_of}
use Rattle.commit_journal.specs.Journals as journals
use Rattle.commit_journal.specs.declared.journal.Journal.{Journal}
use Rattle.hive_flush.specs.HiveStates.{HiveIsRepaired, IsBroken, hive_number}
use Rattle.hive_flush.specs.HiveStates as states
use Rattle.hive_flush.specs.declared.hive.HiveFile.{HiveFile}
use Rattle.engine_invariant.specs.States.{HiveView, IsConsistent}
use Rattle.engine_invariant.specs.Answers.{after_step, after_flush, refused_by}
use Rattle.engine_invariant.specs.Prefixes.{ArePlaced, view_of}
use Rattle.engine_invariant.proofs.HiveLists.{each_hive}
use Rattle.engine.specs.Parts.{AreSound, after_mark_durable}

-- an event that makes no step
pub non_step_sound : (s t : StoreView) (base : ℕ) (opened : List Element) (journal : Journal) (hives : List HiveFile) → AreSound s base opened journal hives
    → IsConsistent t.machine base opened (choice_of journal) (map view_of hives) → JournalStateStays s.machine t.machine ⊎ AcceptsOneChange s.machine t.machine → AreSound t base opened journal hives
non_step_sound s t base opened journal hives a kept how = record {
  kept = kept;
  placed = a.placed;
  some = a.some;
  many = a.many;
  named = ap (λ (b : StoreBounds). b.hives) (bounds how) ∙ a.named;
  whole = a.whole;
  journal_works = λ free. a.journal_works (sym (faulted how) ∙ free);
  hives_work = λ free. a.hives_work (sym (faulted how) ∙ free);
}
  where
    faulted : JournalStateStays s.machine t.machine ⊎ AcceptsOneChange s.machine t.machine → t.machine.faulted ≡ s.machine.faulted
    faulted (inl x) = x.faulted
    faulted (inr x) = x.faulted

    bounds : JournalStateStays s.machine t.machine ⊎ AcceptsOneChange s.machine t.machine → t.machine.bounds ≡ s.machine.bounds
    bounds (inl x) = x.bounds
    bounds (inr x) = x.bounds

-- the store changes nothing of an engine's invariant
pub told_sound : (s t : StoreView) (base : ℕ) (opened : List Element) (journal : Journal) (hives : List HiveFile) → t.machine ≡ s.machine → AreSound s base opened journal hives → AreSound t base opened journal hives
told_sound s t base opened journal hives same a = record {
  kept = subst (λ (m : Machine). IsConsistent m base opened (choice_of journal) (map view_of hives)) (sym same) a.kept;
  placed = a.placed;
  some = a.some;
  many = a.many;
  named = ap (λ (m : Machine). m.bounds.hives) same ∙ a.named;
  whole = a.whole;
  journal_works = λ free. a.journal_works (sym (ap (λ (m : Machine). m.faulted) same) ∙ free);
  hives_work = λ free. a.hives_work (sym (ap (λ (m : Machine). m.faulted) same) ∙ free);
}

-- a machine by the room that was used
pub settled_is : (m : Machine) (old new : Choice (Content TimedOp)) (used : ℕ) (result : Result Progress Refusal) → used ≡ 65 + room_of old.now.elements → after_mark_durable m new.now used result ≡ after_step m old new result
settled_is m old new used (Ok progress.Done) e = let f : used - (65 + room_of new.now.elements) ≡ room_of old.now.elements - room_of new.now.elements = omega (arith, e) in ap (λ n. record m { durable = top m.durable new.now; room = m.room - n }) f
settled_is m old new used (Ok progress.Idle) e = refl
settled_is m old new used (Ok progress.More) e = refl
settled_is m old new used (Err why) e = refl

pub done_known : (m : Machine) (base : ℕ) (opened : List Element) (old new : Choice (Content TimedOp)) (hives : List HiveView) (result : Result Progress Refusal) → IsConsistent (after_step m old new result) base opened new hives
    → result ≡ Ok progress.Done → top m.durable new.now ≤ last_number m
done_known m base opened old new hives (Ok progress.Done) i e = i.kept.within.known
done_known m base opened old new hives (Ok progress.Idle) i e = absurd cc
done_known m base opened old new hives (Ok progress.More) i e = absurd cc
done_known m base opened old new hives (Err why) i e = absurd cc

-- only a device that failed faults a store
refused_faults : (m : Machine) (why : Refusal) → m.faulted ≡ false → (refused_by m why).faulted ≡ false → why ≡ refusal.DiskFault → ⊥
refused_faults m why free no_change e = true≢false (sym (ap (λ r. (refused_by m r).faulted) e) ∙ no_change)

step_faults : (m : Machine) (old new : Choice (Content TimedOp)) (result : Result Progress Refusal) → m.faulted ≡ false → (after_step m old new result).faulted ≡ false → result ≡ Err refusal.DiskFault → ⊥
step_faults m old new result free no_change e = true≢false (sym (ap (λ r. (after_step m old new r).faulted) e) ∙ no_change)

flush_faults : (m : Machine) (result : Result Progress Refusal) → (after_flush m result).faulted ≡ false → result ≡ Err refusal.DiskFault → ⊥
flush_faults m result no_change e = true≢false (sym (ap (λ r. (after_flush m r).faulted) e) ∙ no_change)

pub refused_accepted : (m : Machine) (why : Refusal) → (refused_by m why).accepted ≡ m.accepted
refused_accepted m refusal.DiskFault = refl
refused_accepted m _ = refl

refused_before : (m : Machine) (why : Refusal) → (refused_by m why).before ≡ m.before
refused_before m refusal.DiskFault = refl
refused_before m _ = refl

pub step_before : (m : Machine) (old new : Choice (Content TimedOp)) (result : Result Progress Refusal) → (after_step m old new result).before ≡ m.before
step_before m old new (Ok progress.Done) = refl
step_before m old new (Ok progress.Idle) = refl
step_before m old new (Ok progress.More) = refl
step_before m old new (Err why) = refused_before m why

pub flush_before : (m : Machine) (result : Result Progress Refusal) → (after_flush m result).before ≡ m.before
flush_before m (Ok come) = refl
flush_before m (Err why) = refused_before m why

refused_bounds : (m : Machine) (why : Refusal) → (refused_by m why).bounds ≡ m.bounds
refused_bounds m refusal.DiskFault = refl
refused_bounds m _ = refl

step_bounds : (m : Machine) (old new : Choice (Content TimedOp)) (result : Result Progress Refusal) → (after_step m old new result).bounds ≡ m.bounds
step_bounds m old new (Ok progress.Done) = refl
step_bounds m old new (Ok progress.Idle) = refl
step_bounds m old new (Ok progress.More) = refl
step_bounds m old new (Err why) = refused_bounds m why

flush_bounds : (m : Machine) (result : Result Progress Refusal) → (after_flush m result).bounds ≡ m.bounds
flush_bounds m (Ok come) = refl
flush_bounds m (Err why) = refused_bounds m why

-- a step of the journal or of a trim
pub journal_sound : (s t : StoreView) (base : ℕ) (opened : List Element) (old new : Journal) (hives : List HiveFile) (result : Result Progress Refusal) → AreSound s base opened old hives → s.machine.faulted ≡ false
    → IsConsistent (after_step s.machine (choice_of old) (choice_of new) result) base opened (choice_of new) (map view_of hives) → store_of new ≡ store_of old → (journals.IsBroken new → journals.IsBroken old ⊎ (result ≡ Err refusal.DiskFault))
    → t.machine ≡ after_step s.machine (choice_of old) (choice_of new) result → AreSound t base opened new hives
journal_sound s t base opened old new hives result a free kept same broken is = record {
  kept = subst (λ (m : Machine). IsConsistent m base opened (choice_of new) (map view_of hives)) (sym is) kept;
  placed = subst (λ (x : Store). ArePlaced x hives) (sym same) a.placed;
  some = subst (λ (x : Store). 1 ≤ x.hives) (sym same) a.some;
  many = a.many ∙ ap all_hives (sym same);
  named = ap (λ (m : Machine). m.bounds.hives) is ∙ ap (λ (b : StoreBounds). b.hives) (step_bounds s.machine (choice_of old) (choice_of new) result) ∙ a.named ∙ ap (λ (x : Store). x.hives) (sym same);
  whole = a.whole;
  journal_works = λ no_change bad. elim (broken bad) [ inl b ↦ a.journal_works free b | inr f ↦ step_faults s.machine (choice_of old) (choice_of new) result free (ap (λ (m : Machine). m.faulted) (sym is) ∙ no_change) f ];
  hives_work = λ no_change. a.hives_work free;
}

-- One hive of a list

pub at_place : {H : Type 0} (hives : List H) (k : ℕ) (h : H) → k < length hives → h ≡ get_or hives k h → slice_get hives k ≡ Some h
at_place hives k h lt e = slice_get_read hives (length hives) k h refl lt e

-- a hive that has absorbed something, or made a step
pub hive_sound : (s t : StoreView) (base : ℕ) (opened : List Element) (journal : Journal) (hives : List HiveFile) (k : ℕ) (old new : HiveFile) → AreSound s base opened journal hives → slice_get hives k ≡ Some old
    → IsConsistent t.machine base opened (choice_of journal) (slice_set (map view_of hives) k (view_of new)) → hive_number new ≡ hive_number old → states.store_of new ≡ states.store_of old → HiveIsRepaired new
    → (t.machine.faulted ≡ false → (s.machine.faulted ≡ false) × ¬ (IsBroken new)) → t.machine.bounds ≡ s.machine.bounds → AreSound t base opened journal (slice_set hives k new)
hive_sound s t base opened journal hives k old new a is kept place owner whole works bounds = record {
  kept = subst (λ (v : List HiveView). IsConsistent t.machine base opened (choice_of journal) v) (sym (map-set view_of hives k new)) kept;
  placed = record {
    place = each_hive hives k old new is (λ j h. hive_number h ≡ j) (place ∙ a.placed.place k old is) (λ j h ne at. a.placed.place j h at);
    owner = each_hive hives k old new is (λ j h. states.store_of h ≡ (store_of journal).id) (owner ∙ a.placed.owner k old is) (λ j h ne at. a.placed.owner j h at);
  };
  many = length-set hives k new ∙ a.many;
  some = a.some;
  named = ap (λ (b : StoreBounds). b.hives) bounds ∙ a.named;
  whole = each_hive hives k old new is (λ j h. HiveIsRepaired h) whole (λ j h ne at. a.whole j h at);
  journal_works = λ no_change. a.journal_works (works no_change).0;
  hives_work = λ no_change. each_hive hives k old new is (λ j h. ¬ (IsBroken h)) (works no_change).1 (λ j h ne at. a.hives_work (works no_change).0 j h at);
}

pub flush_sound : (s t : StoreView) (base : ℕ) (opened : List Element) (journal : Journal) (hives : List HiveFile) (k : ℕ) (old new : HiveFile) (result : Result Progress Refusal) → AreSound s base opened journal hives → s.machine.faulted ≡ false → slice_get hives k ≡ Some old
    → IsConsistent (after_flush s.machine result) base opened (choice_of journal) (slice_set (map view_of hives) k (view_of new)) → hive_number new ≡ hive_number old → states.store_of new ≡ states.store_of old → HiveIsRepaired new
    → (IsBroken new → IsBroken old ⊎ (result ≡ Err refusal.DiskFault)) → t.machine ≡ after_flush s.machine result → AreSound t base opened journal (slice_set hives k new)
flush_sound s t base opened journal hives k old new result a free is kept place owner whole broken told =
    hive_sound s t base opened journal hives k old new a is (subst (λ (m : Machine). IsConsistent m base opened (choice_of journal) (slice_set (map view_of hives) k (view_of new))) (sym told) kept) place owner whole
    (λ no_change. (free, λ bad. elim (broken bad) [ inl b ↦ a.hives_work free k old is b | inr f ↦ flush_faults s.machine result (ap (λ (m : Machine). m.faulted) (sym told) ∙ no_change) f ]))
    (ap (λ (m : Machine). m.bounds) told ∙ flush_bounds s.machine result)

pub same_hive : (hives : List HiveFile) (k : ℕ) (a b : HiveFile) → slice_get hives k ≡ Some a → slice_get hives k ≡ Some b → a ≡ b
same_hive hives k a b x y = same_Some a b (sym x ∙ y)
