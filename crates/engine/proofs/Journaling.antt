-- What the journal says of its steps is what the engine answers and keeps.
use Rattle.std.proofs.Common.{◌≡◌, ◌⊎◌, ◌↔◌, inl, inr, ℕ, ◌+◌, ◌-◌, ◌<◌, ◌≤◌, false, List, [], ◌∷◌, length, get_or, map, take, drop, refl, sym, ◌∙◌, ap, subst, arith, Some, None, Result, Ok, Err, slice_get}
use Rattle.std.specs.List.{AllByRecursion}
use Rattle.std.proofs.lemmas.List.{length-map}
use Rattle.refusals.specs.declared.refusal.Refusal.{Refusal}
use Rattle.refusals.specs.declared.refusal.Refusal.TheVariants.{Faulted, DiskFault}
use Rattle.disk_model.specs.FileState.{FileState}
use Rattle.disk_model.specs.Call.{OneCall, HasFailed}
use Rattle.disk_model.specs.StoreFiles.{IsJournal}
use Rattle.reg_tree.specs.declared.element.Element.{Element}
use Rattle.crash_model.specs.Promises.{Choice, Content, top, JournalSays, TrimSays}
use Rattle.store_model.specs.Machine.{Machine, last_number, pending}
use Rattle.store_model.specs.Invariant.{InvariantHolds}
use Rattle.store_model.specs.Steps.{Step, Run}
use Rattle.store_model.specs.declared.event.Reply.{Reply}
use Rattle.store_model.specs.declared.event.Event.{Event}
use Rattle.store_model.specs.declared.event.Event.TheVariants as event
use Rattle.transactions.specs.Stores.{StoreView}
use Rattle.change_codec.specs.ModelChanges.{TimedOp, timed_elements}
use Rattle.crash_model.specs.StepAnswers.{Says}
use Rattle.disk_model.specs.declared.progress.Progress.{Progress}
use Rattle.disk_model.specs.declared.progress.Progress.TheVariants as progress
use Rattle.commit_journal.specs.Store.{all_hives, room_of}
use Rattle.commit_journal.specs.Handed.{IsHanded, IsShort}
use Rattle.commit_journal.specs.OnDisk.{is_on}
use Rattle.engine.specs.EarlierChanges.{changes_before}
use Rattle.commit_journal.specs.Journals.{choice_of, store_of, encodings_of, journal_view}
use Rattle.commit_journal.specs.Journals as journals
use Rattle.commit_journal.specs.declared.journal.Journal.{Journal}
use Rattle.hive_flush.specs.HiveStates.{file_choice}
use Rattle.hive_flush.specs.declared.hive.HiveFile.{HiveFile}
use Rattle.engine_invariant.specs.States.{HiveView, IsConsistent}
use Rattle.engine_invariant.specs.Answers.{reply_to, after_step, MayTrim}
use Rattle.engine_invariant.specs.Prefixes.{view_of}
use Rattle.engine_invariant.specs.Runs.{ReceiptIsDurable}
use Rattle.commit_journal.specs.LastChangePerHive.{HasCounted}
use Rattle.recovery.specs.Retained.{numbered_changes}
use Rattle.engine.specs.LastChangePerHive.{AreLastNaming}
use Rattle.commit_journal.specs.declared.last_changes.LastChangePerHive.{LastChangePerHive}
use Rattle.engine_invariant.proofs.HiveLists.{viewed}
use Rattle.engine.specs.Parts.{AreSound, IsSound, after_mark_durable}
use Rattle.engine.specs.Events.{PartsStep}
use Rattle.engine.specs.declared.parts.Parts.{Parts}
use Rattle.engine.proofs.Sound.{settled_is, journal_sound, refused_accepted, step_before}
use Rattle.engine.proofs.RetainedChanges.{hand_steps}
use Rattle.engine.proofs.Namings.{naming_settles}
use Rattle.engine.proofs.OnDisk.{journal_writes}
use Rattle.engine.proofs.Idling.{has_all}
use Rattle.engine_invariant.specs.Engines.{NeedsNoDevice}
use Rattle.engine_invariant.specs.Idle.{HasAll}
use Rattle.std.proofs.lemmas.Option.{slice_get_within, slice_get-get_or}
use Rattle.engine.proofs.Frames.{any_call, has_failed, step_opens, works_else}

-- The laws that are used

abbrev pub Hand : Type 0
Hand = (machine : Machine) (base : ℕ) (opened : List Element) (journal : Choice (Content TimedOp)) (hives : List HiveView) → IsConsistent machine base opened journal hives → AllByRecursion IsShort (pending machine)
    → IsHanded (length hives) (65 + room_of journal.now.elements) (machine.durable + 1) (pending machine) journal.now

abbrev pub Batch : Type 0
Batch = (machine : Machine) (base : ℕ) (opened : List Element) (old new : Choice (Content TimedOp)) (hives : List HiveView) (result : Result Progress Refusal) → IsConsistent machine base opened old hives → machine.faulted ≡ false → ¬ (result ≡ Err Faulted)
    → Says (JournalSays (machine.durable + 1) (timed_elements (pending machine))) result old new → Step machine event.JournalStep (reply_to result) (after_step machine old new result) × IsConsistent (after_step machine old new result) base opened new hives

abbrev pub Trim : Type 0
Trim = (machine : Machine) (base : ℕ) (opened : List Element) (old new : Choice (Content TimedOp)) (hives : List HiveView) (result : Result Progress Refusal) → IsConsistent machine base opened old hives → machine.faulted ≡ false → MayTrim machine base opened old hives → ¬ (result ≡ Err Faulted)
    → Says TrimSays result old new → Step machine event.TrimStep (reply_to result) (after_step machine old new result) × IsConsistent (after_step machine old new result) base opened new hives

module _ (s : StoreView) (base : ℕ) (opened : List Element) (old : Journal) (hives : List HiveFile) (a : AreSound s base opened old hives) where
  module _ (durable : ℕ) (es : List Element) (d : durable ≡ s.machine.durable) (e : es ≡ drop (durable - s.machine.before) s.machine.accepted) where
    pending_is : es ≡ pending s.machine
    pending_is = e ∙ ap (λ n. drop (n - s.machine.before) s.machine.accepted) d

    pub may_hand : Hand → AllByRecursion IsShort es → IsHanded (all_hives (store_of old)) (65 + room_of (choice_of old).now.elements) (durable + 1) es (choice_of old).now
    may_hand law short =
        let h = law s.machine base opened (choice_of old) (map view_of hives) a.kept (subst (AllByRecursion IsShort) pending_is short) in
        let many : length (map view_of hives) ≡ all_hives (store_of old) = length-map hives view_of ∙ a.many in
        subst (λ (l : List Element). IsHanded (all_hives (store_of old)) (65 + room_of (choice_of old).now.elements) (durable + 1) l (choice_of old).now) (sym pending_is)
        (subst (λ n. IsHanded (all_hives (store_of old)) (65 + room_of (choice_of old).now.elements) (n + 1) (pending s.machine) (choice_of old).now) (sym d)
        (subst (λ n. IsHanded n (65 + room_of (choice_of old).now.elements) (s.machine.durable + 1) (pending s.machine) (choice_of old).now) many h))

    pub batch_goes : Batch → (new : Journal) (result : Result Progress Refusal) → s.machine.faulted ≡ false → ((result ≡ Err Faulted) ↔ journals.IsBroken old) → Says (JournalSays (durable + 1) (timed_elements es)) result (choice_of old) (choice_of new)
        → Step s.machine event.JournalStep (reply_to result) (after_step s.machine (choice_of old) (choice_of new) result) × IsConsistent (after_step s.machine (choice_of old) (choice_of new) result) base opened (choice_of new) (map view_of hives)
    batch_goes law new result free broken says =
        law s.machine base opened (choice_of old) (choice_of new) (map view_of hives) result a.kept free (λ f. a.journal_works free (broken.0 f))
        (subst (λ n. Says (JournalSays (n + 1) (timed_elements (pending s.machine))) result (choice_of old) (choice_of new)) d
        (subst (λ (l : List Element). Says (JournalSays (durable + 1) (timed_elements l)) result (choice_of old) (choice_of new)) pending_is says))

  pub trim_goes : Trim → (new : Journal) (result : Result Progress Refusal) → s.machine.faulted ≡ false → MayTrim s.machine base opened (choice_of old) (map view_of hives) → ((result ≡ Err Faulted) ↔ journals.IsBroken old) → Says TrimSays result (choice_of old) (choice_of new)
      → Step s.machine event.TrimStep (reply_to result) (after_step s.machine (choice_of old) (choice_of new) result) × IsConsistent (after_step s.machine (choice_of old) (choice_of new) result) base opened (choice_of new) (map view_of hives)
  trim_goes law new result free may broken says = law s.machine base opened (choice_of old) (choice_of new) (map view_of hives) result a.kept free may (λ f. a.journal_works free (broken.0 f)) says

-- if the content has elements the last number is that of the last change
pub top_same : (d : ℕ) (s : Content TimedOp) → 0 < top 0 s → top d s ≡ top 0 s
top_same d s some = by_list s.below s.elements some
  where
    by_list : (below : ℕ) (es : List (List (ℕ × TimedOp))) → 0 < top {Op = TimedOp} 0 (record { below = below; elements = es }) → top {Op = TimedOp} d (record { below = below; elements = es }) ≡ top {Op = TimedOp} 0 (record { below = below; elements = es })
    by_list below [] some = absurd (omega (arith, some))
    by_list below (e ∷ es) some = refl

-- no durable number falls
abbrev pub Rises : Type 0
Rises = (old new : Machine) (e : Event) (r : Reply) → InvariantHolds old → Step old e r new → old.durable ≤ new.durable

pub rises_by : ((old new : Machine) (es : List Event) (rs : List Reply) → InvariantHolds old → Run old es rs new → (old.durable ≤ new.durable) × AllByRecursion (ReceiptIsDurable new.durable) rs) → Rises
rises_by law old new e r kept step = (law old new (e ∷ []) (r ∷ []) kept (new, step, refl)).0

-- what was accepted stays in a step, and what is durable then is known
step_accepted : (m : Machine) (old new : Choice (Content TimedOp)) (result : Result Progress Refusal) → (after_step m old new result).accepted ≡ m.accepted
step_accepted m old new (Ok progress.Done) = refl
step_accepted m old new (Ok progress.Idle) = refl
step_accepted m old new (Ok progress.More) = refl
step_accepted m old new (Err why) = refused_accepted m why

settled_within : (m t : Machine) (base : ℕ) (opened : List Element) (old new : Choice (Content TimedOp)) (hives : List HiveView) (result : Result Progress Refusal) → IsConsistent (after_step m old new result) base opened new hives → t ≡ after_step m old new result → t.durable ≤ last_number m
settled_within m t base opened old new hives result kept is = omega (arith, kept.kept.within.known, ap (λ (x : Machine). x.durable) is, step_before m old new result, ap (λ (l : List Element). length l) (step_accepted m old new result))

-- A call of the journal, and what the store does after it
module _ {D : Type 0} (states : D → ℕ → ℕ → FileState) (clock failures : D → ℕ) (is_faithful : D → Type 0) (e : Event) (steps : (e ≡ event.JournalStep) ⊎ (e ≡ event.TrimStep)) where
  pub journal_goes_on : (s : Parts D) (new : Journal) (disk : D) (store : StoreView) (last_changes : LastChangePerHive) (come : Result Progress Refusal) (used : ℕ) → IsSound s → s.store.machine.faulted ≡ false
      → Step s.store.machine e (reply_to come) (after_step s.store.machine (choice_of s.journal) (choice_of new) come)
      × IsConsistent (after_step s.store.machine (choice_of s.journal) (choice_of new) come) s.base (changes_before s.earlier) (choice_of new) (map view_of s.hives.items)
      → used ≡ 65 + room_of (choice_of s.journal).now.elements → store.machine ≡ after_mark_durable s.store.machine (choice_of new).now used come → store.retained ≡ s.store.retained → Rises
      → HasCounted s.last_changes.last.items s.store.machine.durable (take (store.machine.durable - s.store.machine.durable) (pending s.store.machine)) last_changes.last.items
      → store_of new ≡ store_of s.journal → (journals.IsBroken new → journals.IsBroken s.journal ⊎ (come ≡ Err DiskFault))
      → (is_faithful disk → is_on (encodings_of s.journal) (journal_view s.journal) (states s.disk (clock s.disk) 0) → is_on (encodings_of s.journal) (journal_view new) (states disk (clock disk) 0))
      → OneCall IsJournal (states s.disk) (states disk) (clock s.disk) (clock disk) → HasFailed come (failures s.disk) (failures disk) → (is_faithful disk → is_faithful s.disk) → (NeedsNoDevice e (reply_to come) → disk ≡ s.disk)
      → PartsStep states clock failures is_faithful e (reply_to come) s (record s { disk = disk; journal = new; store = store; last_changes = last_changes })
  journal_goes_on s new disk store last_changes come used sound free goes used_is told hand rises counted same broken on call fails faithful quiet =
      let is : store.machine ≡ after_step s.store.machine (choice_of s.journal) (choice_of new) come = told ∙ settled_is s.store.machine (choice_of s.journal) (choice_of new) used come used_is in
      record {
        step = subst (λ (m : Machine). Step s.store.machine e (reply_to come) m) (sym is) goes.0;
        sound = record {
          holds = journal_sound s.store store s.base (changes_before s.earlier) s.journal new s.hives.items come sound.holds free goes.1 same broken is;
          last_changes = naming_settles s.store.machine store.machine s.base (changes_before s.earlier) s.last_changes.last.items last_changes.last.items sound.holds.kept.begun sound.holds.kept.kept.within.opened sound.holds.kept.kept.within.known
              (subst (λ (m : Machine). s.store.machine.durable ≤ m.durable) (sym is) (rises s.store.machine (after_step s.store.machine (choice_of s.journal) (choice_of new) come) e (reply_to come) sound.holds.kept.kept goes.0))
              (settled_within s.store.machine store.machine s.base (changes_before s.earlier) (choice_of s.journal) (choice_of new) (map view_of s.hives.items) come goes.1 is)
              (ap (λ (m : Machine). m.accepted) is ∙ step_accepted s.store.machine (choice_of s.journal) (choice_of new) come) sound.last_changes counted.last;
          named = counted.many ∙ sound.named;
          retained = hand_steps s.store store s.base (changes_before s.earlier) (numbered_changes s.opened) s.hives.items
              (ap (λ (m : Machine). m.before) is ∙ step_before s.store.machine (choice_of s.journal) (choice_of new) come)
              (ap (λ (m : Machine). m.accepted) is ∙ step_accepted s.store.machine (choice_of s.journal) (choice_of new) come)
              (subst (λ (m : Machine). s.store.machine.durable ≤ m.durable) (sym is) (rises s.store.machine (after_step s.store.machine (choice_of s.journal) (choice_of new) come) e (reply_to come) sound.holds.kept.kept goes.0)) hand sound.retained;
        };
        on_disk = λ f there. journal_writes s.journal new s.hives.items (states s.disk (clock s.disk)) (states disk (clock disk)) there call.others same (on f);
        store = same;
        call = any_call IsJournal (states s.disk) (states disk) (clock s.disk) (clock disk) call;
        quiet = quiet;
        failed = has_failed come (failures s.disk) (failures disk) fails;
        works = works_else come (failures s.disk) (failures disk) fails;
        faithful = faithful;
        life = (refl, sym (step_opens come (changes_before s.earlier) s.store.machine.accepted));
        journal_stays = λ nj nt. absurd (elim (steps) [ inl j ↦ nj j | inr t ↦ nt t ]);
        hives_stay = λ i no. refl;
      }

-- a trim may begin if each hive's number is not below that of the last change that names it
pub may_begin : (m : Machine) (base : ℕ) (opened : List Element) (journal : Choice (Content TimedOp)) (hives : List HiveFile) (numbers : List ℕ) → AreLastNaming m base opened numbers → length numbers ≡ length hives → journal.next ≡ None → ¬ (top 0 journal.now ≡ 0)
    → ((i number : ℕ) (hive : HiveFile) → slice_get hives i ≡ Some hive → slice_get numbers i ≡ Some number → number ≤ (file_choice hive).now.1) → MayTrim m base opened journal (map view_of hives)
may_begin m base opened journal hives numbers last_changes named rests some have =
    inr (
      rests,
      some_decoded journal.now.below journal.now.elements some,
      λ i v at.
          let w = viewed hives i v at in
          let lt = slice_get_within hives i w.0 w.1 in
          let there = slice_get-get_or numbers i 0 (omega (arith, lt, named)) in
          subst (HasAll m base opened i) w.2 ((has_all m base opened numbers last_changes i (get_or numbers i 0) w.0 there).1 (have i (get_or numbers i 0) w.0 w.1 there)),
    )
  where
    some_decoded : (below : ℕ) (es : List (List (ℕ × TimedOp))) → ¬ (top 0 (record { below = below; elements = es }) ≡ 0) → 0 < length es
    some_decoded below [] not = absurd (not refl)
    some_decoded below (e ∷ es) not = omega arith
