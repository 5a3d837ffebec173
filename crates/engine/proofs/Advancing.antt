-- How far steps bring an engine: what waits comes nearer, and a trim that is begun is ended.
use Rattle.std.proofs.Common.{◌≡◌, ◌⊎◌, inl, inr, ℕ, ◌+◌, ◌<◌, ◌≤◌, true, false, List, length, map, refl, sym, ◌∙◌, ap, subst, arith, Some, None, Result, Ok, Err, option_map, slice_get}
use Rattle.std.specs.Prelude.{◌*◌, OnOk, slice_set}
use Rattle.std.proofs.lemmas.Option.{none-some, same_Some, slice_get-map}
use Rattle.std.proofs.lemmas.Bool.{true≢false}
use Rattle.refusals.specs.declared.refusal.Refusal.{Refusal}
use Rattle.reg_tree.specs.declared.element.Element.{Element}
use Rattle.crash_model.specs.Changes as law
use Rattle.crash_model.specs.Promises.{Choice, Content, nothing, settled, top, under_way, Ends, BeginsTrim, JournalSays, TrimSays, HiveSays}
use Rattle.crash_model.specs.Memory.{IsOfMemory}
use Rattle.reg_tree.specs.Maps.{TreeMap}
use Rattle.store_model.specs.Machine.{Machine, last_number}
use Rattle.store_model.specs.Steps.{EndsTrim, is_request}
use Rattle.store_model.specs.declared.event.Event.{Event}
use Rattle.store_model.specs.declared.event.Event.TheVariants as event
use Rattle.store_model.specs.declared.event.Reply.{Reply}
use Rattle.store_model.specs.declared.event.Reply.TheVariants as reply
use Rattle.change_codec.specs.ModelChanges.{TimedOp}
use Rattle.crash_model.specs.StepAnswers.{Says}
use Rattle.disk_model.specs.declared.progress.Progress.{Progress}
use Rattle.disk_model.specs.declared.progress.Progress.TheVariants as progress
use Rattle.engine.specs.EarlierChanges.{changes_before}
use Rattle.commit_journal.specs.Journals.{choice_of, steps_in, steps_left, view_in_phase}
use Rattle.commit_journal.specs.Journals as journals
use Rattle.commit_journal.specs.OnDisk as phase
use Rattle.commit_journal.specs.declared.extent.Extent.{Extent}
use Rattle.commit_journal.specs.declared.journal.Phase.{Phase}
use Rattle.commit_journal.specs.declared.journal.Phase.TheVariants.{AtRest, BodyWritten, BodySynced, GateWritten, TrimWritten, Broken}
use Rattle.commit_journal.specs.declared.journal.Journal.{Journal}
use Rattle.engine_invariant.specs.States.{HiveView, IsConsistent}
use Rattle.engine_invariant.specs.Answers.{reply_to, after_step, MayTrim}
use Rattle.engine_invariant.specs.Progress.{FlushView, FlushesOn, flush_of, HasPending, HasTrimmed, IsNotRefused, IsTrimming, NearsDurable}
use Rattle.transactions.specs.Stores.{StoreView}
use Rattle.engine_invariant.specs.Prefixes.{view_of}
use Rattle.engine_invariant.specs.Idle.{IsTrimmed}
use Rattle.hive_flush.specs.HiveStates.{dirty_pages, file_choice, memory_of}
use Rattle.hive_flush.specs.HiveStates as states
use Rattle.hive_flush.specs.declared.hive.HiveFile.{HiveFile}
use Rattle.engine.specs.Events.{StepAdvances}
use Rattle.engine.specs.Parts.{IsSound}
use Rattle.commit_journal.specs.declared.last_changes.LastChangePerHive.{LastChangePerHive}
use Rattle.engine.specs.declared.parts.Parts.{Parts}
use Rattle.engine.proofs.Idling.{told_some}
use Rattle.engine.proofs.Sound.{same_hive}
use Rattle.engine_invariant.proofs.HiveLists.{get_same, viewed}

-- The laws that are used

abbrev pub Settles : Type 0
Settles = (machine : Machine) (base : ℕ) (opened : List Element) (old new : Choice (Content TimedOp)) (hives : List HiveView) → IsConsistent machine base opened old hives → (IsTrimming old → ⊥) → Ends old new → machine.durable < top machine.durable new.now

abbrev pub Frees : Type 0
Frees = (machine : Machine) (base : ℕ) (opened : List Element) (old new : Choice (Content TimedOp)) (hives : List HiveView) → IsConsistent machine base opened old hives → IsTrimming old → Ends old new → EndsTrim machine progress.Done (after_step machine old new (Ok progress.Done))

-- Steps that aren't made

not_made : (answer : Reply) (why : Refusal) → answer ≡ reply.Refused why → IsNotRefused answer → ⊥
not_made answer why e (p, told) = apart (sym e ∙ told)
  where
    apart : reply.Refused why ≡ reply.Stepped p → ⊥
    apart same = cc

pub refused_comes_on : {D : Type 0} (e : Event) (come : Result Progress Refusal) (why : Refusal) (old new : Parts D) → come ≡ Err why → StepAdvances e (reply_to come) old new
refused_comes_on e come why old new is = record {
  nears_durable = λ _ made _. absurd (not_made (reply_to come) why (ap reply_to is) made);
  begins_trim = λ _ made _ _. absurd (not_made (reply_to come) why (ap reply_to is) made);
  ends_trim = λ _ made _. absurd (not_made (reply_to come) why (ap reply_to is) made);
  flushes = λ _ _ _ _ made _ _ _. absurd (not_made (reply_to come) why (ap reply_to is) made);
}

pub non_step_advances : {D : Type 0} (e : Event) (answer : Reply) (old new : Parts D) → is_request e ≡ true → StepAdvances e answer old new
non_step_advances e answer old new non_step = record {
  nears_durable = λ is _ _. absurd (true≢false (sym non_step ∙ ap is_request is));
  begins_trim = λ is _ _ _. absurd (true≢false (sym non_step ∙ ap is_request is));
  ends_trim = λ is _ _. absurd (elim (is) [ inl j ↦ true≢false (sym non_step ∙ ap is_request j) | inr t ↦ true≢false (sym non_step ∙ ap is_request t) ]);
  flushes = λ i was then is _ _ _ _. absurd (true≢false (sym non_step ∙ ap is_request is));
}

-- What a journal's phase says

few_in : (now : Extent) (p : Phase) → steps_in (view_in_phase now p).phase ≤ 5
few_in now AtRest = omega arith
few_in now (BodyWritten batch) = omega arith
few_in now (BodySynced batch) = omega arith
few_in now (GateWritten batch) = omega arith
few_in now TrimWritten = omega arith
few_in now (Broken ahead) = omega arith

few_left : (journal : Journal) → steps_left journal ≤ 5
few_left journal = few_in journal.on_device journal.phase

-- only in a trim is the content without elements under way, if the device hasn't failed
trims_in : (now : Extent) (p : Phase) → ((view_in_phase now p).phase ≡ phase.Phase.Broken → ⊥) → (view_in_phase now p).choice.next ≡ Some nothing → (view_in_phase now p).phase ≡ phase.Phase.TrimWritten
trims_in now AtRest broken e = absurd (none-some nothing e)
trims_in now (BodyWritten batch) broken e = absurd (told_some batch.ahead batch.some e)
trims_in now (BodySynced batch) broken e = absurd (told_some batch.ahead batch.some e)
trims_in now (GateWritten batch) broken e = absurd (told_some batch.ahead batch.some e)
trims_in now TrimWritten broken e = refl
trims_in now (Broken ahead) broken e = absurd (broken refl)

trims_at : (journal : Journal) → (journals.IsBroken journal → ⊥) → IsTrimming (choice_of journal) → journals.IsTrimming journal
trims_at journal broken e = trims_in journal.on_device journal.phase broken e

-- A step of the journal or of a trim

module _ (m : Machine) (base : ℕ) (opened : List Element) (old new : Journal) (hives : List HiveView) (kept : IsConsistent m base opened (choice_of old) hives) (works : journals.IsBroken old → ⊥) where
  abbrev Nears : Machine → Type 0
  Nears t = NearsDurable m (steps_left old) t (steps_left new)

  -- fewer steps are left, and each durable change stays durable
  fewer : (t : Machine) → last_number t ≡ last_number m → m.durable ≤ t.durable → steps_left new + 1 ≡ steps_left old → Nears t
  fewer t last rises one = record { few = few_left old; nearer = inr (omega (arith, one)); falls = omega (arith, one, last, rises) }

  -- a batch that is durable
  stands : Settles → HasPending m → journals.BatchIsDurable old new → (t : Machine) → last_number t ≡ last_number m → t.durable ≡ top m.durable (choice_of new).now → Nears t
  stands law some (one, ends) t last durable =
      let up : m.durable < top m.durable (choice_of new).now = law m base opened (choice_of old) (choice_of new) hives kept (λ trims. let is = ap steps_in (trims_at old works trims) in omega (arith, is, one)) ends in
      record { few = few_left old; nearer = inl (omega (arith, up, durable)); falls = omega (arith, up, durable, last, one, some, few_left new) }

  -- if a step isn't the last one, what was under way isn't durable
  not_ended : {X : Type 0} → ((choice_of old).next ≡ None) ⊎ (choice_of new ≡ choice_of old) → Ends (choice_of old) (choice_of new) → X
  not_ended (inl none) (x, was, is) = absurd (none-some x (sym none ∙ was))
  not_ended (inr same) (x, was, is) = absurd (none-some x (sym (ap (λ (c : Choice (Content TimedOp)). c.next) is) ∙ ap (λ (c : Choice (Content TimedOp)). c.next) same ∙ was))

  nears_by : Settles → HasPending m → (first : ℕ) (handed : List (law.Element TimedOp)) (come : Result Progress Refusal) → Says (JournalSays first handed) come (choice_of old) (choice_of new) → OnOk come (journals.MakesProgress old new)
      → m.durable ≤ (after_step m (choice_of old) (choice_of new) come).durable → IsNotRefused (reply_to come) → Nears (after_step m (choice_of old) (choice_of new) come)
  nears_by law some first handed (Err why) says nearer rises made = absurd (not_made (reply.Refused why) why refl made)
  nears_by law some first handed (Ok progress.Idle) says nearer rises made = elim (nearer) [
    | inl one ↦ fewer m refl rises one
    | inr last ↦ not_ended (inl says.0) last.1
  ]
  nears_by law some first handed (Ok progress.More) says nearer rises made = elim (nearer) [
    | inl one ↦ fewer m refl rises one
    | inr last ↦ not_ended (elim (says) [ inl begins ↦ inl begins.3 | inr goes ↦ inr goes.1 ]) last.1
  ]
  nears_by law some first handed (Ok progress.Done) says nearer rises made = elim (nearer) [
    | inl one ↦ fewer (after_step m (choice_of old) (choice_of new) (Ok progress.Done)) refl rises one
    | inr last ↦ stands law some last (after_step m (choice_of old) (choice_of new) (Ok progress.Done)) refl refl
  ]

  -- the step after the first one of a trim
  trimmed_by : Frees → (come : Result Progress Refusal) → come ≡ Ok progress.Done → Ends (choice_of old) (choice_of new) → IsTrimming (choice_of old) → HasTrimmed m (reply_to come) (after_step m (choice_of old) (choice_of new) come) (choice_of new)
  trimmed_by law come done (x, was, is) trims =
      let frees = law m base opened (choice_of old) (choice_of new) hives kept trims (x, was, is) in
      subst (λ r. HasTrimmed m (reply_to r) (after_step m (choice_of old) (choice_of new) r) (choice_of new)) (sym done)
      (record { told = refl; frees = frees; decodes = is ∙ ap (λ (s : Content TimedOp). settled s) (same_Some x nothing (sym was ∙ trims)) })

  made_done : (come : Result Progress Refusal) → OnOk come (come ≡ Ok progress.Done) → IsNotRefused (reply_to come) → come ≡ Ok progress.Done
  made_done (Ok p) done made = done
  made_done (Err why) done made = absurd (not_made (reply.Refused why) why refl made)

-- if something was handed in
pub nearer_where : (X Y : Type 0) (come : Result Progress Refusal) (count : ℕ) → OnOk come ((0 < count) ⊎ Y → X) → 0 < count → OnOk come X
nearer_where X Y (Ok p) count nearer some = nearer (inl some)
nearer_where X Y (Err why) count nearer some = tt

module _ {D : Type 0} (s : Parts D) (sound : IsSound s) (free : s.store.machine.faulted ≡ false) (new : Journal) (disk : D) (store : StoreView) (last_changes : LastChangePerHive) (come : Result Progress Refusal)
    (told : store.machine ≡ after_step s.store.machine (choice_of s.journal) (choice_of new) come) (frees : Frees) (ends : journals.IsTrimming s.journal → OnOk come (come ≡ Ok progress.Done)) where
  works : journals.IsBroken s.journal → ⊥
  works = sound.holds.journal_works free

  ends_trim : Ends (choice_of s.journal) (choice_of new) ⊎ (come ≡ Ok progress.Done → ⊥) → IsNotRefused (reply_to come) → IsTrimming (choice_of s.journal) → HasTrimmed s.store.machine (reply_to come) store.machine (choice_of new)
  ends_trim said made trims =
      let done = made_done s.store.machine s.base (changes_before s.earlier) s.journal new (map view_of s.hives.items) sound.holds.kept works come (ends (trims_at s.journal works trims)) made in
      subst (λ (t : Machine). HasTrimmed s.store.machine (reply_to come) t (choice_of new)) (sym told)
      (elim (said) [
        | inl ended ↦ trimmed_by s.store.machine s.base (changes_before s.earlier) s.journal new (map view_of s.hives.items) sound.holds.kept works frees come done ended trims
        | inr not ↦ absurd (not done)
      ])

  pub journal_comes_on : Settles → (first : ℕ) (handed : List (law.Element TimedOp)) → Says (JournalSays first handed) come (choice_of s.journal) (choice_of new) → (HasPending s.store.machine → OnOk come (journals.MakesProgress s.journal new))
      → s.store.machine.durable ≤ (after_step s.store.machine (choice_of s.journal) (choice_of new) come).durable → StepAdvances event.JournalStep (reply_to come) s (record s { disk = disk; journal = new; store = store; last_changes = last_changes })
  journal_comes_on settles first handed says nearer rises = record {
    nears_durable = λ _ made some. subst (λ (t : Machine). NearsDurable s.store.machine (steps_left s.journal) t (steps_left new)) (sym told)
        (nears_by s.store.machine s.base (changes_before s.earlier) s.journal new (map view_of s.hives.items) sound.holds.kept works settles some first handed come says (nearer some) rises made);
    begins_trim = λ is _ _ _. absurd (not_trim is);
    ends_trim = λ _ made trims. ends_trim (said come says) made trims;
    flushes = λ i was then is _ _ _ _. absurd (not_flush i is);
  }
    where
      not_flush : (i : ℕ) → event.JournalStep ≡ event.FlusherStep i → ⊥
      not_flush i is = cc

      not_trim : event.JournalStep ≡ event.TrimStep → ⊥
      not_trim is = cc

      said : (r : Result Progress Refusal) → Says (JournalSays first handed) r (choice_of s.journal) (choice_of new) → Ends (choice_of s.journal) (choice_of new) ⊎ (r ≡ Ok progress.Done → ⊥)
      said (Ok progress.Done) ended = inl ended
      said (Ok progress.Idle) other = inr (λ e. cc)
      said (Ok progress.More) other = inr (λ e. cc)
      said (Err why) other = inr (λ e. cc)

  pub trim_comes_on : MayTrim s.store.machine s.base (changes_before s.earlier) (choice_of s.journal) (map view_of s.hives.items) → Says TrimSays come (choice_of s.journal) (choice_of new)
      → StepAdvances event.TrimStep (reply_to come) s (record s { disk = disk; journal = new; store = store; last_changes = last_changes })
  trim_comes_on may says = record {
    nears_durable = λ is _ _. absurd (not_journal is);
    begins_trim = λ _ made not_idle no_trim. begins come says made no_trim;
    ends_trim = λ _ made trims. ends_trim (said come says) made trims;
    flushes = λ i was then is _ _ _ _. absurd (not_flush i is);
  }
    where
      not_flush : (i : ℕ) → event.TrimStep ≡ event.FlusherStep i → ⊥
      not_flush i is = cc

      not_journal : event.TrimStep ≡ event.JournalStep → ⊥
      not_journal is = cc

      rests : (IsTrimming (choice_of s.journal) → ⊥) → (choice_of s.journal).next ≡ None
      rests no_trim = elim (may) [ inl trims ↦ absurd (no_trim trims) | inr begins ↦ begins.0 ]

      begins : (r : Result Progress Refusal) → Says TrimSays r (choice_of s.journal) (choice_of new) → IsNotRefused (reply_to r) → (IsTrimming (choice_of s.journal) → ⊥) → (reply_to r ≡ reply.Stepped progress.More) × BeginsTrim (choice_of s.journal) (choice_of new)
      begins (Ok progress.Idle) none made no_trim = absurd none
      begins (Ok progress.More) began made no_trim = (refl, began)
      begins (Ok progress.Done) ended made no_trim = absurd (none-some ended.0 (sym (rests no_trim) ∙ ended.1))
      begins (Err why) other made no_trim = absurd (not_made (reply.Refused why) why refl made)

      said : (r : Result Progress Refusal) → Says TrimSays r (choice_of s.journal) (choice_of new) → Ends (choice_of s.journal) (choice_of new) ⊎ (r ≡ Ok progress.Done → ⊥)
      said (Ok progress.Done) ended = inl ended
      said (Ok progress.Idle) other = inr (λ e. cc)
      said (Ok progress.More) other = inr (λ e. cc)
      said (Err why) other = inr (λ e. cc)

-- a trim that may not be made isn't under way
pub idle_comes_on : {D : Type 0} (s : Parts D) → IsTrimmed s.store.machine s.base (changes_before s.earlier) (choice_of s.journal) (map view_of s.hives.items) → StepAdvances event.TrimStep (reply_to (Ok progress.Idle)) s s
idle_comes_on s none = record {
  nears_durable = λ is _ _. absurd (not_journal is);
  begins_trim = λ _ _ not_idle _. absurd (not_idle refl);
  ends_trim = λ _ _ trims. absurd (none.no_trim trims);
  flushes = λ i was then is _ not_idle _ _. absurd (not_idle refl);
}
  where
    not_journal : event.TrimStep ≡ event.JournalStep → ⊥
    not_journal is = cc

-- A step of a flush

-- what a hive's step says
abbrev pub StepsOn : ℕ → Reply → HiveFile → HiveFile → Type 0
StepsOn number answer was then = FlushesOn number answer (view_of was) (view_of then) (flush_of was) (flush_of then)

pub flush_comes_on : {D : Type 0} (hive : ℕ) (answer : Reply) (old new : Parts D)
    → ((was then : HiveFile) → IsNotRefused answer → (answer ≡ reply.Stepped progress.Idle → ⊥) → slice_get old.hives.items hive ≡ Some was → slice_get new.hives.items hive ≡ Some then → StepsOn old.store.machine.durable answer was then)
    → StepAdvances (event.FlusherStep hive) answer old new
flush_comes_on hive answer old new steps = record {
  nears_durable = λ is _ _. absurd (not_journal is);
  begins_trim = λ is _ _ _. absurd (not_trim is);
  ends_trim = λ is _ _. absurd (elim (is) [ inl j ↦ not_journal j | inr t ↦ not_trim t ]);
  flushes = λ i was then is made not_idle at there. let same = same_place i is in steps was then made not_idle (subst (λ n. slice_get old.hives.items n ≡ Some was) (sym same) at) (subst (λ n. slice_get new.hives.items n ≡ Some then) (sym same) there);
}
  where
    not_journal : event.FlusherStep hive ≡ event.JournalStep → ⊥
    not_journal is = cc

    not_trim : event.FlusherStep hive ≡ event.TrimStep → ⊥
    not_trim is = cc

    same_place : (i : ℕ) → event.FlusherStep hive ≡ event.FlusherStep i → hive ≡ i
    same_place i is = cc

-- of one hive
pub writes_on : (was then : HiveFile) (come : Result Progress Refusal) → Says (HiveSays (memory_of was)) come (file_choice was) (file_choice then) → memory_of then ≡ memory_of was → IsOfMemory (file_choice was) (memory_of was)
    → ((file_choice was).next ≡ None → states.steps_left was ≤ 2 * dirty_pages was + 7) → (come ≡ Ok progress.More → states.steps_left then < states.steps_left was) → (come ≡ Ok progress.More → 0 < states.steps_left then)
    → (come ≡ Ok progress.More → dirty_pages then ≡ dirty_pages was) → IsNotRefused (reply_to come) → StepsOn (memory_of was).1 (reply_to come) was then
writes_on was then (Err why) says memory own few falls left pages made = absurd (not_made (reply.Refused why) why refl made)
writes_on was then (Ok progress.Idle) says memory own few falls left pages made = absurd says
writes_on was then (Ok progress.More) says memory own few falls left pages made = elim (says) [
  | inl begins ↦ inl (record {
    rests = begins.0;
    told = refl;
    files = begins.1 ∙ ap (λ (x : TreeMap × ℕ). under_way (file_choice was).now x) (sym memory);
    takes = ap (λ (x : TreeMap × ℕ). x.1) memory;
    few = omega (arith, few begins.0, falls refl, pages refl);
    some = left refl;
  })
  | inr goes ↦ inr (inl (record {
    was = own_next (goes.0.0) goes.0.1 own;
    told = refl;
    hive = ap (λ (c : Choice (TreeMap × ℕ)). let v : HiveView = record { files = c; memory = memory_of then } in v) goes.1 ∙ ap (λ (x : TreeMap × ℕ). let v : HiveView = record { files = file_choice was; memory = x } in v) memory;
    pages = pages refl;
    falls = falls refl;
    some = left refl;
  }))
]
  where
    own_next : (x : TreeMap × ℕ) → (file_choice was).next ≡ Some x → IsOfMemory (file_choice was) (memory_of was) → (file_choice was).next ≡ Some (memory_of was)
    own_next x e (inl none) = absurd (none-some x (sym none ∙ e))
    own_next x e (inr its) = its
writes_on was then (Ok progress.Done) (x, e, is) memory own few falls left pages made =
    inr (inr (record { was = own_next own; told = refl; files = is ∙ ap (λ (y : TreeMap × ℕ). settled y) (same_Some x (memory_of was) (sym e ∙ own_next own)); memory = memory }))
  where
    own_next : IsOfMemory (file_choice was) (memory_of was) → (file_choice was).next ≡ Some (memory_of was)
    own_next (inl none) = absurd (none-some x (sym none ∙ e))
    own_next (inr its) = its

-- in a list of hives
pub writes_at : (hives : List HiveFile) (k : ℕ) (answer : Reply) (old new was then : HiveFile) → slice_get hives k ≡ Some old → slice_get hives k ≡ Some was → slice_get (slice_set hives k new) k ≡ Some then → k < length hives
    → StepsOn (memory_of old).1 answer old new → StepsOn (memory_of was).1 answer was then
writes_at hives k answer old new was then is at there lt on =
    subst (λ (h : HiveFile). StepsOn (memory_of h).1 answer h then) (same_hive hives k old was is at)
    (subst (λ (h : HiveFile). StepsOn (memory_of old).1 answer old h) (same_Some new then (sym (get_same hives k new lt) ∙ there)) on)

-- what a hive takes into memory
pub takes_at : (hives : List HiveFile) (k : ℕ) (old new was then : HiveFile) → slice_get hives k ≡ Some old → slice_get hives k ≡ Some was → slice_get (slice_set hives k new) k ≡ Some then → k < length hives
    → (result : Result (Unit {0}) Refusal) (upto durable : ℕ) (tree : TreeMap) → file_choice new ≡ file_choice old → OnOk result (memory_of new ≡ (tree, upto)) → upto ≡ durable → (file_choice then ≡ file_choice was) × OnOk result ((memory_of then).1 ≡ durable)
takes_at hives k old new was then is at there lt result upto durable tree files memory same =
    subst (λ (h : HiveFile). (file_choice then ≡ file_choice h) × OnOk result ((memory_of then).1 ≡ durable)) (same_hive hives k old was is at)
    (subst (λ (h : HiveFile). (file_choice h ≡ file_choice old) × OnOk result ((memory_of h).1 ≡ durable)) (same_Some new then (sym (get_same hives k new lt) ∙ there))
    (files, told result memory))
  where
    told : (r : Result (Unit {0}) Refusal) → OnOk r (memory_of new ≡ (tree, upto)) → OnOk r ((memory_of new).1 ≡ durable)
    told (Ok u) e = ap (λ (x : TreeMap × ℕ). x.1) e ∙ same
    told (Err why) e = tt

-- a hive that was at rest has absorbed what is durable before
pub from_rest : (number : ℕ) (answer : Reply) (was mid then : HiveFile) → (file_choice was).next ≡ None → file_choice mid ≡ file_choice was → (memory_of mid).1 ≡ number → StepsOn (memory_of mid).1 answer mid then → StepsOn number answer was then
from_rest number answer was mid then rests same taken (inl begins) = inl (record {
  rests = rests;
  told = begins.told;
  files = begins.files ∙ ap (λ (c : Choice (TreeMap × ℕ)). under_way c.now (memory_of then)) same;
  takes = begins.takes ∙ taken;
  few = begins.few;
  some = begins.some;
})
from_rest number answer was mid then rests same taken (inr (inl on)) = absurd (none-some (memory_of mid) (sym rests ∙ sym (ap (λ (c : Choice (TreeMap × ℕ)). c.next) same) ∙ on.was))
from_rest number answer was mid then rests same taken (inr (inr ends)) = absurd (none-some (memory_of mid) (sym rests ∙ sym (ap (λ (c : Choice (TreeMap × ℕ)). c.next) same) ∙ ends.was))

-- if something is under way to the files nothing begins
pub from_busy : (number other : ℕ) (answer : Reply) (was then : HiveFile) → ((file_choice was).next ≡ None → ⊥) → StepsOn other answer was then → StepsOn number answer was then
from_busy number other answer was then not_idle (inl begins) = absurd (not_idle begins.rests)
from_busy number other answer was then not_idle (inr on) = inr on

-- What is seen of hives

-- of a hive that stays
pub seen_same : {V : Type 0} (view : HiveFile → V) (new old : List HiveFile) (i : ℕ) → slice_get new i ≡ slice_get old i → slice_get (map view new) i ≡ slice_get (map view old) i
seen_same view new old i same = slice_get-map view new i ∙ ap (option_map view) same ∙ sym (slice_get-map view old i)

-- of a hive that makes a step
pub steps_seen : (old new : List HiveFile) (i number : ℕ) (answer : Reply) (was then : HiveView) (before after : FlushView) → slice_get (map view_of old) i ≡ Some was → slice_get (map flush_of old) i ≡ Some before → slice_get (map view_of new) i ≡ Some then → slice_get (map flush_of new) i ≡ Some after
    → ((x y : HiveFile) → slice_get old i ≡ Some x → slice_get new i ≡ Some y → StepsOn number answer x y) → FlushesOn number answer was then before after
steps_seen old new i number answer was then before after at before_at there after_at steps =
    let x = viewed old i was at in
    let y = viewed new i then there in
    subst (λ (v : HiveView). FlushesOn number answer v then before after) x.2
    (subst (λ (v : HiveView). FlushesOn number answer (view_of x.0) v before after) y.2
    (subst (λ (f : FlushView). FlushesOn number answer (view_of x.0) (view_of y.0) f after) (flush_is old i x.0 before x.1 before_at)
    (subst (λ (f : FlushView). FlushesOn number answer (view_of x.0) (view_of y.0) (flush_of x.0) f) (flush_is new i y.0 after y.1 after_at) (steps x.0 y.0 x.1 y.1))))
  where
    flush_is : (hives : List HiveFile) (j : ℕ) (hive : HiveFile) (flush : FlushView) → slice_get hives j ≡ Some hive → slice_get (map flush_of hives) j ≡ Some flush → flush_of hive ≡ flush
    flush_is hives j hive flush is seen = same_Some (flush_of hive) flush (sym (slice_get-map flush_of hives j ∙ ap (option_map flush_of) is) ∙ seen)
