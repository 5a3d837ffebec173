-- An engine's parts answer an event.
use Rattle.std.proofs.Common.{◌≡◌, ◌⊎◌, inl, inr, ℕ, ◌+◌, ◌<◌, refl, sym, ◌∙◌, ap, subst, arith, List, Result, Ok, Err, slice_get}
use Rattle.refusals.specs.declared.refusal.Refusal.{Refusal}
use Rattle.std.proofs.lemmas.Bool.{true≢false}
use Rattle.std.specs.Prelude.{IfErr, true}
use Rattle.refusals.specs.declared.refusal.Refusal.TheVariants.{DiskFault, Faulted, NoMemory}
use Rattle.reg_tree.specs.declared.element.Element.{Element}
use Rattle.disk_model.specs.FileState.{FileState}
use Rattle.disk_model.specs.Call.{OneCall, HasFailed}
use Rattle.store_model.specs.Machine.{Machine}
use Rattle.crash_model.specs.Promises.{Answer, Choice, Content, TrimSays}
use Rattle.change_codec.specs.ModelChanges.{TimedOp}
use Rattle.store_model.specs.Steps.{Step, is_step}
use Rattle.store_model.specs.declared.event.Event.{Event}
use Rattle.store_model.specs.declared.event.Event.TheVariants.{FlusherStep}
use Rattle.store_model.specs.declared.event.Reply.{Reply}
use Rattle.store_model.specs.declared.event.Reply.TheVariants.{Refused}
use Rattle.crash_model.specs.StepAnswers.{Says}
use Rattle.disk_model.specs.declared.progress.Progress.{Progress}
use Rattle.disk_model.specs.declared.progress.Progress.TheVariants as progress
use Rattle.engine.specs.EarlierChanges.{changes_before}
use Rattle.commit_journal.specs.Journals.{store_of}
use Rattle.commit_journal.specs.declared.journal.Journal.{Journal}
use Rattle.engine_invariant.specs.Answers.{reply_to}
use Rattle.engine_invariant.specs.Prefixes.{AnyFile, AreOnDisk}
use Rattle.engine_invariant.specs.Engines.{NeedsNoDevice, opened_after}
use Rattle.engine.specs.Parts.{IsSound}
use Rattle.engine.specs.Events.{PartsStep}
use Rattle.engine.specs.declared.parts.Parts.{Parts}
use Rattle.engine.proofs.Idling.{told_idle}

-- a call on some files is one on any
pub any_call : (own : ℕ → Type 0) (old new : ℕ → ℕ → FileState) (before after : ℕ) → OneCall own old new before after → OneCall AnyFile old new before after
any_call own old new before after call = record { later = call.later; one = call.one; past = call.past; others = λ f none. absurd (none tt) }

-- no step folds the history
pub step_opens : (come : Result Progress Refusal) (opened accepted : List Element) → opened_after (reply_to come) opened accepted ≡ opened
step_opens (Ok come) opened accepted = refl
step_opens (Err why) opened accepted = refl

-- a step that is answered DiskFault has failed
pub has_failed : (come : Result Progress Refusal) (old new : ℕ) → HasFailed come old new → reply_to come ≡ Refused DiskFault → old < new
has_failed (Ok come) old new failed told = absurd cc
has_failed (Err why) old new failed told =
    let is : why ≡ DiskFault = cc in
    let one : new ≡ old + 1 = subst (λ w. HasFailed {T = Progress} (Err w) old new) is failed in
    omega (arith, one)

-- and at any other answer it hasn't
pub works_else : (come : Result Progress Refusal) (old new : ℕ) → HasFailed come old new → (reply_to come ≡ Refused DiskFault → ⊥) → new ≡ old
works_else (Ok come) old new failed other = failed
works_else (Err DiskFault) old new failed other = absurd (other refl)
works_else (Err _) old new failed other = failed

-- A step that needs no device leaves the disk: an idle one does, and one that is refused for another reason than the
-- device.

told_refused : (come : Result Progress Refusal) (why : Refusal) → reply_to come ≡ Refused why → come ≡ Err why
told_refused (Ok progress.Idle) why told = absurd cc
told_refused (Ok progress.More) why told = absurd cc
told_refused (Ok progress.Done) why told = absurd cc
told_refused (Err other) why told =
    let same : other ≡ why = cc in
    subst (λ w. ◌≡◌ {A = Result Progress Refusal} (Err other) (Err w)) same refl

pub quiet_by : {D : Type 0} (event : Event) (come : Result Progress Refusal) (old new : D) → is_step event ≡ true → (come ≡ Ok progress.Idle → new ≡ old) → ((why : Refusal) → come ≡ Err why → (why ≡ DiskFault → ⊥) → new ≡ old)
    → NeedsNoDevice event (reply_to come) → new ≡ old
quiet_by event come old new steps idle refused needs = elim (needs) [
  | inl non_step ↦ absurd (true≢false (sym steps ∙ non_step))
  | inr rest ↦ elim (rest) [
    | inl told ↦ idle ((told_idle come).0 told)
    | inr told ↦ refused told.0 (told_refused come told.0 told.1) told.2
  ]
]

-- a step of the journal or of a trim
pub refused_still : {X D : Type 0} (says : Answer → X → X → Type 0) (come : Result Progress Refusal) (a b : X) (old new : D) → Says says come a b → ((come ≡ Err Faulted) ⊎ ((come ≡ Err NoMemory) ⊎ (come ≡ Ok progress.Idle)) → new ≡ old)
    → (why : Refusal) → come ≡ Err why → (why ≡ DiskFault → ⊥) → new ≡ old
refused_still says (Err NoMemory) a b old new said no_change why is other = no_change (inr (inl refl))
refused_still says (Err Faulted) a b old new said no_change why is other = no_change (inl refl)
refused_still says (Err DiskFault) a b old new said no_change why is other = let same : why ≡ DiskFault = cc in absurd (other same)
refused_still says (Err _) a b old new said no_change why is other = absurd said
refused_still says (Ok p) a b old new said no_change why is other = absurd (apart is)
  where
    apart : ◌≡◌ {A = Result Progress Refusal} (Ok p) (Err why) → ⊥
    apart same = cc

-- a step of a trim, which is never idle or refused for lack of memory
pub trim_still : {D : Type 0} (come : Result Progress Refusal) (a b : Choice (Content TimedOp)) (old new : D) → Says TrimSays come a b → (come ≡ Err Faulted → new ≡ old) → (come ≡ Err Faulted) ⊎ ((come ≡ Err NoMemory) ⊎ (come ≡ Ok progress.Idle)) → new ≡ old
trim_still come a b old new said no_change (inl faulted) = no_change faulted
trim_still come a b old new said no_change (inr (inl hungry)) = absurd (subst (λ r. Says TrimSays r a b) hungry said)
trim_still come a b old new said no_change (inr (inr idle)) = absurd (subst (λ r. Says TrimSays r a b) idle said)

-- a step of a hive's flush
pub flush_still : {D : Type 0} (come : Result Progress Refusal) (old new : D) → IfErr come (λ w. (w ≡ DiskFault) ⊎ (w ≡ Faulted)) → (come ≡ Err Faulted → new ≡ old) → (why : Refusal) → come ≡ Err why → (why ≡ DiskFault → ⊥) → new ≡ old
flush_still (Ok p) old new refused no_change why is other = absurd (apart is)
  where
    apart : ◌≡◌ {A = Result Progress Refusal} (Ok p) (Err why) → ⊥
    apart same = cc
flush_still (Err w) old new refused no_change why is other =
    let same : w ≡ why = cc in
    elim (refused) [
      | inl failed ↦ absurd (other (sym same ∙ failed))
      | inr faulted ↦ no_change (subst (λ x. ◌≡◌ {A = Result Progress Refusal} (Err w) (Err x)) faulted refl)
    ]

module _ {D : Type 0} (states : D → ℕ → ℕ → FileState) (clock failures : D → ℕ) (is_faithful : D → Type 0) (event : Event) (answer : Reply) where
  -- nothing has changed
  pub stays : (parts : Parts D) → IsSound parts → Step parts.store.machine event answer parts.store.machine → (answer ≡ Refused DiskFault → ⊥) → ((opened accepted : List Element) → opened_after answer opened accepted ≡ opened) → PartsStep states clock failures is_faithful event answer parts parts
  stays parts sound step fine kept = record {
    step = step;
    sound = sound;
    on_disk = λ f on. on;
    store = refl;
    call = record { later = omega arith; one = omega arith; past = λ k f le. refl; others = λ f none. refl };
    quiet = λ q. refl;
    failed = λ e. absurd (fine e);
    works = λ other. refl;
    faithful = λ f. f;
    life = (refl, sym (kept (changes_before parts.earlier) parts.store.machine.accepted));
    journal_stays = λ nj nt. refl;
    hives_stay = λ i no. refl;
  }

  -- a hive has absorbed something before
  pub behind : (old mid new : Parts D) → mid ≡ record old { hives = mid.hives } → ((state : ℕ → FileState) → AreOnDisk old.journal old.hives.items state → AreOnDisk mid.journal mid.hives.items state)
      → ((i : ℕ) → (event ≡ FlusherStep i → ⊥) → slice_get mid.hives.items i ≡ slice_get old.hives.items i)
      → PartsStep states clock failures is_faithful event answer mid new → PartsStep states clock failures is_faithful event answer old new
  behind old mid new rest moves others on =
      let disk : mid.disk ≡ old.disk = ap (λ (p : Parts D). p.disk) rest in
      let machine : mid.store.machine ≡ old.store.machine = ap (λ (p : Parts D). p.store.machine) rest in
      let journal : mid.journal ≡ old.journal = ap (λ (p : Parts D). p.journal) rest in
      record {
        step = subst (λ (m : Machine). Step m event answer new.store.machine) machine on.step;
        sound = on.sound;
        on_disk = λ f there. on.on_disk f (subst (λ (d : D). AreOnDisk mid.journal mid.hives.items (states d (clock d))) (sym disk) (moves (states old.disk (clock old.disk)) there));
        store = on.store ∙ ap (λ (j : Journal). store_of j) journal;
        call = subst (λ (d : D). OneCall AnyFile (states d) (states new.disk) (clock d) (clock new.disk)) disk on.call;
        quiet = λ q. on.quiet q ∙ disk;
        failed = λ e. subst (λ (d : D). failures d < failures new.disk) disk (on.failed e);
        works = λ other. on.works other ∙ ap failures disk;
        faithful = λ f. subst is_faithful disk (on.faithful f);
        life = (on.life.0 ∙ ap (λ (p : Parts D). p.base) rest, on.life.1 ∙ ap (λ (p : Parts D). opened_after answer (changes_before p.earlier) p.store.machine.accepted) rest);
        journal_stays = λ nj nt. on.journal_stays nj nt ∙ journal;
        hives_stay = λ i no. on.hives_stay i no ∙ others i no;
      }

-- a step that was refused for lack of memory
pub hungry : {D : Type 0} (states : D → ℕ → ℕ → FileState) (clock failures : D → ℕ) (is_faithful : D → Type 0) (hive : ℕ) (parts : Parts D) (why : Refusal) → IsSound parts → why ≡ NoMemory → PartsStep states clock failures is_faithful (FlusherStep hive) (reply_to (Err why)) parts parts
hungry states clock failures is_faithful hive parts why sound is =
    subst (λ w. PartsStep states clock failures is_faithful (FlusherStep hive) (reply_to (Err w)) parts parts) (sym is) (stays states clock failures is_faithful (FlusherStep hive) (Refused NoMemory) parts sound (inl (inr refl, refl)) (λ e. cc) (λ opened accepted. refl))
