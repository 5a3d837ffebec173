-- When a step has nothing to do.
use Rattle.std.proofs.Common.{◌≡◌, ◌↔◌, inl, inr, ℕ, ◌-◌, ◌<◌, ◌≤◌, true, List, [], ◌∷◌, length, map, drop, refl, sym, ◌∙◌, ap, subst, arith, Some, None, Result, Ok, Err, slice_get}
use Rattle.std.proofs.lemmas.Option.{none-some, same_Some}
use Rattle.std.proofs.lemmas.List.{length-drop, length-map}
use Rattle.refusals.specs.declared.refusal.Refusal.{Refusal}
use Rattle.reg_tree.specs.declared.element.Element.{Element}
use Rattle.crash_model.specs.Promises.{Choice, Content, nothing, top, JournalSays, TrimSays}
use Rattle.crash_model.proofs.ClausesSuffice.{last_naming}
use Rattle.store_model.specs.Machine.{Machine}
use Rattle.store_model.specs.Steps.{is_request}
use Rattle.store_model.specs.Invariant.{InvariantHolds}
use Rattle.store_model.specs.declared.event.Event.{Event}
use Rattle.store_model.specs.declared.event.Event.TheVariants as event
use Rattle.store_model.specs.declared.event.Reply.{Reply}
use Rattle.store_model.specs.declared.event.Reply.TheVariants.{Stepped}
use Rattle.change_codec.specs.ModelChanges.{TimedOp, timed_element, timed_elements}
use Rattle.crash_model.specs.StepAnswers.{Says}
use Rattle.disk_model.specs.declared.progress.Progress.{Progress}
use Rattle.disk_model.specs.declared.progress.Progress.TheVariants as progress
use Rattle.commit_journal.specs.Journals.{choice_of, view_in_phase}
use Rattle.commit_journal.specs.Journals as journals
use Rattle.commit_journal.specs.OnDisk as phase
use Rattle.commit_journal.specs.declared.extent.Extent.{Extent}
use Rattle.commit_journal.specs.declared.journal.Phase.{Phase}
use Rattle.commit_journal.specs.declared.journal.Phase.TheVariants.{AtRest, BodyWritten, BodySynced, GateWritten, TrimWritten, Broken}
use Rattle.commit_journal.specs.declared.journal.Journal.{Journal}
use Rattle.hive_flush.specs.HiveStates.{file_choice}
use Rattle.hive_flush.specs.declared.hive.HiveFile.{HiveFile}
use Rattle.engine_invariant.specs.States.{HiveView, life_of}
use Rattle.engine_invariant.specs.Answers.{reply_to, MayTrim}
use Rattle.engine_invariant.specs.Prefixes.{view_of}
use Rattle.engine_invariant.specs.Idle.{HasAll, IdlesExactly, HiveIsFlushed, JournalIsIdle, IsTrimmed, SomeLacks}
use Rattle.engine.specs.LastChangePerHive.{AreLastNaming}
use Rattle.engine.proofs.Sound.{same_hive}
use Rattle.engine_invariant.proofs.HiveLists.{view_at}

-- Answers

pub told_idle : (come : Result Progress Refusal) → (reply_to come ≡ Stepped progress.Idle) ↔ (come ≡ Ok progress.Idle)
told_idle (Ok progress.Idle) = (λ e. refl, λ e. refl)
told_idle (Ok progress.More) = (λ e. absurd cc, λ e. absurd cc)
told_idle (Ok progress.Done) = (λ e. absurd cc, λ e. absurd cc)
told_idle (Err why) = (λ e. absurd cc, λ e. absurd cc)

pub replied_idle : {X : Type 0} (come : Result Progress Refusal) (answer : Reply) → answer ≡ reply_to come → (come ≡ Ok progress.Idle) ↔ X → (answer ≡ Stepped progress.Idle) ↔ X
replied_idle come answer is exact = (λ e. exact.0 ((told_idle come).0 (sym is ∙ e)), λ x. is ∙ (told_idle come).1 (exact.1 x))

pub non_step_idles : (e : Event) (answer : Reply) (m : Machine) (base : ℕ) (opened : List Element) (journal : Choice (Content TimedOp)) (hives : List HiveView) → is_request e ≡ true → IdlesExactly e answer m base opened journal hives
non_step_idles (event.StartSession session) answer m base opened journal hives q = tt
non_step_idles (event.EndSession session) answer m base opened journal hives q = tt
non_step_idles (event.Read session hive path question) answer m base opened journal hives q = tt
non_step_idles (event.Write session moment op) answer m base opened journal hives q = tt
non_step_idles (event.Begin session id) answer m base opened journal hives q = tt
non_step_idles (event.TxRead session tx hive path question) answer m base opened journal hives q = tt
non_step_idles (event.TxWrite session tx moment op) answer m base opened journal hives q = tt
non_step_idles (event.CommitAccept session tx moment) answer m base opened journal hives q = tt
non_step_idles (event.Rollback session tx) answer m base opened journal hives q = tt
non_step_idles (event.Close session tx) answer m base opened journal hives q = tt
non_step_idles (event.Outcome session tx) answer m base opened journal hives q = tt
non_step_idles (event.OutcomeOf id) answer m base opened journal hives q = tt
non_step_idles event.FlushAsk answer m base opened journal hives q = tt
non_step_idles (event.Acked number) answer m base opened journal hives q = tt
non_step_idles event.Fold answer m base opened journal hives q = absurd cc
non_step_idles event.JournalStep answer m base opened journal hives q = absurd cc
non_step_idles (event.FlusherStep hive) answer m base opened journal hives q = absurd cc
non_step_idles event.TrimStep answer m base opened journal hives q = absurd cc

-- a refusal is not idle
pub not_ok : (come : Result Progress Refusal) (why : Refusal) → come ≡ Err why → come ≡ Ok progress.Idle → ⊥
not_ok come why e f = apart (sym e ∙ f)
  where
    apart : ◌≡◌ {A = Result Progress Refusal} (Err why) (Ok progress.Idle) → ⊥
    apart same = cc

-- A step of the journal

pub journal_idles : (m : Machine) (journal new : Choice (Content TimedOp)) (durable first : ℕ) (handed : List Element) (come : Result Progress Refusal) → InvariantHolds m → durable ≡ m.durable → handed ≡ drop (durable - m.before) m.accepted
    → Says (JournalSays first (timed_elements handed)) come journal new → (journal.next ≡ None → length handed ≡ 0 → come ≡ Ok progress.Idle) → (come ≡ Ok progress.Idle) ↔ JournalIsIdle m journal
journal_idles m journal new durable first handed come kept d is says idle = (rests, idles)
  where
    long : length handed ≡ length m.accepted - (m.durable - m.before)
    long = ap length is ∙ length-drop (durable - m.before) m.accepted ∙ ap (λ n. length m.accepted - (n - m.before)) d

    rests : come ≡ Ok progress.Idle → JournalIsIdle m journal
    rests e =
        let said : (journal.next ≡ None) × (timed_elements handed ≡ []) × (new ≡ journal) = subst (λ r. Says (JournalSays first (timed_elements handed)) r journal new) e says in
        record { durable = omega (arith, long, length-map handed timed_element, ap length said.1, kept.within.known, kept.within.opened); rests = said.0 }

    idles : JournalIsIdle m journal → come ≡ Ok progress.Idle
    idles settled = idle settled.rests (omega (arith, long, settled.durable))

-- A step of a trim

not_both : (m : Machine) (base : ℕ) (opened : List Element) (journal : Choice (Content TimedOp)) (hives : List HiveView) → MayTrim m base opened journal hives → IsTrimmed m base opened journal hives → ⊥
not_both m base opened journal hives (inl trims) none = none.no_trim trims
not_both m base opened journal hives (inr (rests, some, have)) none = elim (none.why) [
  | inl not_idle ↦ not_idle rests
  | inr other ↦ elim (other) [
    | inl empty ↦ omega (arith, some, ap length empty)
    | inr lacks ↦ lacks.3 (have lacks.0 lacks.1 lacks.2)
  ]
]

pub trim_idles : (m : Machine) (base : ℕ) (opened : List Element) (journal new : Choice (Content TimedOp)) (hives : List HiveView) (come : Result Progress Refusal) → MayTrim m base opened journal hives → Says TrimSays come journal new
    → (come ≡ Ok progress.Idle) ↔ IsTrimmed m base opened journal hives
trim_idles m base opened journal new hives come may says = (λ e. absurd (subst (λ r. Says TrimSays r journal new) e says), λ none. absurd (not_both m base opened journal hives may none))

-- what is under way has a change, if no trim is under way and the device has not failed
pub told_some : (s : Extent) → 0 < length (journals.content_of s).elements → Some (journals.content_of s) ≡ Some nothing → ⊥
told_some s some e = omega (arith, some, ap (λ (x : Content TimedOp). length x.elements) (same_Some (journals.content_of s) nothing e))

in_phase : (now : Extent) (p : Phase) → ((view_in_phase now p).phase ≡ phase.Phase.TrimWritten → ⊥) → ((view_in_phase now p).phase ≡ phase.Phase.Broken → ⊥) → (view_in_phase now p).choice.next ≡ Some nothing → ⊥
in_phase now AtRest trims broken e = absurd (none-some nothing e)
in_phase now (BodyWritten batch) trims broken e = told_some batch.ahead batch.some e
in_phase now (BodySynced batch) trims broken e = told_some batch.ahead batch.some e
in_phase now (GateWritten batch) trims broken e = told_some batch.ahead batch.some e
in_phase now TrimWritten trims broken e = trims refl
in_phase now (Broken ahead) trims broken e = broken refl

pub no_trim : (journal : Journal) → (journals.IsTrimming journal → ⊥) → (journals.IsBroken journal → ⊥) → (choice_of journal).next ≡ Some nothing → ⊥
no_trim journal trims broken e = in_phase journal.on_device journal.phase trims broken e

pub none_decoded : (s : Content TimedOp) → top 0 s ≡ 0 → s.elements ≡ []
none_decoded s e = by_list s.below s.elements e
  where
    by_list : (below : ℕ) (es : List (List (ℕ × TimedOp))) → top {Op = TimedOp} 0 (record { below = below; elements = es }) ≡ 0 → es ≡ []
    by_list below [] e = refl
    by_list below (x ∷ xs) e = absurd (omega (arith, e))

-- By the last changes that name hives

module _ (m : Machine) (base : ℕ) (opened : List Element) (numbers : List ℕ) (last_changes : AreLastNaming m base opened numbers) where
  pub has_all : (i number : ℕ) (hive : HiveFile) → slice_get numbers i ≡ Some number → (HasAll m base opened i (view_of hive)) ↔ (number ≤ (file_choice hive).now.1)
  has_all i number hive is = last_naming (life_of m base opened) i m.durable number (last_changes i number is) (file_choice hive).now.1

  pub some_lacks : (hives : List HiveFile) → (i : ℕ) × (number : ℕ) × (hive : HiveFile) × (slice_get hives i ≡ Some hive) × (slice_get numbers i ≡ Some number) × ((file_choice hive).now.1 < number) → SomeLacks m base opened (map view_of hives)
  some_lacks hives (i, number, hive, there, named, below) = (i, view_of hive, view_at hives i hive there, λ has. let le = (has_all i number hive named).0 has in omega (arith, le, below))

  -- A step of a flush

  -- a hive at rest
  pub rests_on : (hives : List HiveFile) (i number applied : ℕ) (found hive : HiveFile) → slice_get hives i ≡ Some found → slice_get hives i ≡ Some hive → slice_get numbers i ≡ Some number → applied ≡ (file_choice found).now.1 → number ≤ applied → HasAll m base opened i (view_of hive)
  rests_on hives i number applied found hive at there named is le = (has_all i number hive named).1 (omega (arith, le, is, ap (λ (h : HiveFile). (file_choice h).now.1) (same_hive hives i found hive at there)))

  pub goes_from : {X : Type 0} (hives : List HiveFile) (i number applied : ℕ) (found hive : HiveFile) → slice_get hives i ≡ Some found → slice_get hives i ≡ Some hive → slice_get numbers i ≡ Some number → applied ≡ (file_choice found).now.1 → applied < number → HasAll m base opened i (view_of hive) → X
  goes_from hives i number applied found hive at there named is lt has =
      let le = (has_all i number hive named).0 has in
      absurd (omega (arith, lt, le, is, ap (λ (h : HiveFile). (file_choice h).now.1) (same_hive hives i found hive at there)))

  pub flush_idles : {Rests : Type 0} (hives : List HiveFile) (i : ℕ) (hive : HiveFile) → slice_get hives i ≡ Some hive → (file_choice hive).next ≡ None → Rests ↔ HasAll m base opened i (view_of hive)
      → Rests ↔ HiveIsFlushed m base opened (map view_of hives) i
  flush_idles hives i hive there rests exact = (
    λ e. record { hive = view_of hive; there = view_at hives i hive there; rests = rests; has = exact.0 e },
    λ flushed. exact.1 (subst (λ (v : HiveView). HasAll m base opened i v) (same_Some flushed.hive (view_of hive) (sym flushed.there ∙ view_at hives i hive there)) flushed.has),
  )

-- if something is under way to a hive's files there is something to do
pub flush_goes_on : {Rests : Type 0} (m : Machine) (base : ℕ) (opened : List Element) (hives : List HiveFile) (i : ℕ) (hive : HiveFile) → slice_get hives i ≡ Some hive → ((file_choice hive).next ≡ None → ⊥) → (Rests → ⊥)
    → Rests ↔ HiveIsFlushed m base opened (map view_of hives) i
flush_goes_on m base opened hives i hive there not_idle not = (λ e. absurd (not e), λ flushed. absurd (not_idle (ap (λ (v : HiveView). v.files.next) (same_Some (view_of hive) flushed.hive (sym (view_at hives i hive there) ∙ flushed.there)) ∙ flushed.rests)))
