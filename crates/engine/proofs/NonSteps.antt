-- An engine's parts stay sound if only the store in memory changes.
use Rattle.std.proofs.Common.{◌≡◌, ◌⊎◌, ℕ, true, false, List, map, refl, sym, ap, subst, arith}
use Rattle.reg_tree.specs.declared.element.Element.{Element}
use Rattle.crash_model.specs.Promises.{Choice, Content}
use Rattle.store_model.specs.Machine.{Machine}
use Rattle.store_model.specs.Invariant.{InvariantHolds, JournalStateStays, AcceptsOneChange}
use Rattle.store_model.specs.Steps.{Step, is_request, is_step, may_accept}
use Rattle.store_model.specs.declared.event.Event.{Event}
use Rattle.store_model.specs.declared.event.Event.TheVariants as event
use Rattle.store_model.specs.declared.event.Reply.{Reply}
use Rattle.store_model.specs.declared.event.Reply.TheVariants as reply
use Rattle.transactions.specs.Stores.{StoreView}
use Rattle.change_codec.specs.ModelChanges.{TimedOp}
use Rattle.engine.specs.EarlierChanges.{changes_before}
use Rattle.commit_journal.specs.Journals.{choice_of}
use Rattle.engine_invariant.specs.States.{HiveView, IsConsistent}
use Rattle.engine_invariant.specs.Engines.{opened_after}
use Rattle.engine_invariant.specs.Prefixes.{view_of}
use Rattle.recovery.specs.Retained.{numbered_changes}
use Rattle.engine.specs.LastChangePerHive.{AreLastNaming}
use Rattle.engine.specs.Parts.{IsSound}
use Rattle.engine.specs.declared.parts.Parts.{Parts}
use Rattle.engine.proofs.RetainedChanges.{retained_at_non_step, hand_steps}
use Rattle.engine.proofs.Namings.{last_changes_at_non_step}
use Rattle.engine.proofs.Sound.{non_step_sound, told_sound}

-- The laws that are used

abbrev pub EventsKeep : Type 0
EventsKeep = (old new : Machine) (base : ℕ) (opened : List Element) (journal : Choice (Content TimedOp)) (hives : List HiveView) (event : Event) (reply : Reply) → IsConsistent old base opened journal hives → is_request event ≡ true → Step old event reply new → IsConsistent new base opened journal hives

abbrev pub Settle : Type 0
Settle = (old new : Machine) (event : Event) (reply : Reply) → InvariantHolds old → is_request event ≡ true → Step old event reply new → JournalStateStays old new ⊎ AcceptsOneChange old new

-- an event that makes no step
pub non_step_keeps : {D : Type 0} → EventsKeep → Settle → (s : Parts D) (t : StoreView) (e : Event) (r : Reply) → IsSound s → is_request e ≡ true → Step s.store.machine e r t.machine → t.retained ≡ s.store.retained → IsSound (record s { store = t })
non_step_keeps keep mark_durable s t e r sound non_step step hand =
    let kept = sound.holds.kept in
    let how = mark_durable s.store.machine t.machine e r kept.kept non_step step in
    record {
      holds = non_step_sound s.store t s.base (changes_before s.earlier) s.journal s.hives.items sound.holds (keep s.store.machine t.machine s.base (changes_before s.earlier) (choice_of s.journal) (map view_of s.hives.items) e r kept non_step step) how;
      last_changes = last_changes_at_non_step s.store.machine t.machine s.base (changes_before s.earlier) s.last_changes.last.items kept.begun kept.kept.within.opened kept.kept.within.known how sound.last_changes;
      named = sound.named;
      retained = retained_at_non_step s.store t s.base (changes_before s.earlier) (numbered_changes s.opened) s.hives.items kept.begun kept.kept.within.known how hand sound.retained;
    }

-- the store changes nothing of an engine's invariant
pub told_keeps : {D : Type 0} (s : Parts D) (t : StoreView) → IsSound s → t.machine ≡ s.store.machine → t.retained ≡ s.store.retained → IsSound (record s { store = t })
told_keeps s t sound same hand = record {
  holds = told_sound s.store t s.base (changes_before s.earlier) s.journal s.hives.items same sound.holds;
  last_changes = subst (λ (m : Machine). AreLastNaming m s.base (changes_before s.earlier) s.last_changes.last.items) (sym same) sound.last_changes;
  named = sound.named;
  retained = hand_steps s.store t s.base (changes_before s.earlier) (numbered_changes s.opened) s.hives.items (ap (λ (m : Machine). m.before) same) (ap (λ (m : Machine). m.accepted) same) (omega (arith, ap (λ (m : Machine). m.durable) same)) hand sound.retained;
}

-- an event that may accept a change makes no step and folds nothing
pub accepting_is_request : (e : Event) → may_accept e ≡ true → is_request e ≡ true
accepting_is_request event.JournalStep accepts = absurd cc
accepting_is_request (event.FlusherStep hive) accepts = absurd cc
accepting_is_request event.TrimStep accepts = absurd cc
accepting_is_request event.Fold accepts = absurd cc
accepting_is_request _ accepts = refl

-- no request is a step
pub requests_step_not : (e : Event) → is_request e ≡ true → is_step e ≡ false
requests_step_not event.JournalStep request = absurd cc
requests_step_not (event.FlusherStep hive) request = absurd cc
requests_step_not event.TrimStep request = absurd cc
requests_step_not event.Fold request = absurd cc
requests_step_not _ request = refl

-- no request folds the history
pub request_opens : (e : Event) (answer : Reply) (old new : Machine) (opened accepted : List Element) → is_request e ≡ true → Step old e answer new → opened_after answer opened accepted ≡ opened
request_opens e (reply.Folded number) old new opened accepted request step = absurd (not_folded e request step)
  where
    not_folded : (e : Event) → is_request e ≡ true → Step old e (reply.Folded number) new → ⊥
    not_folded (event.StartSession session) request s = s
    not_folded (event.EndSession session) request s = s
    not_folded (event.Read session hive path question) request s = s
    not_folded (event.Write session moment op) request s = s
    not_folded (event.Begin session id) request s = s
    not_folded (event.TxRead session tx hive path question) request s = s
    not_folded (event.TxWrite session tx moment op) request s = s
    not_folded (event.CommitAccept session tx moment) request s = s
    not_folded (event.Rollback session tx) request s = s
    not_folded (event.Close session tx) request s = s
    not_folded (event.Outcome session tx) request s = s
    not_folded (event.OutcomeOf id) request s = s
    not_folded event.FlushAsk request s = s
    not_folded (event.Acked number) request s = s
    not_folded event.JournalStep request s = s
    not_folded (event.FlusherStep hive) request s = s
    not_folded event.TrimStep request s = s
    not_folded event.Fold request s = cc
request_opens e _ old new opened accepted request step = refl
