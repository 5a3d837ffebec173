-- What an event that makes no step leaves: all that the journal and the device need, but for one change more.
use Rattle.std.proofs.Common.{◌≡◌, ◌⊎◌, inl, inr, ℕ, ◌+◌, ◌<◌, ◌==◌, Bool, true, false, cond, List, [], ◌∷◌, ◌++◌, length, refl, sym, ◌∙◌, ap, arith, Option, Some, None}
use Rattle.refusals.specs.declared.refusal.Refusal.TheVariants.{TooLarge}
use Rattle.reg_tree.specs.Operations.{hive_of}
use Rattle.reg_tree.specs.Judgement.{legal, any_outweighs}
use Rattle.reg_tree.specs.Encodings.{element_encoded_len}
use Rattle.reg_tree.specs.declared.element.Element.{Element}
use Rattle.reg_tree.specs.declared.op.Op.{Op}
use Rattle.commit_outcomes.specs.Commits.{Commit}
use Rattle.store_model.specs.Machine.{Machine, trees_now, is_open, change, committed, commit_ops, commit_change, next_commit, first_of, refused_if, refusal_by, room_of, room_refusal, commit_refusal, commit_refusal_if, fault, call_refusal}
use Rattle.store_model.specs.Transactions.{inactive_refusal}
use Rattle.store_model.specs.Steps.{Step, AcceptsWrite, CommitsTx, with_session, is_request}
use Rattle.store_model.specs.Invariant.{InvariantHolds, IsActiveAt, AreLegalChanges, JournalStateStays, AcceptsOneChange}
use Rattle.store_model.specs.declared.handle.Tx.{Tx}
use Rattle.store_model.specs.declared.event.Event.{Event}
use Rattle.store_model.specs.declared.event.Event.TheVariants as event
use Rattle.store_model.specs.declared.event.Reply.{Reply}
use Rattle.store_model.proofs.AtCommit.{Within}
use Rattle.store_model.proofs.Replies.{done_or, read_or, accepted_or, added_or, begun_or, awaits_or, outcome_or, committed_as_or, receipt_or}
use Rattle.store_model.proofs.Limits.{has_room, more_ops, some_ops}
use Rattle.store_model.proofs.TransactionChanges.{with_commit, none_first, not_refused, found_at, active_of}

abbrev NonSteps : Machine → Machine → Type 0
NonSteps old new = JournalStateStays old new ⊎ AcceptsOneChange old new

-- all stays but sessions and transactions
aside : (old new : Machine) (sessions : List ℕ) (tx_slots : _) (begun : ℕ) → new ≡ record old { sessions = sessions; tx_slots = tx_slots; begun = begun } → NonSteps old new
aside old new sessions tx_slots begun e = inl (record {
  opened = ap (λ (m : Machine). m.opened) e;
  before = ap (λ (m : Machine). m.before) e;
  accepted = ap (λ (m : Machine). m.accepted) e;
  durable = ap (λ (m : Machine). m.durable) e;
  room = ap (λ (m : Machine). m.room) e;
  faulted = ap (λ (m : Machine). m.faulted) e;
  bounds = ap (λ (m : Machine). m.bounds) e;
})

same : (old new : Machine) → new ≡ old → NonSteps old new
same old new e = aside old new old.sessions old.tx_slots old.begun e

-- one change more
grown : (old new : Machine) (e : Element) (commits : List Commit) (tx_slots : _) → 0 < length e.ops → AreLegalChanges (trees_now old) e.ops e.moment → room_refusal old (element_encoded_len e) ≡ None
    → new ≡ record old { accepted = old.accepted ++ e ∷ []; commits = commits; room = old.room + room_of e; tx_slots = tx_slots } → NonSteps old new
grown old new e commits tx_slots some legal free is = let room = has_room old e free in inr (record {
  element = e;
  some = some;
  legal = legal;
  number = room.1;
  opened = ap (λ (m : Machine). m.opened) is;
  before = ap (λ (m : Machine). m.before) is;
  accepted = ap (λ (m : Machine). m.accepted) is;
  durable = ap (λ (m : Machine). m.durable) is;
  room = ap (λ (m : Machine). m.room) is;
  fits = omega (arith, room.2, ap (λ (m : Machine). m.room) is);
  faulted = ap (λ (m : Machine). m.faulted) is;
  bounds = ap (λ (m : Machine). m.bounds) is;
})

accepts : (old new : Machine) (session moment : ℕ) (op : Op) (levels : Option ℕ) (number : ℕ) → AcceptsWrite old session moment op levels number new → NonSteps old new
accepts old new session moment op levels number a =
    let f = none_first (fault old) _ a.free in
    let g = none_first (call_refusal old session (hive_of op)) _ f.1 in
    let h : room_refusal old (element_encoded_len (change moment op)) ≡ None = ap (λ j. refusal_by j (room_refusal old (element_encoded_len (change moment op)))) (sym a.is_legal) ∙ g.1 in
    grown old new (change moment op) old.commits new.tx_slots (omega arith) (a.is_legal, tt) h a.next

commits : Within → (old new : Machine) (session : ℕ) (tx : Tx) (moment number : ℕ) → InvariantHolds old → CommitsTx old session tx moment number new → NonSteps old new
commits within old new session tx moment number k c =
    let f = none_first (fault old) (commit_refusal_if old moment (Some c.one)) c.free in
    let g = none_first (inactive_refusal (Some c.one)) (commit_refusal old moment c.one) f.1 in
    by_case (length c.one.ops == 0) refl c.next g.1 (record { there = (found_at old session tx c.one c.found).0; active = active_of c.one g.0 })
  where
    made : Element
    made = commit_change old moment c.one

    by_case : (t : Bool) → (length c.one.ops == 0) ≡ t → new ≡ record (cond t old (with_commit old moment c.one)) { tx_slots = new.tx_slots }
        → cond t None (first_of (refused_if (any_outweighs (trees_now old) (committed old c.one) moment) TooLarge) (room_refusal old (element_encoded_len made))) ≡ None → IsActiveAt old.tx_slots tx.slot c.one → NonSteps old new
    by_case true e n none a = aside old new old.sessions new.tx_slots old.begun n
    by_case false e n none a =
        let h = none_first (refused_if (any_outweighs (trees_now old) (committed old c.one) moment) TooLarge) (room_refusal old (element_encoded_len made)) none in
        grown old new made (old.commits ++ next_commit old c.one ∷ []) new.tx_slots (more_ops c.one.ops (commit_ops old c.one) (some_ops c.one.ops e)) (within old tx.slot c.one moment k a (not_refused _ TooLarge h.0)) h.1 n

session_opened : (old new : Machine) (session : ℕ) → new ≡ with_session old session → NonSteps old new
session_opened old new session e = by_case (is_open old session) e
  where
    by_case : (t : Bool) → new ≡ cond t old (record old { sessions = old.sessions ++ session ∷ [] }) → NonSteps old new
    by_case true e = same old new e
    by_case false e = aside old new (old.sessions ++ session ∷ []) old.tx_slots old.begun e

module _ (within : Within) (old new : Machine) (k : InvariantHolds old) where
  abbrev Left : Reply → Type 0
  Left r = NonSteps old new

  pub non_step : (e : Event) (r : Reply) → is_request e ≡ true → Step old e r new → JournalStateStays old new ⊎ AcceptsOneChange old new
  non_step (event.StartSession session) r q s = done_or Left _ _ r s (λ d. session_opened old new session d.1) (λ e f. same old new f.1)
  non_step (event.EndSession session) r q s = done_or Left _ _ r s (λ d. aside old new _ new.tx_slots old.begun d.next) (λ e f. same old new f.1)
  non_step (event.Read session hive path question) r q s = read_or Left _ _ r s (λ v d. same old new d.next) (λ e f. same old new f.1)
  non_step (event.Write session moment op) r q s = accepted_or Left _ _ _ r s (λ l n d. accepts old new session moment op l n d) (λ d. same old new d.next) (λ e f. same old new f.1)
  non_step (event.Begin session id) r q s = begun_or Left _ _ r s (λ tx d. aside old new old.sessions new.tx_slots (old.begun + 1) d.next) (λ e f. same old new f.1)
  non_step (event.TxRead session tx hive path question) r q s = read_or Left _ _ r s (λ v d. same old new d.next) (λ e f. same old new f.1)
  non_step (event.TxWrite session tx moment op) r q s = added_or Left _ _ _ r s (λ l d. aside old new old.sessions new.tx_slots old.begun d.1.1) (λ d. same old new d.2) (λ e f. same old new f.1)
  non_step (event.CommitAccept session tx moment) r q s = awaits_or Left _ _ r s (λ n d. commits within old new session tx moment n k d) (λ e f. same old new f.1)
  non_step (event.Rollback session tx) r q s = done_or Left _ _ r s (λ d. aside old new old.sessions new.tx_slots old.begun d.1) (λ e f. same old new f.1)
  non_step (event.Close session tx) r q s = done_or Left _ _ r s (λ d. aside old new old.sessions new.tx_slots old.begun d.1) (λ e f. same old new f.1)
  non_step (event.Outcome session tx) r q s = outcome_or Left _ _ r s (λ o d. same old new d.next) (λ e f. same old new f.1)
  non_step (event.OutcomeOf id) r q s = committed_as_or Left _ _ r s (λ n d. same old new d.next) (λ e f. same old new f.1)
  non_step event.FlushAsk r q s = awaits_or Left _ _ r s (λ n d. same old new d.2) (λ e f. same old new f.1)
  non_step (event.Acked number) r q s = receipt_or Left _ _ _ r s (λ n d. same old new d.2) (λ d. same old new d.2) (λ e f. same old new f.1.1)
  non_step event.Fold r q s = absurd cc
  non_step event.JournalStep r q s = absurd cc
  non_step (event.FlusherStep hive) r q s = absurd cc
  non_step event.TrimStep r q s = absurd cc
