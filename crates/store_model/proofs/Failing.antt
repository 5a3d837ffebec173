-- A store is faulted only by the device, and a refusal about the device comes from a store that is faulted then. No
-- event but a step is answered that the device failed.
use Rattle.std.proofs.Common.{◌≡◌, ◌⊎◌, inl, inr, ℕ, ◌==◌, length, Bool, true, false, List, [], ◌∷◌, Option, Some, None, Result, Ok, Err, cond, refl, sym, ◌∙◌, ap}
use Rattle.std.specs.Prelude.{slice_get}
use Rattle.std.proofs.lemmas.Bool.{true≢false}
use Rattle.refusals.specs.declared.refusal.Refusal.{Refusal}
use Rattle.refusals.specs.declared.refusal.Refusal.TheVariants.{DiskFault, Faulted, NotFound, HasSubkeys, TooDeep, TooLarge, Fixed, NotActive}
use Rattle.reg_tree.specs.Maps.{TreeMap, row}
use Rattle.reg_tree.specs.Operations.{hive_of}
use Rattle.reg_tree.specs.Judgement.{judged, judged_there, legal_after, legal_if, legal}
use Rattle.reg_tree_parts.specs.Rows.{Row}
use Rattle.reg_names.specs.Names.{folded_path}
use Rattle.reg_tree.specs.declared.op.Op.{Op}
use Rattle.reg_tree.specs.declared.op.Op.TheVariants.{CreateKey, DeleteKey, SetValue, DeleteValue}
use Rattle.reg_tree.specs.declared.op.Legality.{Legality}
use Rattle.reg_tree.specs.declared.op.Legality.TheVariants.{Legal, Opened}
use Rattle.store_model.specs.Transactions.{Transaction, TxSlots, missing_refusal, inactive_refusal, view, is_active}
use Rattle.store_model.specs.Machine.{Machine, trees_now, found_in, first_of, refused_if, refusal_by, fault, closed_refusal, call_refusal, tx_call_refusal, start_refusal, read_refusal, room_refusal, write_refusal, begin_refusal, added_refusal_if, commit_refusal_if, is_open, is_of_device, outcome_bytes}
use Rattle.store_model.specs.Steps.{Step, Run, Refuses, IsRefused, StepFails, no_hive, after_commit, is_step, with_session}
use Rattle.store_model.specs.declared.handle.Tx.{Tx}
use Rattle.store_model.specs.declared.event.ReadResult.{ReadResult}
use Rattle.store_model.specs.declared.event.Event.{Event}
use Rattle.store_model.specs.declared.event.Event.TheVariants as event
use Rattle.store_model.specs.declared.event.Reply.{Reply}
use Rattle.store_model.specs.declared.event.Reply.TheVariants as reply
use Rattle.store_model.proofs.Replies.{done_or, read_or, accepted_or, added_or, begun_or, awaits_or, outcome_or, committed_as_or, receipt_or, folded_or, stepped_or}

-- What faults a store

-- it is faulted as it was, or the device failed
abbrev Faults : Machine → Machine → Reply → Type 0
Faults old new r = (new.faulted ≡ old.faulted) ⊎ ((r ≡ reply.Refused DiskFault) × (new.faulted ≡ true))

module _ (old new : Machine) where
  same : (r : Reply) → new ≡ old → Faults old new r
  same r e = inl (ap (λ (m : Machine). m.faulted) e)

  aside : (r : Reply) (mid : Machine) → mid.faulted ≡ old.faulted → new ≡ mid → Faults old new r
  aside r mid no_change e = inl (ap (λ (m : Machine). m.faulted) e ∙ no_change)

  either_way : (t : Bool) (mid : Machine) → mid.faulted ≡ old.faulted → (cond t old mid).faulted ≡ old.faulted
  either_way true mid no_change = refl
  either_way false mid no_change = no_change

  committed : (moment : ℕ) (one : Transaction) → (after_commit old moment one).faulted ≡ old.faulted
  committed moment one = either_way (length one.ops == 0) _ refl

  opened : (session : ℕ) → (with_session old session).faulted ≡ old.faulted
  opened session = either_way (is_open old session) _ refl

  broken : (wanted : Option Refusal) (why : Refusal) → StepFails old wanted why new → Faults old new (reply.Refused why)
  broken wanted why (inl refused) = same (reply.Refused why) refused.1
  broken wanted why (inr broke) = inr (ap reply.Refused broke.1.told, ap (λ (m : Machine). m.faulted) broke.1.next)

  pub faults : (e : Event) (r : Reply) → Step old e r new → (new.faulted ≡ old.faulted) ⊎ ((r ≡ reply.Refused DiskFault) × (new.faulted ≡ true))
  faults (event.StartSession session) r s = done_or (Faults old new) _ _ r s (λ d. aside reply.Done (with_session old session) (opened session) d.1) (λ e f. same (reply.Refused e) f.1)
  faults (event.EndSession session) r s = done_or (Faults old new) _ _ r s (λ d. aside reply.Done _ refl d.next) (λ e f. same (reply.Refused e) f.1)
  faults (event.Read session hive path question) r s = read_or (Faults old new) _ _ r s (λ v d. same (reply.Read v) d.next) (λ e f. same (reply.Refused e) f.1)
  faults (event.Write session moment op) r s = accepted_or (Faults old new) _ _ _ r s (λ l n d. aside (reply.Accepted l n) _ refl d.next) (λ d. same reply.Opened d.next) (λ e f. same (reply.Refused e) f.1)
  faults (event.Begin session id) r s = begun_or (Faults old new) _ _ r s (λ tx d. aside (reply.Begun tx) _ refl d.next) (λ e f. same (reply.Refused e) f.1)
  faults (event.TxRead session tx hive path question) r s = read_or (Faults old new) _ _ r s (λ v d. same (reply.Read v) d.next) (λ e f. same (reply.Refused e) f.1)
  faults (event.TxWrite session tx moment op) r s = added_or (Faults old new) _ _ _ r s (λ l d. aside (reply.Added l) _ refl d.1.1) (λ d. same reply.Opened d.2) (λ e f. same (reply.Refused e) f.1)
  faults (event.CommitAccept session tx moment) r s = awaits_or (Faults old new) _ _ r s (λ n d. aside (reply.Awaits n) _ (committed moment d.one) d.next) (λ e f. same (reply.Refused e) f.1)
  faults (event.Rollback session tx) r s = done_or (Faults old new) _ _ r s (λ d. aside reply.Done _ refl d.1) (λ e f. same (reply.Refused e) f.1)
  faults (event.Close session tx) r s = done_or (Faults old new) _ _ r s (λ d. aside reply.Done _ refl d.1) (λ e f. same (reply.Refused e) f.1)
  faults (event.Outcome session tx) r s = outcome_or (Faults old new) _ _ r s (λ o d. same (reply.OutcomeIs o) d.next) (λ e f. same (reply.Refused e) f.1)
  faults (event.OutcomeOf id) r s = committed_as_or (Faults old new) _ _ r s (λ n d. same (reply.CommittedAs n) d.next) (λ e f. same (reply.Refused e) f.1)
  faults event.FlushAsk r s = awaits_or (Faults old new) _ _ r s (λ n d. same (reply.Awaits n) d.2) (λ e f. same (reply.Refused e) f.1)
  faults (event.Acked number) r s = receipt_or (Faults old new) _ _ _ r s (λ n d. same (reply.Receipt n) d.2) (λ d. same reply.NotYet d.2) (λ e f. same (reply.Refused e) f.1.1)
  faults event.Fold r s = folded_or (Faults old new) _ _ _ r s (λ n d. aside (reply.Folded n) _ refl d.next) (λ d. same reply.NotYet d.2) (λ e f. same (reply.Refused e) f.1)
  faults event.JournalStep r s = stepped_or (Faults old new) _ _ r s (λ p d. aside (reply.Stepped p) _ refl d.next) (λ e f. broken _ e f)
  faults (event.FlusherStep hive) r s = stepped_or (Faults old new) _ _ r s (λ p d. same (reply.Stepped p) d.next) (λ e f. broken _ e f)
  faults event.TrimStep r s = stepped_or (Faults old new) _ _ r s (λ p d. aside (reply.Stepped p) _ refl d.next) (λ e f. broken _ e f)

  -- a store that is faulted stays so
  pub stays_faulted : (e : Event) (r : Reply) → Step old e r new → old.faulted ≡ true → new.faulted ≡ true
  stays_faulted e r s was = elim (faults e r s) [ inl no_change ↦ no_change ∙ was | inr broke ↦ broke.1 ]

pub run_stays_faulted : (old new : Machine) (es : List Event) (rs : List Reply) → Run old es rs new → old.faulted ≡ true → new.faulted ≡ true
run_stays_faulted old new [] [] run was = ap (λ (m : Machine). m.faulted) run ∙ was
run_stays_faulted old new [] (r ∷ rs) run was = absurd run
run_stays_faulted old new (e ∷ es) [] run was = absurd run
run_stays_faulted old new (e ∷ es) (r ∷ rs) (mid, step, rest) was = run_stays_faulted mid new es rs rest (stays_faulted old mid e r step was)

-- Refusals about the device

-- a refusal says of it only that it failed earlier, and only if the store is faulted
abbrev IsRight : Bool → Option Refusal → Type 0
IsRight was wanted = (r : Refusal) → wanted ≡ Some r → is_of_device r ≡ true → (r ≡ Faulted) × (was ≡ true)

abbrev IsOther : Result Legality Refusal → Type 0
IsOther answer = (r : Refusal) → answer ≡ Err r → is_of_device r ≡ true → ⊥

right_none : (was : Bool) → IsRight was None
right_none was r e is = absurd cc

right_some : (was : Bool) (why : Refusal) → is_of_device why ≡ false → IsRight was (Some why)
right_some was why other r e is = let same : why ≡ r = cc in absurd (true≢false (sym (ap is_of_device same ∙ is) ∙ other))

right_first : (was : Bool) (a b : Option Refusal) → IsRight was a → IsRight was b → IsRight was (first_of a b)
right_first was None b f g = g
right_first was (Some r) b f g = f

right_if : (was t : Bool) (why : Refusal) → is_of_device why ≡ false → IsRight was (refused_if t why)
right_if was true why other = right_some was why other
right_if was false why other = right_none was

-- Judgements

may : (l : Legality) → IsOther (Ok l)
may l r e is = cc

may_not : (why : Refusal) → is_of_device why ≡ false → IsOther (Err why)
may_not why other r e is = let same : why ≡ r = cc in true≢false (sym (ap is_of_device same ∙ is) ∙ other)

either : (t : Bool) (a b : Result Legality Refusal) → IsOther a → IsOther b → IsOther (cond t a b)
either true a b f g = f
either false a b f g = g

there : (o : Option Row) (judge : Row → Result Legality Refusal) → ((key : Row) → IsOther (judge key)) → IsOther (judged_there o judge)
there None judge f = may_not NotFound refl
there (Some key) judge f = f key

judgement : (tree : TreeMap) (op : Op) → IsOther (judged tree op)
judgement tree (CreateKey hive path) = either _ _ _ (may Opened) (either _ _ _ (may_not TooDeep refl) (may Legal))
judgement tree (DeleteKey hive []) = may_not Fixed refl
judgement tree (DeleteKey hive (name ∷ path)) = there (row tree (folded_path (name ∷ path))) _ (λ key. either _ _ _ (may_not Fixed refl) (either _ _ _ (may_not HasSubkeys refl) (may Legal)))
judgement tree (SetValue hive path name kind bytes) = there (row tree (folded_path path)) _ (λ key. either _ _ _ (may_not TooLarge refl) (may Legal))
judgement tree (DeleteValue hive path name) = there (row tree (folded_path path)) _ (λ key. either _ _ _ (may_not NotFound refl) (may Legal))

weighing : (op : Op) (j : Result Legality Refusal) (total : ℕ) → IsOther j → IsOther (legal_after op j total)
weighing op (Err r) total f = f
weighing op (Ok Opened) total f = may Opened
weighing (CreateKey hive path) (Ok Legal) total f = either _ _ _ (may_not TooLarge refl) (may Legal)
weighing (DeleteKey hive path) (Ok Legal) total f = may Legal
weighing (SetValue hive path name kind bytes) (Ok Legal) total f = either _ _ _ (may_not TooLarge refl) (may Legal)
weighing (DeleteValue hive path name) (Ok Legal) total f = may Legal

legality : (trees : List TreeMap) (op : Op) → IsOther (legal trees op)
legality trees op = by_hive (slice_get trees (hive_of op))
  where
    by_hive : (o : Option TreeMap) → IsOther (legal_if o op)
    by_hive None = may_not NotFound refl
    by_hive (Some tree) = weighing op (judged tree op) _ (judgement tree op)

by_legality : (was : Bool) (j : Result Legality Refusal) (further : Option Refusal) → IsOther j → IsRight was further → IsRight was (refusal_by j further)
by_legality was (Err why) further f g = λ r e is. let same : why ≡ r = cc in absurd (f r (ap refused same) is)
  where
    refused : Refusal → Result Legality Refusal
    refused r = Err r
by_legality was (Ok Opened) further f g = right_none was
by_legality was (Ok Legal) further f g = g

-- Why an event is refused

module _ (old : Machine) where
  abbrev Right : Option Refusal → Type 0
  Right wanted = IsRight old.faulted wanted

  faulted : Right (fault old)
  faulted = by_case old.faulted
    where
      by_case : (was : Bool) → IsRight was (refused_if was Faulted)
      by_case true r e is = let same : r ≡ Faulted = cc in (same, refl)
      by_case false r e is = absurd cc

  closed : (session : ℕ) → Right (closed_refusal old session)
  closed session = right_if old.faulted _ _ refl

  calling : (session hive : ℕ) → Right (call_refusal old session hive)
  calling session hive = right_first old.faulted (closed_refusal old session) _ (closed session) (right_if old.faulted _ _ refl)

  starting : (session : ℕ) → Right (start_refusal old session)
  starting session = right_first old.faulted (fault old) _ faulted (right_if old.faulted _ _ refl)

  room : (long : ℕ) → Right (room_refusal old long)
  room long = right_first old.faulted _ _ (right_if old.faulted _ _ refl) (right_if old.faulted _ _ refl)

  writing : (session moment : ℕ) (op : Op) → Right (write_refusal old session moment op)
  writing session moment op = right_first old.faulted (fault old) _ faulted (right_first old.faulted (call_refusal old session (hive_of op)) _ (calling session (hive_of op)) (by_legality old.faulted (legal (trees_now old) op) _ (legality (trees_now old) op) (room _)))

  beginning : (session : ℕ) → Right (begin_refusal old session)
  beginning session = right_first old.faulted (fault old) _ faulted (right_first old.faulted (closed_refusal old session) _ (closed session) (right_if old.faulted _ _ refl))

  queries : (o : Option ReadResult) → Right (read_refusal o)
  queries None = right_some old.faulted NotFound refl
  queries (Some found) = right_none old.faulted

  missing : (o : Option Transaction) → Right (missing_refusal o)
  missing None = right_some old.faulted _ refl
  missing (Some one) = right_none old.faulted

  inactive : (o : Option Transaction) → Right (inactive_refusal o)
  inactive None = right_some old.faulted _ refl
  inactive (Some one) = by_case (is_active one)
    where
      by_case : (t : Bool) → Right (cond t None (Some NotActive))
      by_case true = right_none old.faulted
      by_case false = right_some old.faulted NotActive refl

  tx_calling : (session : ℕ) (tx : Tx) (hive : ℕ) → Right (tx_call_refusal old session tx hive)
  tx_calling session tx hive = right_first old.faulted _ _ (inactive (found_in old session tx)) (right_if old.faulted _ _ refl)

  adding : (long : ℕ) (now : List TreeMap) (tx_slots : TxSlots) (slot : ℕ) (op : Op) (o : Option Transaction) → Right (added_refusal_if long now tx_slots slot op o)
  adding long now tx_slots slot op None = right_some old.faulted _ refl
  adding long now tx_slots slot op (Some one) = right_first old.faulted (inactive_refusal (Some one)) _ (inactive (Some one)) (by_legality old.faulted (legal (view now one) op) _ (legality (view now one) op) (right_first old.faulted _ _ (right_if old.faulted _ _ refl) (right_if old.faulted _ _ refl)))

  committing : (moment : ℕ) (o : Option Transaction) → Right (commit_refusal_if old moment o)
  committing moment None = right_some old.faulted _ refl
  committing moment (Some one) = right_first old.faulted (inactive_refusal (Some one)) _ (inactive (Some one)) (by_case _ _ _)
    where
      by_case : (t heavy : Bool) (long : ℕ) → Right (cond t None (first_of (refused_if heavy TooLarge) (room_refusal old long)))
      by_case true heavy long = right_none old.faulted
      by_case false heavy long = right_first old.faulted _ _ (right_if old.faulted heavy TooLarge refl) (room long)

  module _ (new : Machine) (why : Refusal) (tells : is_of_device why ≡ true) where
    -- it was so before
    abbrev Was : Type 0
    Was = (why ≡ Faulted) × (old.faulted ≡ true) × (new ≡ old)

    is_refused : (wanted : Option Refusal) → Right wanted → IsRefused old wanted why new → Was
    is_refused wanted right s = let r = right why s.0 tells in (r.0, r.1, s.1)

    refuses : (wanted : Option Refusal) → Right wanted → Refuses old wanted why new → Was
    refuses wanted right (inl e, no_change) = let r = right why e tells in (r.0, r.1, no_change)
    refuses wanted right (inr e, no_change) = absurd (true≢false (sym tells ∙ ap is_of_device e))

    non_step : (e : Event) → is_step e ≡ false → Step old e (reply.Refused why) new → Was
    non_step (event.StartSession session) q s = refuses _ (starting session) s
    non_step (event.EndSession session) q s = is_refused _ (closed session) s
    non_step (event.Read session hive path question) q s = refuses _ (right_first old.faulted _ _ (calling session hive) (queries _)) s
    non_step (event.Write session moment op) q s = refuses _ (writing session moment op) s
    non_step (event.Begin session id) q s = refuses _ (beginning session) s
    non_step (event.TxRead session tx hive path question) q s = refuses _ (right_first old.faulted _ _ (tx_calling session tx hive) (queries _)) s
    non_step (event.TxWrite session tx moment op) q s = refuses _ (right_first old.faulted _ _ faulted (right_first old.faulted _ _ (tx_calling session tx (hive_of op)) (adding (outcome_bytes old) (trees_now old) old.tx_slots tx.slot op (found_in old session tx)))) s
    non_step (event.CommitAccept session tx moment) q s = refuses _ (right_first old.faulted _ _ faulted (committing moment (found_in old session tx))) s
    non_step (event.Rollback session tx) q s = is_refused _ (inactive _) s
    non_step (event.Close session tx) q s = is_refused _ (missing _) s
    non_step (event.Outcome session tx) q s = is_refused _ (right_first old.faulted _ _ faulted (missing _)) s
    non_step (event.OutcomeOf id) q s = refuses _ (right_first old.faulted _ _ (right_if old.faulted _ _ refl) (right_if old.faulted _ _ refl)) s
    non_step event.FlushAsk q s = is_refused _ faulted s
    non_step (event.Acked number) q s = is_refused _ faulted s.1
    non_step event.Fold q s = refuses _ faulted s
    non_step event.JournalStep q s = absurd cc
    non_step (event.FlusherStep hive) q s = absurd cc
    non_step event.TrimStep q s = absurd cc

    stepping : (wanted : Option Refusal) → Right wanted → StepFails old wanted why new → new.faulted ≡ true
    stepping wanted right (inl s) = by_was (refuses wanted right s)
      where
        by_was : Was → new.faulted ≡ true
        by_was w = ap (λ (m : Machine). m.faulted) w.2 ∙ w.1
    stepping wanted right (inr broke) = ap (λ (m : Machine). m.faulted) broke.1.next

    hiveless : (hive : ℕ) → Right (no_hive old hive)
    hiveless hive = by_case _
      where
        by_case : (t : Bool) → Right (cond t None (Some NotFound))
        by_case true = right_none old.faulted
        by_case false = right_some old.faulted NotFound refl

    step : (e : Event) → is_step e ≡ true → Step old e (reply.Refused why) new → new.faulted ≡ true
    step event.JournalStep q s = stepping _ faulted s
    step (event.FlusherStep hive) q s = stepping _ (right_first old.faulted _ _ faulted (hiveless hive)) s
    step event.TrimStep q s = stepping _ faulted s
    step _ q s = absurd cc

    -- a refusal about the device comes from a store that is faulted then
    pub told_faulted : (e : Event) → Step old e (reply.Refused why) new → new.faulted ≡ true
    told_faulted e s = by_test (is_step e) refl
      where
        by_test : (t : Bool) → is_step e ≡ t → new.faulted ≡ true
        by_test true q = step e q s
        by_test false q = let w = non_step e q s in ap (λ (m : Machine). m.faulted) w.2 ∙ w.1

pub only_steps_fail : (old new : Machine) (e : Event) → Step old e (reply.Refused DiskFault) new → is_step e ≡ true
only_steps_fail old new e s = by_test (is_step e) refl
  where
    apart : DiskFault ≡ Faulted → ⊥
    apart same = cc

    by_test : (t : Bool) → is_step e ≡ t → is_step e ≡ true
    by_test true q = q
    by_test false q = absurd (apart (non_step old new DiskFault refl e q s).0)
