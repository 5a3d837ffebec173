-- What a store in memory answers, and what it shows after each change.
use Rattle.std.proofs.Common.{◌≡◌, ◌⊎◌, inl, inr, ℕ, ◌+◌, ◌-◌, ◌^◌, ◌<◌, ◌≤◌, ◌==◌, ◌&&◌, min, Bool, true, false, not, cond, List, [], ◌∷◌, ◌++◌, length, Option, Some, None, Result, Ok, Err, refl, sym, ◌∙◌, ap, subst, arith}
use Rattle.std.specs.Prelude.{IsErrAnd, IfSome, ◌||◌, nat_le, nat_lt, is_some, slice_get}
use Rattle.std.specs.Option.{option_and_then, option_map}
use Rattle.std.specs.List.{list_any}
use Rattle.std.proofs.lemmas.Bool.Decides.{nat_tests}
use Rattle.std.proofs.lemmas.Bool.{leb-false}
use Rattle.std.proofs.lemmas.Option.{none-some, slice_get_past, slice_get-get_or}
use Rattle.std.proofs.lemmas.List.{length-append}
use Rattle.refusals.specs.declared.refusal.Refusal.{Refusal}
use Rattle.refusals.specs.declared.refusal.Refusal.TheVariants.{NoMemory, NotFound, TooLarge, NoSuchHandle, HistoryFull, JournalFull, Faulted}
use Rattle.refusals.specs.declared.limits.TheConstants.{MOST_ELEMENT_BYTES, GREATEST_NUMBER, MOST_JOURNAL_BYTES}
use Rattle.reg_tree.specs.Maps.{TreeMap}
use Rattle.reg_tree.specs.Fresh.{fresh_tree}
use Rattle.reg_tree.specs.Operations.{hive_of}
use Rattle.reg_tree.specs.Encodings.{op_encoded_len, element_encoded_len, ops_encoded_len}
use Rattle.reg_tree.specs.Judgement.{legal, applied, applied_one, outweighs, any_outweighs}
use Rattle.reg_tree.specs.TreeLists.{levels_made}
use Rattle.reg_tree.specs.Sequences.{after_elements}
use Rattle.reg_tree.specs.declared.element.Element.{Element}
use Rattle.reg_tree.specs.declared.op.Op.{Op}
use Rattle.reg_tree.specs.declared.op.Legality.TheVariants.{Legal}
use Rattle.conflicts.specs.Skeleton.{Claim}
use Rattle.conflicts.specs.Claims.{claim_of, meets}
use Rattle.commit_outcomes.specs.Commits.{Commit}
use Rattle.store_model.specs.Invariant.{HivesAreNamable}
use Rattle.store_model.proofs.Hives.{applied_on}
use Rattle.store_model.specs.Machine.{Machine, trees_now, last_number, is_open, found_in, change, committed, commit_change, next_commit, outcome_of, first_of, refused_if, fault, closed_refusal, unnamed_refusal, call_refusal, tx_call_refusal, commit_refusal, looked_up, read_refusal, refusal_by, room_of, room_refusal, write_refusal, commit_refusal_if}
use Rattle.store_model.specs.Steps.{Step, AcceptsWrite, CommitsTx, Flushes, Journals, Trims, StepFails, no_hive}
use Rattle.disk_model.specs.declared.progress.Progress.TheVariants.{Done, Idle}
use Rattle.store_model.specs.Transactions.{Transaction, SetsSlot, at, own, is_active, ended, rolled_back_by, missing_refusal, inactive_refusal}
use Rattle.store_model.specs.declared.bounds.StoreBounds.{StoreBounds}
use Rattle.store_model.specs.declared.handle.Tx.{Tx}
use Rattle.store_model.specs.declared.handle.Outcome.TheVariants.{Committed, RolledBack}
use Rattle.store_model.specs.declared.event.Event.{Event}
use Rattle.store_model.specs.declared.event.Event.TheVariants as event
use Rattle.store_model.specs.declared.event.Question.{Question}
use Rattle.store_model.specs.declared.event.Reply.{Reply}
use Rattle.store_model.specs.declared.event.Reply.TheVariants as reply
use Rattle.transactions.specs.Tables.{Table, EndsWith, IsPending, IsPendingOf, holds_if, is_listed, rolled_back_if}
use Rattle.transactions.specs.Histories.{IsShort}
use Rattle.transactions.specs.Stores.{Answers, TableMatchesMachine, store_of}
use Rattle.transactions.specs.Entries.{AreRebased}
use Rattle.transactions.specs.Prepared.{IsJudgedCommit, IsReadyCommit, unit_ops, unit_refusal, PreparesEvent, JudgesWrite, PreparesWrite}
use Rattle.transactions.specs.declared.prepared.Ready.{Ready}
use Rattle.transactions.specs.declared.prepared.JudgedCommit.{JudgedCommit}
use Rattle.transactions.specs.declared.prepared.JudgedWrite.{JudgedWrite}
use Rattle.transactions.specs.declared.prepared.ReadyCommit.{ReadyCommit}
use Rattle.transactions.specs.declared.prepared.ReadyWrite.{ReadyWrite}

-- an error that is handed on is the answer
on_refusal : (m : Machine) (event : Event) (res : Result Reply Refusal) (why : Refusal) → IsErrAnd res (λ e. e ≡ why) → Step m event (reply.Refused why) m → Answers m event res m
on_refusal m event (Ok x) why h s = absurd h
on_refusal m event (Err e) why h s = subst (λ r. Step m event (reply.Refused r) m) (sym h) s

-- the session isn't open, and that is why
pub record IsClosed (m : Machine) (session : ℕ) (why : Refusal) : Type 0 where
  pub shut : is_open m session ≡ false
  pub named : why ≡ NoSuchHandle

no_session : (m : Machine) (session : ℕ) (why : Refusal) → IsClosed m session why → closed_refusal m session ≡ Some why
no_session m session why i = ap (λ b. refused_if (not b) NoSuchHandle) i.shut ∙ ap Some (sym i.named)

none_found : (m : Machine) (session : ℕ) (tx : Tx) (why : Refusal) → IsClosed m session why → found_in m session tx ≡ None
none_found m session tx why i = ap (λ b. cond b (own m.tx_slots session tx) None) i.shut

first : (one other : Option Refusal) (why : Refusal) → one ≡ Some why → first_of one other ≡ Some why
first one other why e = ap (λ x. first_of x other) e

pub second : (one other wanted : Option Refusal) → one ≡ None → other ≡ wanted → first_of one other ≡ wanted
second one other wanted e f = ap (λ x. first_of x other) e ∙ f

module _ (m : Machine) (session : ℕ) (why : Refusal) (res : Result Reply Refusal) (i : IsClosed m session why) (h : IsErrAnd res (λ e. e ≡ why)) where
  pub closed_end : Answers m (event.EndSession session) res m
  closed_end = on_refusal m (event.EndSession session) res why h (no_session m session why i, refl)

  pub closed_read : (hive : ℕ) (path : List (List ℕ)) (question : Question) → Answers m (event.Read session hive path question) res m
  closed_read hive path question = on_refusal m (event.Read session hive path question) res why h (inl (first _ _ why (first _ _ why (no_session m session why i))), refl)

  pub closed_write : fault m ≡ None → (moment : ℕ) (op : Op) → Answers m (event.Write session moment op) res m
  closed_write free moment op = on_refusal m (event.Write session moment op) res why h (inl (second _ _ (Some why) free (first _ _ why (first _ _ why (no_session m session why i)))), refl)

  pub closed_begin : fault m ≡ None → (id : List ℕ) → Answers m (event.Begin session id) res m
  closed_begin free id = on_refusal m (event.Begin session id) res why h (inl (second _ _ (Some why) free (first _ _ why (no_session m session why i))), refl)

  pub closed_commit : fault m ≡ None → (tx : Tx) (moment : ℕ) → Answers m (event.CommitAccept session tx moment) res m
  closed_commit free tx moment = on_refusal m (event.CommitAccept session tx moment) res why h (inl (second _ _ (Some why) free (ap (commit_refusal_if m moment) (none_found m session tx why i) ∙ ap Some (sym i.named))), refl)

  pub closed_roll_back : (tx : Tx) → Answers m (event.Rollback session tx) res m
  closed_roll_back tx = on_refusal m (event.Rollback session tx) res why h (ap inactive_refusal (none_found m session tx why i) ∙ ap Some (sym i.named), refl)

  pub closed_close : (tx : Tx) → Answers m (event.Close session tx) res m
  closed_close tx = on_refusal m (event.Close session tx) res why h (ap missing_refusal (none_found m session tx why i) ∙ ap Some (sym i.named), refl)

  pub closed_outcome : fault m ≡ None → (tx : Tx) → Answers m (event.Outcome session tx) res m
  closed_outcome free tx = on_refusal m (event.Outcome session tx) res why h (second _ _ (Some why) free (ap missing_refusal (none_found m session tx why i) ∙ ap Some (sym i.named)), refl)

-- a store that isn't faulted has no fault
pub sound : (m : Machine) → m.faulted ≡ false → fault m ≡ None
sound m e = ap (λ b. refused_if b Faulted) e

either : {A B C : Type 0} → A ⊎ C → (A → B) → B ⊎ C
either (inl a) f = inl (f a)
either (inr c) f = inr c

-- an open session is refused nothing
opened_none : (m : Machine) (session : ℕ) → is_open m session ≡ true → closed_refusal m session ≡ None
opened_none m session e = ap (λ b. refused_if (not b) NoSuchHandle) e

-- a session that is open may name these hives
may_call : (m : Machine) (session hive : ℕ) → is_open m session ≡ true → unnamed_refusal m hive ≡ None → call_refusal m session hive ≡ None
may_call m session hive o c = second (closed_refusal m session) (unnamed_refusal m hive) None (opened_none m session o) c

-- what is to be read isn't there
pub missed : (m : Machine) (session hive : ℕ) (path : List (List ℕ)) (question : Question) (trees : List TreeMap) (res : Result Reply Refusal) (why : Refusal) → is_open m session ≡ true → unnamed_refusal m hive ≡ None → trees ≡ trees_now m →
    (read_refusal (looked_up trees hive path question) ≡ Some why) ⊎ (why ≡ NoMemory) → IsErrAnd res (λ e. e ≡ why) → Answers m (event.Read session hive path question) res m
missed m session hive path question trees res why o c e w h =
    on_refusal m (event.Read session hive path question) res why h
    (either w (λ r. second (call_refusal m session hive) (read_refusal (looked_up (trees_now m) hive path question)) (Some why) (may_call m session hive o c) (ap (λ t. read_refusal (looked_up t hive path question)) (sym e) ∙ r)), refl)

-- why a write is refused after its session was found open
pub may_write : (m : Machine) (session moment : ℕ) (op : Op) (wanted : Option Refusal) → fault m ≡ None → is_open m session ≡ true → unnamed_refusal m (hive_of op) ≡ None → refusal_by (legal (trees_now m) op) (room_refusal m (element_encoded_len (change moment op))) ≡ wanted → write_refusal m session moment op ≡ wanted
may_write m session moment op wanted f o c e = second _ _ wanted f (second _ _ wanted (may_call m session (hive_of op) o c) e)

-- a write that is not legal
pub illegal_write : (m : Machine) (session moment : ℕ) (op : Op) (trees : List TreeMap) (res : Result Reply Refusal) (why : Refusal) → fault m ≡ None → is_open m session ≡ true → unnamed_refusal m (hive_of op) ≡ None → trees ≡ trees_now m → (legal trees op ≡ Err why) ⊎ (why ≡ NoMemory) →
    IsErrAnd res (λ e. e ≡ why) → Answers m (event.Write session moment op) res m
illegal_write m session moment op trees res why f o c e w h =
    on_refusal m (event.Write session moment op) res why h
    (either w (λ r. may_write m session moment op (Some why) f o c (ap (λ l. refusal_by l (room_refusal m (element_encoded_len (change moment op)))) (ap (λ t. legal t op) (sym e) ∙ r))), refl)

-- the hive is one that calls may not name
module _ (m : Machine) (session : ℕ) (why : Refusal) (res : Result Reply Refusal) (o : is_open m session ≡ true) (h : IsErrAnd res (λ e. e ≡ why)) where
  not_called : (hive : ℕ) → unnamed_refusal m hive ≡ Some why → call_refusal m session hive ≡ Some why
  not_called hive e = second (closed_refusal m session) (unnamed_refusal m hive) (Some why) (opened_none m session o) e

  pub unnamed_read : (hive : ℕ) (path : List (List ℕ)) (question : Question) → unnamed_refusal m hive ≡ Some why → Answers m (event.Read session hive path question) res m
  unnamed_read hive path question e = on_refusal m (event.Read session hive path question) res why h (inl (first _ _ why (not_called hive e)), refl)

  pub unnamed_write : fault m ≡ None → (moment : ℕ) (op : Op) → unnamed_refusal m (hive_of op) ≡ Some why → Answers m (event.Write session moment op) res m
  unnamed_write free moment op e = on_refusal m (event.Write session moment op) res why h (inl (second _ _ (Some why) free (first _ _ why (not_called (hive_of op) e))), refl)

-- a call in a transaction: its session isn't open, or else the transaction is not an active one, or else the hive is
-- one that calls may not name
module _ (m : Machine) (session : ℕ) (tx : Tx) (hive : ℕ) (why : Refusal) where
  pub closed_call : IsClosed m session why → tx_call_refusal m session tx hive ≡ Some why
  closed_call i = first _ _ why (ap inactive_refusal (none_found m session tx why i) ∙ ap Some (sym i.named))

  module _ (o : is_open m session ≡ true) where
    pub inactive_call : inactive_refusal (own m.tx_slots session tx) ≡ Some why → tx_call_refusal m session tx hive ≡ Some why
    inactive_call e = first _ _ why (ap (λ b. inactive_refusal (cond b (own m.tx_slots session tx) None)) o ∙ e)

    pub unnamed_call : inactive_refusal (own m.tx_slots session tx) ≡ None → unnamed_refusal m hive ≡ Some why → tx_call_refusal m session tx hive ≡ Some why
    unnamed_call active e = second _ _ (Some why) (ap (λ b. inactive_refusal (cond b (own m.tx_slots session tx) None)) o ∙ active) e

-- a call of this kind is refused
module _ (m : Machine) (session : ℕ) (tx : Tx) (why : Refusal) (res : Result Reply Refusal) (h : IsErrAnd res (λ e. e ≡ why)) where
  pub uncalled_tx_read : (hive : ℕ) (path : List (List ℕ)) (question : Question) → tx_call_refusal m session tx hive ≡ Some why → Answers m (event.TxRead session tx hive path question) res m
  uncalled_tx_read hive path question u = on_refusal m (event.TxRead session tx hive path question) res why h (inl (first _ _ why u), refl)

  pub uncalled_tx_write : fault m ≡ None → (moment : ℕ) (op : Op) → tx_call_refusal m session tx (hive_of op) ≡ Some why → Answers m (event.TxWrite session tx moment op) res m
  uncalled_tx_write free moment op u = on_refusal m (event.TxWrite session tx moment op) res why h (inl (second _ _ (Some why) free (first _ _ why u)), refl)

-- a length that is cut off at the greatest number of 64 bits has no room either
tests : (room long cut : ℕ) → cut ≡ min long 18446744073709551615 → nat_lt MOST_JOURNAL_BYTES (room + (17 + cut)) ≡ nat_lt MOST_JOURNAL_BYTES (room + (17 + long))
tests room long cut e = grind (arith, nat_tests)

pub capped : (m : Machine) (long cut : ℕ) → cut ≡ min long 18446744073709551615 → room_refusal m cut ≡ room_refusal m long
capped m long cut e = ap (λ b. first_of (refused_if (nat_le m.bounds.changes (length m.accepted) || nat_le GREATEST_NUMBER (last_number m)) HistoryFull) (refused_if b JournalFull)) (tests m.room long cut e)

pub crowded_write : (m : Machine) (session moment : ℕ) (op : Op) (trees : List TreeMap) (res : Result Reply Refusal) (why : Refusal) (long : ℕ) → fault m ≡ None → is_open m session ≡ true → unnamed_refusal m (hive_of op) ≡ None → trees ≡ trees_now m → legal trees op ≡ Ok Legal →
    long ≡ min (element_encoded_len (change moment op)) 18446744073709551615 → room_refusal m long ≡ Some why → IsErrAnd res (λ e. e ≡ why) → Answers m (event.Write session moment op) res m
crowded_write m session moment op trees res why long f o n e l c r h =
    on_refusal m (event.Write session moment op) res why h
    (inl (may_write m session moment op (Some why) f o n (ap (λ x. refusal_by x (room_refusal m (element_encoded_len (change moment op)))) (ap (λ t. legal t op) (sym e) ∙ l) ∙ sym (capped m (element_encoded_len (change moment op)) long c) ∙ r)), refl)

-- the accepted changes with one more, and the trees after them
pub after_one_more : (trees : List TreeMap) (elements : List Element) (element : Element) → after_elements trees (elements ++ element ∷ []) ≡ applied (after_elements trees elements) element.ops element.moment
after_one_more trees [] element = refl
after_one_more trees (before ∷ elements) element = after_one_more (applied trees before.ops before.moment) elements element

not_full : (full last : Bool) (room : Option Refusal) → first_of (refused_if (full || last) HistoryFull) room ≡ None → full ≡ false
not_full true last room e = absurd (none-some HistoryFull (sym e))
not_full false last room e = refl

-- if there is room, the history is not full
pub below_most : (m : Machine) (long : ℕ) → room_refusal m long ≡ None → length m.accepted < m.bounds.changes
below_most m long e =
    let open_history = not_full (nat_le m.bounds.changes (length m.accepted)) (nat_le GREATEST_NUMBER (last_number m)) _ e in
    grind (arith, nat_tests, open_history)

not_last : (full last : Bool) (room : Option Refusal) → first_of (refused_if (full || last) HistoryFull) room ≡ None → last ≡ false
not_last true last room e = absurd (none-some HistoryFull (sym e))
not_last false true room e = absurd (none-some HistoryFull (sym e))
not_last false false room e = refl

-- nor is its last number the greatest
pub below_greatest : (m : Machine) (long number : ℕ) → number ≡ last_number m → room_refusal m long ≡ None → number < 2 ^ 64 - 1
below_greatest m long number is e = omega (arith, is, leb-false GREATEST_NUMBER (last_number m) (not_last (nat_le m.bounds.changes (length m.accepted)) (nat_le GREATEST_NUMBER (last_number m)) _ e))

pub below_limit : (m : Machine) (long : ℕ) → room_refusal m long ≡ None → last_number m + 1 ≤ GREATEST_NUMBER
below_limit m long e = omega (arith, leb-false GREATEST_NUMBER (last_number m) (not_last (nat_le m.bounds.changes (length m.accepted)) (nat_le GREATEST_NUMBER (last_number m)) _ e))

-- a table with one change more matches the store with one change more
pub tied_more : (o : List TreeMap) (n : ℕ) (a b : List Element) (k l : List Commit) (s : List ℕ) (t u : Table) (d r q : ℕ) (f : Bool) (w : StoreBounds) (element : Element) → TableMatchesMachine t (store_of o n a k s t d r f w) → length a < w.changes →
    b ≡ a ++ element ∷ [] → u.trees ≡ applied t.trees element.ops element.moment → u.number ≡ t.number + 1 → u.hives ≡ t.hives → u.aside ≡ t.aside → TableMatchesMachine u (store_of o n b l s u d q f w)
tied_more o n a b k l s t u d r q f w element i below grown trees number hives aside =
    let long : length b ≡ length a + 1 = ap length grown ∙ length-append a (element ∷ []) in
    let old_number = i.number in
    let old_durable = i.durable in
    record {
      trees = trees ∙ ap (λ x. applied x element.ops element.moment) i.trees ∙ sym (ap (after_elements o) grown ∙ after_one_more o a element);
      number = omega (arith, number, old_number, long);
      durable = omega (arith, old_durable, long);
      few = omega (arith, below, long);
      hives = hives ∙ i.hives;
      aside = aside ∙ i.aside;
    }

-- the transactions that are listed as holders are those that are rolled back by it
roll_by : (active met : Bool) (over one : Transaction) → cond (active && met) (Some (cond active over one)) (Some one) ≡ cond (active && met) (Some over) (Some one)
roll_by true met over one = refl
roll_by false met over one = refl

roll : (claim : Claim) (content : Option Transaction) → rolled_back_if (holds_if claim content) content ≡ option_and_then (rolled_back_by claim) content
roll claim None = refl
roll claim (Some one) = roll_by (is_active one) (list_any (λ op. meets claim (claim_of op)) one.ops) (ended RolledBack one) one

module _ (o : List TreeMap) (n : ℕ) (a b : List Element) (k : List Commit) (s : List ℕ) (t u v : Table) (d r q : ℕ) (faulted : Bool) (w : StoreBounds) (free : fault (store_of o n a k s t d r faulted w) ≡ None) where
  pub accepts : (session moment number : ℕ) (op : Op) (levels : Option ℕ) (trees : List TreeMap) (listed : List ℕ) → TableMatchesMachine t (store_of o n a k s t d r faulted w) → is_open (store_of o n a k s t d r faulted w) session ≡ true → unnamed_refusal (store_of o n a k s t d r faulted w) (hive_of op) ≡ None →
      legal t.trees op ≡ Ok Legal → room_refusal (store_of o n a k s t d r faulted w) (element_encoded_len (change moment op)) ≡ None → levels ≡ levels_made t.trees op → number ≡ v.number →
      b ≡ a ++ change moment op ∷ [] → q ≡ r + room_of (change moment op) → u ≡ record t { trees = trees; number = t.number + 1 } → v ≡ record u { tx_slots = v.tx_slots } →
      ((slot : ℕ) → at v.tx_slots slot ≡ rolled_back_if (is_listed listed slot) (at u.tx_slots slot)) → ((slot : ℕ) → is_listed listed slot ≡ holds_if (claim_of op) (at t.tx_slots slot)) →
      AcceptsWrite (store_of o n a k s t d r faulted w) session moment op levels number (store_of o n b k s v d q faulted w)
  accepts session moment number op levels trees listed i there named l room made told grown g rebased rest rolled lists =
      let old = store_of o n a k s t d r faulted w in
      let begun : v.begun ≡ t.begun = ap (λ (x : Table). x.begun) rest ∙ ap (λ (x : Table). x.begun) rebased in
      let count : v.number ≡ t.number + 1 = ap (λ (x : Table). x.number) rest ∙ ap (λ (x : Table). x.number) rebased in
      let legal_now : legal (trees_now old) op ≡ Ok Legal = ap (λ x. legal x op) (sym i.trees) ∙ l in
      record {
        free = may_write old session moment op None free there named (ap (λ x. refusal_by x (room_refusal old (element_encoded_len (change moment op)))) legal_now ∙ room);
        is_legal = legal_now;
        made = made ∙ ap (λ x. levels_made x op) i.trees;
        numbered = told ∙ count ∙ ap (λ x. x + 1) i.number;
        next = ap (λ x. record old { accepted = x; tx_slots = v.tx_slots; begun = v.begun; room = q }) grown
            ∙ ap (λ x. record old { accepted = a ++ change moment op ∷ []; tx_slots = v.tx_slots; begun = x; room = q }) begun
            ∙ ap (λ x. record old { accepted = a ++ change moment op ∷ []; tx_slots = v.tx_slots; room = x }) g;
        rolled_back = λ slot. rolled slot ∙ ap (λ (x : Table). rolled_back_if (is_listed listed slot) (at x.tx_slots slot)) rebased ∙ ap (λ x. rolled_back_if x (at t.tx_slots slot)) (lists slot) ∙ roll (claim_of op) (at t.tx_slots slot);
      }

-- a length with which there is room is not cut off
not_crowded : (full crowded : Bool) → first_of (refused_if full HistoryFull) (refused_if crowded JournalFull) ≡ None → crowded ≡ false
not_crowded true crowded e = absurd (none-some HistoryFull (sym e))
not_crowded false true e = absurd (none-some JournalFull (sym e))
not_crowded false false e = refl

pub uncut : (m : Machine) (long cut : ℕ) → room_refusal m cut ≡ None → cut ≡ min long 18446744073709551615 → cut ≡ long
uncut m long cut e f =
    let within = not_crowded (nat_le m.bounds.changes (length m.accepted) || nat_le GREATEST_NUMBER (last_number m)) (nat_lt MOST_JOURNAL_BYTES (m.room + (17 + cut))) e in
    grind (arith, nat_tests, within, f)

-- the length of a change of one operation
pub cut_change : (moment : ℕ) (op : Op) (one cut : ℕ) → one ≡ min (op_encoded_len op) 18446744073709551615 → cut ≡ min (16 + one) 18446744073709551615 → cut ≡ min (element_encoded_len (change moment op)) 18446744073709551615
cut_change moment op one cut e f = omega (arith, e, f)

-- what the commit of a transaction with a unit of work makes of operations that are the transaction's
pub record IsCommitOf (m : Machine) (content : Option Transaction) (unit : List ℕ) (ops : List Op) : Type 0 where
  pub one : Transaction
  pub found : content ≡ Some one
  pub active : inactive_refusal (Some one) ≡ None
  pub given : ops ≡ one.ops
  pub unit_is : unit ≡ one.id

pub commit_of_pending : (m : Machine) (content : Option Transaction) (unit : List ℕ) (ops : List Op) (long : ℕ) → IsPending content ops long → Some unit ≡ option_map (λ (t : Transaction). t.id) content → IsCommitOf m content unit ops
commit_of_pending m None unit ops long p e = absurd p
commit_of_pending m (Some one) unit ops long p e = record { one = one; found = refl; active = p.active; given = p.given; unit_is = let same : unit ≡ one.id = cc e in same }

-- all operations of the change
pub all_ops : (m : Machine) (content : Option Transaction) (unit : List ℕ) (ops : List Op) (c : IsCommitOf m content unit ops) → ops ++ unit_ops m unit ≡ committed m c.one
all_ops m content unit ops c = ap (λ (x : List Op). x ++ unit_ops m unit) c.given ∙ ap (λ (x : List ℕ). c.one.ops ++ unit_ops m x) c.unit_is

-- why the change of some transaction's operations is refused
pub pending_refusal : (m : Machine) (moment : ℕ) (content : Option Transaction) (unit : List ℕ) (ops : List Op) (wanted : Option Refusal) → IsCommitOf m content unit ops → (length ops == 0) ≡ false →
    unit_refusal m unit moment ops ≡ wanted → commit_refusal_if m moment content ≡ wanted
pending_refusal m moment content unit ops wanted c some e =
    let one = c.one in
    let full : Option Refusal = first_of (refused_if (any_outweighs (trees_now m) (committed m one) moment) TooLarge) (room_refusal m (element_encoded_len (commit_change m moment one))) in
    ap (commit_refusal_if m moment) c.found
    ∙ second (inactive_refusal (Some one)) (cond (length one.ops == 0) None full) wanted c.active
    (ap (λ x. cond x None full) (ap (λ (x : List Op). length x == 0) (sym c.given) ∙ some)
    ∙ ap (λ (x : List Op). first_of (refused_if (any_outweighs (trees_now m) x moment) TooLarge) (room_refusal m (16 + ops_encoded_len x))) (sym (all_ops m content unit ops c)) ∙ e)

-- the transaction of a handle in an open session
pub found : (m : Machine) (session : ℕ) (tx : Tx) → is_open m session ≡ true → found_in m session tx ≡ own m.tx_slots session tx
found m session tx there = ap (λ b. cond b (own m.tx_slots session tx) None) there

not_ended_if : (m : Machine) (moment : ℕ) (content : Option Transaction) (why : Refusal) → inactive_refusal content ≡ Some why → commit_refusal_if m moment content ≡ Some why
not_ended_if m moment None why e = e
not_ended_if m moment (Some one) why e = first (inactive_refusal (Some one)) _ why e

module _ (m : Machine) (session moment : ℕ) (tx : Tx) (why : Refusal) (res : Result Reply Refusal) (free : fault m ≡ None) (there : is_open m session ≡ true) (h : IsErrAnd res (λ e. e ≡ why)) where
  uncommitted : (commit_refusal_if m moment (own m.tx_slots session tx) ≡ Some why) ⊎ (why ≡ NoMemory) → Answers m (event.CommitAccept session tx moment) res m
  uncommitted w =
      on_refusal m (event.CommitAccept session tx moment) res why h
      (either w (λ r. second (fault m) (commit_refusal_if m moment (found_in m session tx)) (Some why) free (ap (commit_refusal_if m moment) (found m session tx there) ∙ r)), refl)

  pub not_ended : inactive_refusal (own m.tx_slots session tx) ≡ Some why → Answers m (event.CommitAccept session tx moment) res m
  not_ended e = uncommitted (inl (not_ended_if m moment (own m.tx_slots session tx) why e))

  pub refused_commit : (unit : List ℕ) (ops : List Op) → IsCommitOf m (own m.tx_slots session tx) unit ops → (length ops == 0) ≡ false →
      (unit_refusal m unit moment ops ≡ Some why) ⊎ (why ≡ NoMemory) → Answers m (event.CommitAccept session tx moment) res m
  refused_commit unit ops c some w = uncommitted (either w (pending_refusal m moment (own m.tx_slots session tx) unit ops (Some why) c some))

-- what is so of a transaction's operations is so of those that are pending
pub of_pending : (P : List Op → Type 0) (content : Option Transaction) (ops : List Op) (long : ℕ) → IsPending content ops long → IfSome content (λ one. P one.ops) → P ops
of_pending P None ops long p h = absurd p
of_pending P (Some one) ops long p h = subst P (sym p.given) h

-- how long the change of pending operations is
pub pending_len : (content : Option Transaction) (ops : List Op) (long : ℕ) → IsPending content ops long → long ≡ 16 + ops_encoded_len ops
pending_len None ops long p = absurd p
pending_len (Some one) ops long p = p.long 0 ∙ ap (λ (x : List Op). 16 + ops_encoded_len x) (sym p.given)

-- a transaction that ended after the trees of now were replaced ended before
pub ends_before : (t after u : Table) (trees : List TreeMap) (session : ℕ) (tx : Tx) (given : List Op) → after ≡ record t { trees = trees; number = t.number + 1 } → EndsWith after session tx Committed given u →
    EndsWith t session tx Committed given (record t { tx_slots = u.tx_slots }) × (u ≡ record t { trees = trees; number = t.number + 1; tx_slots = u.tx_slots })
ends_before t after u trees session tx given rebased ends =
    let e : EndsWith (record t { trees = trees; number = t.number + 1 }) session tx Committed given u = subst (λ x. EndsWith x session tx Committed given u) rebased ends in
    (record { finishes = e.finishes; given = e.given; next = refl }, e.next)

-- the operations that are handed out are those that were pending
pub same_ops : (t u : Table) (session : ℕ) (tx : Tx) (ops given : List Op) (long : ℕ) → IsPending (own t.tx_slots session tx) ops long → EndsWith t session tx Committed given u → ops ≡ given
same_ops t u session tx ops given long p e =
    let q : IsPendingOf e.finishes.one ops long = subst (λ x. IsPending x ops long) e.finishes.found p in
    q.given ∙ sym e.given

-- the commit of a transaction that has operations is not refused, if none leaves a tree too heavy and there is room
pub commit_free : (m : Machine) (moment : ℕ) (one : Transaction) → (length one.ops == 0) ≡ false → any_outweighs (trees_now m) (committed m one) moment ≡ false → room_refusal m (element_encoded_len (commit_change m moment one)) ≡ None → commit_refusal m moment one ≡ None
commit_free m moment one some light roomy =
    ap (λ x. cond x None (first_of (refused_if (any_outweighs (trees_now m) (committed m one) moment) TooLarge) (room_refusal m (element_encoded_len (commit_change m moment one))))) some
    ∙ ap (λ x. first_of (refused_if x TooLarge) (room_refusal m (element_encoded_len (commit_change m moment one)))) light ∙ roomy

-- a transaction with operations commits
module _ (o : List TreeMap) (n : ℕ) (a b : List Element) (k l : List Commit) (s : List ℕ) (t u v : Table) (d r q : ℕ) (faulted : Bool) (w : StoreBounds) where
  abbrev before : Machine
  before = store_of o n a k s t d r faulted w

  pub commits : (session moment number : ℕ) (tx : Tx) (trees : List TreeMap) (given : List Op) (one : Transaction) → TableMatchesMachine t before → fault before ≡ None → is_open before session ≡ true →
      own t.tx_slots session tx ≡ Some one → inactive_refusal (Some one) ≡ None → EndsWith t session tx Committed given u → (length one.ops == 0) ≡ false → commit_refusal before moment one ≡ None →
      number ≡ v.number → b ≡ a ++ commit_change before moment one ∷ [] → l ≡ k ++ next_commit before one ∷ [] → q ≡ r + room_of (commit_change before moment one) → v ≡ record u { trees = trees; number = u.number + 1 } →
      CommitsTx before session tx moment number (store_of o n b l s v d q faulted w)
  commits session moment number tx trees given one i free there its active ends some open_room told grown more room rebased =
      let element : Element = commit_change before moment one in
      let same : ends.finishes.one ≡ one = cc (sym ends.finishes.found ∙ its) in
      let begun : v.begun ≡ t.begun = ap (λ (x : Table). x.begun) rebased ∙ ap (λ (x : Table). x.begun) ends.next in
      let count : v.number ≡ t.number + 1 = ap (λ (x : Table). x.number) rebased ∙ ap (λ (x : Table). x.number + 1) ends.next in
      record {
        one = one;
        found = found before session tx there ∙ its;
        free = second (fault before) (commit_refusal_if before moment (Some one)) None free (second (inactive_refusal (Some one)) (commit_refusal before moment one) None active open_room);
        numbered = told ∙ count ∙ ap (λ x. x + 1) i.number ∙ ap (λ x. cond x 0 (last_number before + 1)) (sym some);
        next = ap (λ x. record before { accepted = x; commits = l; tx_slots = v.tx_slots; begun = v.begun; room = q }) grown
            ∙ ap (λ x. record before { accepted = a ++ element ∷ []; commits = x; tx_slots = v.tx_slots; begun = v.begun; room = q }) more
            ∙ ap (λ x. record before { accepted = a ++ element ∷ []; commits = k ++ next_commit before one ∷ []; tx_slots = v.tx_slots; begun = x; room = q }) begun
            ∙ ap (λ x. record before { accepted = a ++ element ∷ []; commits = k ++ next_commit before one ∷ []; tx_slots = v.tx_slots; room = x }) room
            ∙ ap (λ x. record (cond x before (record before { accepted = a ++ element ∷ []; commits = k ++ next_commit before one ∷ []; room = r + room_of element })) { tx_slots = v.tx_slots }) (sym some);
        put = subst (λ x. SetsSlot t.tx_slots x tx.slot (Some (ended Committed one))) (sym (ap (λ (x : Table). x.tx_slots) rebased))
            (subst (λ (x : Transaction). SetsSlot t.tx_slots u.tx_slots tx.slot (Some (ended Committed x))) same ends.finishes.put);
      }

or_in_three : (x y z : Bool) → ((x || y) || z) ≡ (x || (y || z))
or_in_three true y z = refl
or_in_three false y z = refl

-- operations after others leave a tree too heavy, if those do, or they do after those
pub weighed_on : (trees : List TreeMap) (ops others : List Op) (moment : ℕ) → any_outweighs trees (ops ++ others) moment ≡ (any_outweighs trees ops moment || any_outweighs (applied trees ops moment) others moment)
weighed_on trees [] others moment = refl
weighed_on trees (op ∷ ops) others moment =
    ap (λ x. outweighs trees op moment || x) (weighed_on (applied_one trees op moment) ops others moment)
    ∙ sym (or_in_three (outweighs trees op moment) (any_outweighs (applied_one trees op moment) ops moment) (any_outweighs (applied (applied_one trees op moment) ops moment) others moment))

light_on : (trees : List TreeMap) (ops others : List Op) (moment : ℕ) → any_outweighs trees ops moment ≡ false → any_outweighs (applied trees ops moment) others moment ≡ false → any_outweighs trees (ops ++ others) moment ≡ false
light_on trees ops others moment a b = weighed_on trees ops others moment ∙ ap (λ x. x || any_outweighs (applied trees ops moment) others moment) a ∙ b

-- Why a commit of operations is refused

module _ (m : Machine) (unit : List ℕ) (moment : ℕ) (ops : List Op) where
  by_weight : (b : Bool) → any_outweighs (trees_now m) (ops ++ unit_ops m unit) moment ≡ b → unit_refusal m unit moment ops ≡ first_of (refused_if b TooLarge) (room_refusal m (16 + ops_encoded_len (ops ++ unit_ops m unit)))
  by_weight b e = ap (λ x. first_of (refused_if x TooLarge) (room_refusal m (16 + ops_encoded_len (ops ++ unit_ops m unit)))) e

  pub heavy_front : any_outweighs (trees_now m) ops moment ≡ true → unit_refusal m unit moment ops ≡ Some TooLarge
  heavy_front e = by_weight true (weighed_on (trees_now m) ops (unit_ops m unit) moment ∙ ap (λ x. x || any_outweighs (applied (trees_now m) ops moment) (unit_ops m unit) moment) e)

  pub heavy_outcome : any_outweighs (trees_now m) ops moment ≡ false → any_outweighs (applied (trees_now m) ops moment) (unit_ops m unit) moment ≡ true → unit_refusal m unit moment ops ≡ Some TooLarge
  heavy_outcome a b = by_weight true (weighed_on (trees_now m) ops (unit_ops m unit) moment ∙ ap (λ x. x || any_outweighs (applied (trees_now m) ops moment) (unit_ops m unit) moment) a ∙ b)

  pub crowded : (long : ℕ) (why : Refusal) → any_outweighs (trees_now m) ops moment ≡ false → any_outweighs (applied (trees_now m) ops moment) (unit_ops m unit) moment ≡ false → long ≡ 16 + ops_encoded_len (ops ++ unit_ops m unit) → room_refusal m long ≡ Some why →
      unit_refusal m unit moment ops ≡ Some why
  crowded long why a b e r = by_weight false (light_on (trees_now m) ops (unit_ops m unit) moment a b) ∙ ap (room_refusal m) (sym e) ∙ r

-- a change of these operations and of what the outcome adds may be accepted, and what it leads to is made
pub ready_commit : (m : Machine) (made : ReadyCommit) (ops : List Op) (judged : JudgedCommit) → fault m ≡ None → is_open m made.session ≡ true → IsCommitOf m (own m.tx_slots made.session made.tx) made.unit ops → (length ops == 0) ≡ false → HivesAreNamable m.bounds.hives ops →
    AreRebased made.trees (last_number m + 1) m.tx_slots made.rebased.items → IsJudgedCommit m made.unit made.moment ops judged → made.earlier ≡ judged.outcome.earlier →
    made.element ≡ record { moment = made.moment; ops = ops ++ judged.outcome.ops.items } → made.trees ≡ judged.outcome.trees → made.room ≡ judged.room → IsReadyCommit m made
ready_commit m made ops judged free there c some named rebased j earlier element trees room =
    let one = c.one in
    let all : ops ++ judged.outcome.ops.items ≡ committed m one = ap (λ (x : List Op). ops ++ x) j.outcome.ops ∙ all_ops m (own m.tx_slots made.session made.tx) made.unit ops c in
    let is : made.element ≡ commit_change m made.moment one = element ∙ ap (λ (x : List Op). let y : Element = record { moment = made.moment; ops = x } in y) all in
    let long : judged.text_len ≡ element_encoded_len (commit_change m made.moment one) = j.long ∙ ap (λ (x : List Op). 16 + ops_encoded_len x) all in
    record {
      one = one;
      free = free;
      there = there;
      found = c.found;
      active = c.active;
      some = ap (λ (x : List Op). length x == 0) (sym c.given) ∙ some;
      named = subst (HivesAreNamable m.bounds.hives) c.given named;
      unit = c.unit_is;
      earlier = λ keeps. earlier ∙ j.outcome.earlier keeps ∙ ap (outcome_of m) c.unit_is;
      element = is;
      short = subst IsShort (sym is) (subst (λ x. x ≤ MOST_ELEMENT_BYTES) long j.short);
      light = ap (λ (x : List Op). any_outweighs (trees_now m) x made.moment) (sym all) ∙ light_on (trees_now m) ops judged.outcome.ops.items made.moment j.light j.outcome.light;
      trees = trees ∙ j.outcome.trees ∙ sym (applied_on (trees_now m) ops judged.outcome.ops.items made.moment) ∙ ap (λ (x : List Op). applied (trees_now m) x made.moment) all;
      rebased = rebased;
      roomy = subst (λ x. room_refusal m x ≡ None) long j.roomy;
      room = room ∙ j.room ∙ ap (λ x. m.room + (17 + x)) long;
    }

-- a step of a journal that is not written
pub settles : (m : Machine) → m.faulted ≡ false → m.durable ≤ last_number m → Journals m Done (record m { durable = last_number m })
settles m free known = record { free = sound m free; next = refl; grows = known; within = omega arith; room = inl refl; idle = λ e. absurd cc }

pub trims_none : (m : Machine) → m.faulted ≡ false → Trims m Idle m
trims_none m free = record { free = sound m free; next = refl; room = inl refl }

-- Events that are prepared

-- why one is refused
pub unready : (m : Machine) (spare : ℕ) (event : Event) (res : Result Ready Refusal) (why : Refusal) → IsErrAnd res (λ e. e ≡ why) → Step m event (reply.Refused why) m → PreparesEvent m spare event res
unready m spare event (Ok x) why h s = absurd h
unready m spare event (Err e) why h s = subst (λ r. Step m event (reply.Refused r) m) (sym h) s

pub unready_write : (m : Machine) (session moment : ℕ) (op : Op) (res : Result (Option ReadyWrite) Refusal) (why : Refusal) → IsErrAnd res (λ e. e ≡ why) → Step m (event.Write session moment op) (reply.Refused why) m → PreparesWrite m session moment op res
unready_write m session moment op (Ok x) why h s = absurd h
unready_write m session moment op (Err e) why h s = subst (λ r. Step m (event.Write session moment op) (reply.Refused r) m) (sym h) s

pub unjudged_write : (m : Machine) (session moment : ℕ) (op : Op) (res : Result (Option JudgedWrite) Refusal) (why : Refusal) → IsErrAnd res (λ e. e ≡ why) → Step m (event.Write session moment op) (reply.Refused why) m → JudgesWrite m session moment op res
unjudged_write m session moment op (Ok x) why h s = absurd h
unjudged_write m session moment op (Err e) why h s = subst (λ r. Step m (event.Write session moment op) (reply.Refused r) m) (sym h) s

-- a transaction that is active
pub active_pending : (content : Option Transaction) (ops : List Op) (long : ℕ) → IsPending content ops long → inactive_refusal content ≡ None
active_pending None ops long p = absurd p
active_pending (Some one) ops long p = p.active

-- a transaction without operations commits as nothing
pub commits_nothing : (o : List TreeMap) (n : ℕ) (a : List Element) (k : List Commit) (s : List ℕ) (t u : Table) (d r : ℕ) (faulted : Bool) (w : StoreBounds) → fault (store_of o n a k s t d r faulted w) ≡ None → (session moment : ℕ) (tx : Tx) (ops given : List Op) (long : ℕ) → is_open (store_of o n a k s t d r faulted w) session ≡ true
    → IsPending (own t.tx_slots session tx) ops long → (length ops == 0) ≡ true → EndsWith t session tx Committed given u → CommitsTx (store_of o n a k s t d r faulted w) session tx moment 0 (store_of o n a k s u d r faulted w)
commits_nothing o n a k s t u d r faulted w free session moment tx ops given long there p none ends =
    let old = store_of o n a k s t d r faulted w in
    let mine : IsPendingOf ends.finishes.one ops long = subst (λ x. IsPending x ops long) ends.finishes.found p in
    let empty : (length ends.finishes.one.ops == 0) ≡ true = ap (λ (x : List Op). length x == 0) (sym mine.given) ∙ none in
    let begun : u.begun ≡ t.begun = ap (λ (x : Table). x.begun) ends.next in
    let element : Element = commit_change old moment ends.finishes.one in
    record {
      one = ends.finishes.one;
      found = found old session tx there ∙ ends.finishes.found;
      free = second (fault old) (commit_refusal_if old moment (Some ends.finishes.one)) None free (second (inactive_refusal (Some ends.finishes.one)) (commit_refusal old moment ends.finishes.one) None mine.active
          (ap (λ x. cond x None (first_of (refused_if (any_outweighs (trees_now old) (committed old ends.finishes.one) moment) TooLarge) (room_refusal old (element_encoded_len element)))) empty));
      numbered = ap (λ x. cond x 0 (last_number old + 1)) (sym empty);
      next = ap (λ x. record old { tx_slots = u.tx_slots; begun = x }) begun ∙ ap (λ x. record (cond x old (record old { accepted = a ++ element ∷ []; commits = k ++ next_commit old ends.finishes.one ∷ []; room = r + room_of element })) { tx_slots = u.tx_slots }) (sym empty);
      put = ends.finishes.put;
    }
