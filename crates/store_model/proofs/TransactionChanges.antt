-- What a step does to the transactions that are kept: one of a few ways.
use Rattle.std.proofs.Common.{◌≡◌, ◌≢◌, ◌⊎◌, inl, inr, ℕ, ◌+◌, ◌==◌, ◌&&◌, Bool, true, false, List, [], ◌∷◌, ◌++◌, length, Option, Some, None, Ok, cond, refl, sym, ◌∙◌, ap, arith}
use Rattle.std.proofs.lemmas.Bool.{eqb-true}
use Rattle.std.proofs.lemmas.Bool.Decides.{eqb_tells, nat_tests}
use Rattle.std.proofs.lemmas.Option.{option_and_then_some}
use Rattle.std.specs.Prelude.{⊤, ◌<◌, nat_le}
use Rattle.refusals.specs.declared.refusal.Refusal.{Refusal}
use Rattle.refusals.specs.declared.refusal.Refusal.TheVariants.{NotActive, NotFound, TooLarge, Conflict}
use Rattle.reg_tree.specs.Maps.{TreeMap}
use Rattle.reg_tree.specs.Operations.{hive_of}
use Rattle.reg_tree.specs.Judgement.{legal, applied}
use Rattle.reg_tree.specs.Sequences.{after_elements}
use Rattle.reg_tree.specs.declared.element.Element.{Element}
use Rattle.reg_tree.specs.declared.op.Op.{Op}
use Rattle.reg_tree.specs.declared.op.Legality.TheVariants.{Legal}
use Rattle.conflicts.specs.Claims.{claim_of}
use Rattle.store_model.specs.Transactions.{Transaction, TxSlots, SetsSlot, EachSlotBecomes, at, own_if, view, is_active, holds, is_claimed, fresh_transaction, ended, with_op, rolled_back_by, gone_with, inactive_refusal}
use Rattle.store_model.specs.Machine.{Machine, trees_now, is_open, found_in, change, committed, commit_change, next_commit, outcome_bytes, first_of, refused_if, refusal_by, too_long, added_refusal, commit_refusal, commit_refusal_if, fault, unnamed_refusal, room_of}
use Rattle.store_model.specs.Acts.{AddsOp, EndsTx, ClosesTx}
use Rattle.store_model.specs.Steps.{AcceptsWrite, Begins, CommitsTx, Ends, Step, StepFails, with_session}
use Rattle.store_model.specs.Invariant.{IsActiveAt, handle_in}
use Rattle.store_model.proofs.Replies.{done_or, read_or, accepted_or, added_or, begun_or, awaits_or, outcome_or, committed_as_or, receipt_or, folded_or, stepped_or}
use Rattle.store_model.specs.declared.handle.Tx.{Tx}
use Rattle.store_model.specs.declared.handle.Outcome.{Outcome}
use Rattle.store_model.specs.declared.handle.Outcome.TheVariants.{Committed, RolledBack}
use Rattle.store_model.specs.declared.event.Event.{Event}
use Rattle.store_model.specs.declared.event.Event.TheVariants as event
use Rattle.store_model.specs.declared.event.Reply.{Reply}

-- Tests and refusals

never : {X : Type 0} → false ≡ true → X
never e = cc

same_or_not : (a b : ℕ) → (a ≡ b) ⊎ (a ≢ b)
same_or_not a b = elim (eqb_tells a b) [ inl t ↦ inl t.1 | inr f ↦ inr f.1 ]

pub none_first : (a b : Option Refusal) → first_of a b ≡ None → (a ≡ None) × (b ≡ None)
none_first None b e = (refl, e)
none_first (Some r) b e = absurd cc

pub not_refused : (t : Bool) (r : Refusal) → refused_if t r ≡ None → t ≡ false
not_refused true r e = absurd cc
not_refused false r e = refl

active_if : (t : Bool) → cond t None (Some NotActive) ≡ None → t ≡ true
active_if true e = refl
active_if false e = absurd cc

pub active_of : (one : Transaction) → inactive_refusal (Some one) ≡ None → is_active one ≡ true
active_of one e = active_if (is_active one) e

both : (a b : Bool) (one two : Transaction) → cond (a && b) (Some two) None ≡ Some one → (two ≡ one) × (a ≡ true) × (b ≡ true)
both true true one two e = (cc, refl, refl)
both true false one two e = absurd cc
both false b one two e = absurd cc

pub own_at : (session generation : ℕ) (o : Option Transaction) (one : Transaction) → own_if session generation o ≡ Some one → (o ≡ Some one) × (one.generation ≡ generation) × ((one.session == session) ≡ true)
own_at session generation None one e = absurd cc
own_at session generation (Some two) one e =
    let p = both (two.session == session) (two.generation == generation) one two e in
    (ap Some p.0, sym (ap (λ (t : Transaction). t.generation) p.0) ∙ eqb-true two.generation generation p.2, sym (ap (λ (t : Transaction). t.session == session) p.0) ∙ p.1)

-- what a handle finds is in its slot, with its number
pub found_at : (machine : Machine) (session : ℕ) (tx : Tx) (one : Transaction) → found_in machine session tx ≡ Some one → (at machine.tx_slots tx.slot ≡ Some one) × (one.generation ≡ tx.generation) × ((one.session == session) ≡ true)
found_at machine session tx one e = own_at session tx.generation (at machine.tx_slots tx.slot) one (opened (is_open machine session) e)
  where
    opened : (t : Bool) → cond t (own_if session tx.generation (at machine.tx_slots tx.slot)) None ≡ Some one → own_if session tx.generation (at machine.tx_slots tx.slot) ≡ Some one
    opened true e = e
    opened false e = absurd cc

-- Slots, before and after

-- each transaction that is kept was kept in its slot before, with its number
abbrev pub Descends : TxSlots → TxSlots → Type 0
Descends old new = (q : ℕ) (one : Transaction) → at new q ≡ Some one → (before : Transaction) × (at old q ≡ Some before) × (before.generation ≡ one.generation)

-- each that is active was so before, and this is so of its slot and itself
abbrev pub RemainsIf : (ℕ → Transaction → Type 0) → TxSlots → TxSlots → Type 0
RemainsIf P old new = (q : ℕ) (one : Transaction) → IsActiveAt new q one → IsActiveAt old q one × P q one

pub put_or_not : (old new : TxSlots) (slot : ℕ) (content : Option Transaction) → SetsSlot old new slot content → (q : ℕ) (one : Transaction) → at new q ≡ Some one → ((q ≡ slot) × (content ≡ Some one)) ⊎ ((q ≢ slot) × (at old q ≡ Some one))
put_or_not old new slot content p q one e = elim (same_or_not q slot) [
  | inl s ↦ inl (s, sym p.there ∙ ap (at new) (sym s) ∙ e)
  | inr n ↦ inr (n, sym (p.others q n) ∙ e)
]

pub put_descends : (old new : TxSlots) (slot : ℕ) (content : Option Transaction) → SetsSlot old new slot content →
    ((one : Transaction) → content ≡ Some one → (before : Transaction) × (at old slot ≡ Some before) × (before.generation ≡ one.generation)) → Descends old new
put_descends old new slot content p known q one e = elim (put_or_not old new slot content p q one e) [
  | inl s ↦ let k = known one s.1 in (k.0, ap (at old) s.0 ∙ k.1, k.2)
  | inr n ↦ (one, n.1, refl)
]

-- nothing active is put
put_remains : (old new : TxSlots) (slot : ℕ) (content : Option Transaction) → SetsSlot old new slot content →
    ((one : Transaction) → content ≡ Some one → is_active one ≡ false) → RemainsIf (λ q one. q ≢ slot) old new
put_remains old new slot content p idle q one a = elim (put_or_not old new slot content p q one a.there) [
  | inl s ↦ never (sym (idle one s.1) ∙ a.active)
  | inr n ↦ (record { there = n.1; active = a.active }, n.0)
]

becomes_descends : (after : Transaction → Option Transaction) (old new : TxSlots) → EachSlotBecomes after old new →
    ((x one : Transaction) → after x ≡ Some one → x.generation ≡ one.generation) → Descends old new
becomes_descends after old new b kept q one e = option_and_then_some after (at old q) one (sym (b q) ∙ e) (λ x is made. (x, is, kept x one made))

becomes_remains : (after : Transaction → Option Transaction) (P : ℕ → Transaction → Type 0) (old new : TxSlots) → EachSlotBecomes after old new →
    ((q : ℕ) (x one : Transaction) → after x ≡ Some one → is_active one ≡ true → (x ≡ one) × P q one) → RemainsIf P old new
becomes_remains after P old new b kept q one a = option_and_then_some after (at old q) one (sym (b q) ∙ a.there)
    (λ x is made. let k = kept q x one made a.active in (record { there = is ∙ ap Some k.0; active = a.active }, k.1))

-- a transaction ends, and nothing else changes
ended_descends : (old new : TxSlots) (slot : ℕ) (outcome : Outcome) (one : Transaction) → at old slot ≡ Some one → SetsSlot old new slot (Some (ended outcome one)) → Descends old new
ended_descends old new slot outcome one is p = put_descends old new slot (Some (ended outcome one)) p (λ x e. (one, is, ap (λ (t : Transaction). t.generation) (let same : ended outcome one ≡ x = cc e in same)))

ended_remains : (old new : TxSlots) (slot : ℕ) (outcome : Outcome) (one : Transaction) → is_active (ended outcome one) ≡ false → SetsSlot old new slot (Some (ended outcome one)) → RemainsIf (λ q x. q ≢ slot) old new
ended_remains old new slot outcome one idle p = put_remains old new slot (Some (ended outcome one)) p (λ x e. ap is_active (let same : x ≡ ended outcome one = cc e in same) ∙ idle)

-- a transaction that holds a conflicting claim is rolled back
rolled : (t : Bool) (x one : Transaction) → cond t (Some (ended RolledBack x)) (Some x) ≡ Some one → x.generation ≡ one.generation
rolled true x one e = ap (λ (t : Transaction). t.generation) (let same : ended RolledBack x ≡ one = cc e in same)
rolled false x one e = ap (λ (t : Transaction). t.generation) (let same : x ≡ one = cc e in same)

not_rolled : (t : Bool) (x one : Transaction) → cond t (Some (ended RolledBack x)) (Some x) ≡ Some one → is_active one ≡ true → (x ≡ one) × (t ≡ false)
not_rolled true x one e a = never (ap is_active (let same : ended RolledBack x ≡ one = cc e in same) ∙ a)
not_rolled false x one e a = (let same : x ≡ one = cc e in same, refl)

-- a transaction of a session is gone
stayed : (t : Bool) (x one : Transaction) → cond t None (Some x) ≡ Some one → x ≡ one
stayed true x one e = absurd cc
stayed false x one e = cc

-- The ways

-- From old to new; what is given is a handle if there is one. Transactions end or are dropped while the trees stay; a
-- write changes the trees and rolls back those whose claims conflict; one has an operation more; one is committed; or
-- one is begun.
pub data Way (old new : Machine) : Option Tx → Type 0 where
  Fewer : new.begun ≡ old.begun → trees_now new ≡ trees_now old → Descends old.tx_slots new.tx_slots → RemainsIf (λ q one. ⊤) old.tx_slots new.tx_slots → Way old new None
  Wrote : (op : Op) (moment : ℕ) → new.begun ≡ old.begun → trees_now new ≡ applied (trees_now old) (op ∷ []) moment →
      Descends old.tx_slots new.tx_slots → RemainsIf (λ q one. holds (claim_of op) one ≡ false) old.tx_slots new.tx_slots → Way old new None
  Longer : (slot moment : ℕ) (op : Op) (one : Transaction) → new.begun ≡ old.begun → trees_now new ≡ trees_now old → IsActiveAt old.tx_slots slot one →
      legal (view (trees_now old) one) op ≡ Ok Legal → is_claimed old.tx_slots slot (claim_of op) ≡ false → hive_of op < old.bounds.hives →
      SetsSlot old.tx_slots new.tx_slots slot (Some (with_op one op moment)) → Way old new None
  Accepted : (slot moment : ℕ) (one : Transaction) → new.begun ≡ old.begun → trees_now new ≡ applied (trees_now old) (committed old one) moment → IsActiveAt old.tx_slots slot one →
      Descends old.tx_slots new.tx_slots → RemainsIf (λ q x. q ≢ slot) old.tx_slots new.tx_slots → Way old new None
  Began : (tx : Tx) (session : ℕ) (id : List ℕ) → tx.generation ≡ old.begun + 1 → new.begun ≡ tx.generation → trees_now new ≡ trees_now old →
      SetsSlot old.tx_slots new.tx_slots tx.slot (Some (fresh_transaction session id tx.generation)) → Way old new (Some tx)

-- slots and trees stay
no_change : (old new : Machine) → new.begun ≡ old.begun → trees_now new ≡ trees_now old → new.tx_slots ≡ old.tx_slots → Way old new None
no_change old new b t p = Fewer b t
    (λ q one e. (one, ap (λ ps. at ps q) (sym p) ∙ e, refl))
    (λ q one a. (record { there = ap (λ ps. at ps q) (sym p) ∙ a.there; active = a.active }, tt))

same : (old new : Machine) → new ≡ old → Way old new None
same old new e = no_change old new (ap (λ (m : Machine). m.begun) e) (ap trees_now e) (ap (λ (m : Machine). m.tx_slots) e)

ends : (old new : Machine) (session : ℕ) → Ends old session new → Way old new None
ends old new session e = Fewer (ap (λ (m : Machine). m.begun) e.next) (ap trees_now e.next)
    (becomes_descends (gone_with session) old.tx_slots new.tx_slots e.gone (λ x one m. ap (λ (t : Transaction). t.generation) (stayed (x.session == session) x one m)))
    (becomes_remains (gone_with session) (λ q one. ⊤) old.tx_slots new.tx_slots e.gone (λ q x one m a. (stayed (x.session == session) x one m, tt)))

-- the trees after one change more
pub after_one_more : (trees : List TreeMap) (elements : List Element) (element : Element) → after_elements trees (elements ++ element ∷ []) ≡ applied (after_elements trees elements) element.ops element.moment
after_one_more trees [] element = refl
after_one_more trees (first ∷ elements) element = after_one_more (applied trees first.ops first.moment) elements element

accepts : (old new : Machine) (session moment : ℕ) (op : Op) (levels : Option ℕ) (number : ℕ) → AcceptsWrite old session moment op levels number new → Way old new None
accepts old new session moment op levels number a = Wrote op moment (ap (λ (m : Machine). m.begun) a.next)
    (ap trees_now a.next ∙ after_one_more old.opened old.accepted (change moment op))
    (becomes_descends (rolled_back_by (claim_of op)) old.tx_slots new.tx_slots a.rolled_back (λ x one m. rolled (holds (claim_of op) x) x one m))
    (becomes_remains (rolled_back_by (claim_of op)) (λ q one. holds (claim_of op) one ≡ false) old.tx_slots new.tx_slots a.rolled_back
    (λ q x one m active. let k : (x ≡ one) × (holds (claim_of op) x ≡ false) = not_rolled (holds (claim_of op) x) x one m active in (k.0, ap (holds (claim_of op)) (sym k.0) ∙ k.1)))

begins : (old new : Machine) (session : ℕ) (id : List ℕ) (tx : Tx) → Begins old session id tx new → Way old new (Some tx)
begins old new session id tx b = Began tx session id b.starts.numbered (ap (λ (m : Machine). m.begun) b.next ∙ sym b.starts.numbered) (ap trees_now b.next) b.starts.put

-- a hive that calls may name
pub named_hive : (old : Machine) (hive : ℕ) → first_of (fault old) (unnamed_refusal old hive) ≡ None → hive < old.bounds.hives
named_hive old hive e = below old.bounds.hives hive (not_refused (nat_le old.bounds.hives hive) NotFound (none_first (fault old) (unnamed_refusal old hive) e).1)
  where
    below : (n m : ℕ) → nat_le n m ≡ false → m < n
    below n m e = grind (arith, nat_tests)

adds : (old new : Machine) (session : ℕ) (tx : Tx) (moment : ℕ) (op : Op) (levels : Option ℕ) → first_of (fault old) (unnamed_refusal old (hive_of op)) ≡ None → AddsOp (outcome_bytes old) (trees_now old) old.tx_slots (found_in old session tx) tx.slot moment op levels new.tx_slots → new ≡ record old { tx_slots = new.tx_slots } → Way old new None
adds old new session tx moment op levels named a next =
    let f = none_first (inactive_refusal (Some a.one)) (added_refusal (outcome_bytes old) (trees_now old) old.tx_slots tx.slot op a.one) a.free in
    let further : Option Refusal = first_of (refused_if (too_long (outcome_bytes old) a.one op) TooLarge) (refused_if (is_claimed old.tx_slots tx.slot (claim_of op)) Conflict) in
    let g : further ≡ None = ap (λ j. refusal_by j further) (sym a.is_legal) ∙ f.1 in
    let h = none_first (refused_if (too_long (outcome_bytes old) a.one op) TooLarge) (refused_if (is_claimed old.tx_slots tx.slot (claim_of op)) Conflict) g in
    Longer tx.slot moment op a.one (ap (λ (m : Machine). m.begun) next) (ap trees_now next)
    (record { there = (found_at old session tx a.one a.found).0; active = active_of a.one f.0 }) a.is_legal
    (not_refused (is_claimed old.tx_slots tx.slot (claim_of op)) Conflict h.1) (named_hive old (hive_of op) named) a.put

finishes : (old new : Machine) (session : ℕ) (tx : Tx) → EndsTx old.tx_slots (found_in old session tx) tx.slot RolledBack new.tx_slots → new ≡ record old { tx_slots = new.tx_slots } → Way old new None
finishes old new session tx f next = Fewer (ap (λ (m : Machine). m.begun) next) (ap trees_now next)
    (ended_descends old.tx_slots new.tx_slots tx.slot RolledBack f.one (found_at old session tx f.one f.found).0 f.put)
    (λ q one a. ((ended_remains old.tx_slots new.tx_slots tx.slot RolledBack f.one refl f.put q one a).0, tt))

closes : (old new : Machine) (session : ℕ) (tx : Tx) → ClosesTx old.tx_slots (found_in old session tx) tx.slot new.tx_slots → new ≡ record old { tx_slots = new.tx_slots } → Way old new None
closes old new session tx c next = Fewer (ap (λ (m : Machine). m.begun) next) (ap trees_now next)
    (put_descends old.tx_slots new.tx_slots tx.slot None c.put (λ one e. absurd cc))
    (λ q one a. ((put_remains old.tx_slots new.tx_slots tx.slot None c.put (λ one e. absurd cc) q one a).0, tt))

-- the state after a commit of some operations
abbrev pub with_commit : Machine → ℕ → Transaction → Machine
with_commit old moment one = record old {
  accepted = old.accepted ++ commit_change old moment one ∷ [];
  commits = old.commits ++ next_commit old one ∷ [];
  room = old.room + room_of (commit_change old moment one);
}

-- a commit without operations leaves the trees
commits : (old new : Machine) (session : ℕ) (tx : Tx) (moment number : ℕ) → CommitsTx old session tx moment number new → Way old new None
commits old new session tx moment number c = by_case (length c.one.ops == 0) c.next
  where
    there : at old.tx_slots tx.slot ≡ Some c.one
    there = (found_at old session tx c.one c.found).0

    active : IsActiveAt old.tx_slots tx.slot c.one
    active =
        let f = none_first (fault old) (commit_refusal_if old moment (Some c.one)) c.free in
        record { there = there; active = active_of c.one (none_first (inactive_refusal (Some c.one)) (commit_refusal old moment c.one) f.1).0 }

    descends : Descends old.tx_slots new.tx_slots
    descends = ended_descends old.tx_slots new.tx_slots tx.slot Committed c.one there c.put

    remains : RemainsIf (λ q x. q ≢ tx.slot) old.tx_slots new.tx_slots
    remains = ended_remains old.tx_slots new.tx_slots tx.slot Committed c.one refl c.put

    by_case : (t : Bool) → new ≡ record (cond t old (with_commit old moment c.one)) { tx_slots = new.tx_slots } → Way old new None
    by_case true e = Fewer (ap (λ (m : Machine). m.begun) e) (ap trees_now e) descends (λ q one a. ((remains q one a).0, tt))
    by_case false e = Accepted tx.slot moment c.one (ap (λ (m : Machine). m.begun) e) (ap trees_now e ∙ after_one_more old.opened old.accepted (commit_change old moment c.one)) active descends remains

step_fails : (old new : Machine) (wanted : Option Refusal) (r : Refusal) → StepFails old wanted r new → Way old new None
step_fails old new wanted r (inl h) = same old new h.1
step_fails old new wanted r (inr h) = no_change old new (ap (λ (m : Machine). m.begun) h.1.next) (ap trees_now h.1.next) (ap (λ (m : Machine). m.tx_slots) h.1.next)

session_opened : (old new : Machine) (session : ℕ) → new ≡ with_session old session → Way old new None
session_opened old new session e = by_case (is_open old session) e
  where
    by_case : (t : Bool) → new ≡ cond t old (record old { sessions = old.sessions ++ session ∷ [] }) → Way old new None
    by_case true e = same old new e
    by_case false e = no_change old new (ap (λ (m : Machine). m.begun) e) (ap trees_now e) (ap (λ (m : Machine). m.tx_slots) e)

-- Each step is one of the ways

pub way : (old new : Machine) (e : Event) (r : Reply) → Step old e r new → Way old new (handle_in r)
way old new (event.StartSession session) r s = done_or (λ r. Way old new (handle_in r)) _ _ r s (λ d. session_opened old new session d.1) (λ e f. same old new f.1)
way old new (event.EndSession session) r s = done_or (λ r. Way old new (handle_in r)) _ _ r s (λ d. ends old new session d) (λ e f. same old new f.1)
way old new (event.Read session hive path question) r s = read_or (λ r. Way old new (handle_in r)) _ _ r s (λ v d. same old new d.next) (λ e f. same old new f.1)
way old new (event.Write session moment op) r s = accepted_or (λ r. Way old new (handle_in r)) _ _ _ r s (λ l n d. accepts old new session moment op l n d) (λ d. same old new d.next) (λ e f. same old new f.1)
way old new (event.Begin session id) r s = begun_or (λ r. Way old new (handle_in r)) _ _ r s (λ tx d. begins old new session id tx d) (λ e f. same old new f.1)
way old new (event.TxRead session tx hive path question) r s = read_or (λ r. Way old new (handle_in r)) _ _ r s (λ v d. same old new d.next) (λ e f. same old new f.1)
way old new (event.TxWrite session tx moment op) r s = added_or (λ r. Way old new (handle_in r)) _ _ _ r s (λ l d. adds old new session tx moment op l d.0 d.1.0 d.1.1) (λ d. same old new d.2) (λ e f. same old new f.1)
way old new (event.CommitAccept session tx moment) r s = awaits_or (λ r. Way old new (handle_in r)) _ _ r s (λ n d. commits old new session tx moment n d) (λ e f. same old new f.1)
way old new (event.Rollback session tx) r s = done_or (λ r. Way old new (handle_in r)) _ _ r s (λ d. finishes old new session tx d.0 d.1) (λ e f. same old new f.1)
way old new (event.Close session tx) r s = done_or (λ r. Way old new (handle_in r)) _ _ r s (λ d. closes old new session tx d.0 d.1) (λ e f. same old new f.1)
way old new (event.Outcome session tx) r s = outcome_or (λ r. Way old new (handle_in r)) _ _ r s (λ o d. same old new d.next) (λ e f. same old new f.1)
way old new (event.OutcomeOf id) r s = committed_as_or (λ r. Way old new (handle_in r)) _ _ r s (λ n d. same old new d.next) (λ e f. same old new f.1)
way old new event.FlushAsk r s = awaits_or (λ r. Way old new (handle_in r)) _ _ r s (λ n d. same old new d.2) (λ e f. same old new f.1)
way old new (event.Acked number) r s = receipt_or (λ r. Way old new (handle_in r)) _ _ _ r s (λ n d. same old new d.2) (λ d. same old new d.2) (λ e f. same old new f.1.1)
way old new event.Fold r s = folded_or (λ r. Way old new (handle_in r)) _ _ _ r s (λ n d. no_change old new (ap (λ (m : Machine). m.begun) d.next) (ap trees_now d.next) (ap (λ (m : Machine). m.tx_slots) d.next)) (λ d. same old new d.2) (λ e f. same old new f.1)
way old new event.JournalStep r s = stepped_or (λ r. Way old new (handle_in r)) _ _ r s (λ p d. no_change old new (ap (λ (m : Machine). m.begun) d.next) (ap trees_now d.next) (ap (λ (m : Machine). m.tx_slots) d.next)) (λ e f. step_fails old new _ e f)
way old new (event.FlusherStep hive) r s = stepped_or (λ r. Way old new (handle_in r)) _ _ r s (λ p d. same old new d.next) (λ e f. step_fails old new _ e f)
way old new event.TrimStep r s = stepped_or (λ r. Way old new (handle_in r)) _ _ r s (λ p d. no_change old new (ap (λ (m : Machine). m.begun) d.next) (ap trees_now d.next) (ap (λ (m : Machine). m.tx_slots) d.next)) (λ e f. step_fails old new _ e f)
