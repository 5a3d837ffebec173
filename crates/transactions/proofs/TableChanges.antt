-- What a table shows after each kind of change.
use Rattle.std.proofs.Common.{◌⊎◌, inl, inr, Result, Ok, Err, ◌≡◌, ℕ, ◌+◌, ◌==◌, ◌&&◌, Bool, true, false, List, [], ◌∷◌, ◌-◌, ◌^◌, ◌<◌, ◌||◌, Option, Some, None, refl, sym, ◌∙◌, ap, subst, cond, arith, length, suc}
use Rattle.std.proofs.lemmas.Option.{none-some}
use Rattle.std.specs.Prelude.{IfOk, IfErr, IfSome, IsSome, ◌≤◌, nat_le, count_by, is_some}
use Rattle.std.specs.Option.{option_map}
use Rattle.slab.specs.Slab.{Slab, Updates, entries_from}
use Rattle.slab.proofs.SlabLemmas.{length-entries_from}
use Rattle.std.proofs.lemmas.Bool.{le-leb, lt-leb}
use Rattle.refusals.specs.declared.refusal.Refusal.{Refusal}
use Rattle.refusals.specs.declared.refusal.Refusal.TheVariants.{NoSuchHandle, NotActive, NoSeat, NoMemory, TooLarge, Conflict}
use Rattle.refusals.specs.declared.limits.TheConstants.{MOST_TRANSACTIONS}
use Rattle.reg_tree.specs.Maps.{TreeMap}
use Rattle.reg_tree.specs.Encodings.{ops_encoded_len}
use Rattle.reg_tree.specs.Judgement.{legal}
use Rattle.reg_tree.specs.declared.op.Legality.{Legality}
use Rattle.reg_tree.specs.declared.op.Legality.TheVariants.{Legal, Opened}
use Rattle.conflicts.specs.Claims.{claim_of}
use Rattle.reg_tree.specs.declared.op.Op.{Op}
use Rattle.store_model.specs.Transactions.{Transaction, TxSlots, SetsSlot, view, is_claimed, at, own, own_if, ended, is_active, inactive_refusal, fresh_transaction, count_held}
use Rattle.std.proofs.lemmas.List.Elements.{All-nil}
use Rattle.reg_tree.specs.Operations.{hive_of}
use Rattle.store_model.specs.Invariant.{HivesAreNamable}
use Rattle.store_model.specs.declared.room.TheConstants.{MOST_OUTCOME_BYTES}
use Rattle.store_model.specs.Acts.{AddsOp}
use Rattle.store_model.specs.Machine.{slot_refusal, refused_if, first_of, refusal_by, too_long, added_refusal, added_refusal_if}
use Rattle.store_model.specs.declared.handle.Tx.{Tx}
use Rattle.store_model.specs.declared.handle.Outcome.{Outcome}
use Rattle.store_model.specs.declared.handle.Outcome.TheVariants.{RolledBack}
use Rattle.transactions.specs.Tables.{Table, EndsWith, Begins, Writes, rolled_back_if}
use Rattle.transactions.specs.Entries.{transaction_of, tx_slots_of, IsEntry, IsViewed, IsJudged, IsJudgedBy, IsJudgedOf, MayAdd, AddsTo, with_op_if, judge_refusal, illegal}
use Rattle.transactions.specs.declared.entry.TxEntry.{TxEntry}
use Rattle.transactions.specs.declared.table.TxWriteOutcome.{TxWriteOutcome}
use Rattle.transactions.specs.declared.view.Judged.{Judged}
use Rattle.transactions.proofs.Slots.{content, at_of, puts}
use Rattle.transactions.proofs.Kept.{at_slot}

-- what a table with these slots shows
abbrev pub shown : List TreeMap → ℕ → ℕ → ℕ → ℕ → List (Option TxEntry) → Table
shown trees number begun hives aside slots = record { trees = trees; number = number; tx_slots = tx_slots_of slots; begun = begun; hives = hives; aside = aside }

-- the transaction of a handle
pub own_found : (slots : List (Option TxEntry)) (session : ℕ) (tx : Tx) (e : TxEntry) → content slots tx.slot ≡ Some e → (e.session == session && e.generation == tx.generation) ≡ true → own (tx_slots_of slots) session tx ≡ Some (transaction_of e)
own_found slots session tx e there its = ap (own_if session tx.generation) (at_slot slots tx.slot e there) ∙ ap (λ b. cond b (Some (transaction_of e)) None) its

pub own_none : (slots : List (Option TxEntry)) (session : ℕ) (tx : Tx) → content slots tx.slot ≡ None → own (tx_slots_of slots) session tx ≡ None
own_none slots session tx none = ap (own_if session tx.generation) (at_of slots tx.slot ∙ ap (option_map transaction_of) none)

-- an active transaction may be ended, and no other
pub may_end : (one : Transaction) → is_active one ≡ true → inactive_refusal (Some one) ≡ None
may_end one active = ap (λ b. cond b None (Some NotActive)) active

-- a handle that passes its test is that of the active transaction in its slot
module _ (slots : List (Option TxEntry)) (session : ℕ) (tx : Tx) (passes : inactive_refusal (own (tx_slots_of slots) session tx) ≡ None) where
  pub never_missing : content slots tx.slot ≡ None → ⊥
  never_missing none = none-some NoSuchHandle (sym passes ∙ ap inactive_refusal (own_none slots session tx none))

  module _ (e : TxEntry) (there : content slots tx.slot ≡ Some e) where
    pub its_own : ((e.session == session && e.generation == tx.generation) ≡ true) × (is_active (transaction_of e) ≡ true)
    its_own = by_case (e.session == session && e.generation == tx.generation) refl (sym (ap inactive_refusal (ap (own_if session tx.generation) (at_slot slots tx.slot e there))) ∙ passes)
      where
        active : (b : Bool) → cond b None (Some NotActive) ≡ None → b ≡ true
        active true h = refl
        active false h = absurd (none-some NotActive (sym h))

        by_case : (b : Bool) → (e.session == session && e.generation == tx.generation) ≡ b → inactive_refusal (cond b (Some (transaction_of e)) None) ≡ None
            → ((e.session == session && e.generation == tx.generation) ≡ true) × (is_active (transaction_of e) ≡ true)
        by_case true t h = (t, active (is_active (transaction_of e)) h)
        by_case false t h = absurd (none-some NoSuchHandle (sym h))

    pub own_is : own (tx_slots_of slots) session tx ≡ Some (transaction_of e)
    own_is = own_found slots session tx e there its_own.0

-- if there are no operations
none_some : (ops : List Op) → ops ≡ [] → 0 < length ops → ⊥
none_some ops none some = absurd (omega (arith, some, ap (λ (ops : List Op). length ops) none))

none_named : (hives : ℕ) (ops : List Op) → ops ≡ [] → HivesAreNamable hives ops
none_named hives ops none = subst (HivesAreNamable hives) (sym none) (All-nil (λ op. hive_of op < hives))

-- an entry after its end
pub ended_entry : (trees : List TreeMap) (number begun hives aside : ℕ) (e after : TxEntry) (outcome : Outcome) → IsEntry trees number begun hives aside e → transaction_of after ≡ ended outcome (transaction_of e) → after.length ≡ 16 → after.view ≡ None →
    IsEntry trees number begun hives aside after
ended_entry trees number begun hives aside e after outcome i kept length unseen = record {
  known = omega (arith, i.known, ap (λ (t : Transaction). t.generation) kept);
  counted = length ∙ ap (λ (ops : List Op). 16 + ops_encoded_len ops) (sym (ap (λ (t : Transaction). t.ops) kept));
  short = omega (arith, length, i.counted, i.short);
  spare = λ some. absurd (none_some _ (ap (λ (t : Transaction). t.ops) kept) some);
  named = none_named hives _ (ap (λ (t : Transaction). t.ops) kept);
  viewed = subst (IsViewed trees number after.ops.items) (sym unseen) tt;
}

-- a transaction ends
pub ends : (trees : List TreeMap) (number begun hives aside : ℕ) (old new : Slab TxEntry) (session : ℕ) (tx : Tx) (outcome : Outcome) (ops : List Op) (e after : TxEntry) → content old.slots tx.slot ≡ Some e →
    (e.session == session && e.generation == tx.generation) ≡ true → is_active (transaction_of e) ≡ true → Updates old new tx.slot (Some after) → transaction_of after ≡ ended outcome (transaction_of e) → ops ≡ e.ops.items →
    EndsWith (shown trees number begun hives aside old.slots) session tx outcome ops (shown trees number begun hives aside new.slots)
ends trees number begun hives aside old new session tx outcome ops e after there its active u kept given = record {
  finishes = record {
    one = transaction_of e;
    found = own_found old.slots session tx e there its;
    active = may_end (transaction_of e) active;
    put = subst (λ t. SetsSlot (tx_slots_of old.slots) (tx_slots_of new.slots) tx.slot (Some t)) kept (puts old new tx.slot (Some after) u);
  };
  given = given;
  next = refl;
}

-- a transaction is begun
pub begins : (trees : List TreeMap) (number begun hives aside : ℕ) (old new : Slab TxEntry) (session : ℕ) (id : List ℕ) (slot : ℕ) (e : TxEntry) → slot_refusal (tx_slots_of old.slots) begun ≡ None → content old.slots slot ≡ None →
    Updates old new slot (Some e) → transaction_of e ≡ fresh_transaction session id (begun + 1) → Begins (shown trees number begun hives aside old.slots) session id (record { slot = slot; generation = begun + 1 }) (shown trees number (begun + 1) hives aside new.slots)
begins trees number begun hives aside old new session id slot e free vacant u kept = record {
  free = free;
  starts = record {
    vacant = at_of old.slots slot ∙ ap (option_map transaction_of) vacant;
    numbered = refl;
    put = subst (λ t. SetsSlot (tx_slots_of old.slots) (tx_slots_of new.slots) slot (Some t)) kept (puts old new slot (Some e) u);
  };
  next = refl;
}

-- as many transactions are kept as entries
as_long : (key : ℕ) (slots : List (Option TxEntry)) → length (entries_from key (tx_slots_of slots)) ≡ length (entries_from key slots)
as_long key [] = refl
as_long key (None ∷ slots) = as_long (key + 1) slots
as_long key (Some e ∷ slots) = ap suc (as_long (key + 1) slots)

count_shown : (slots : List (Option TxEntry)) → count_held (tx_slots_of slots) ≡ count_by is_some slots
count_shown slots = sym (length-entries_from 0 (tx_slots_of slots)) ∙ as_long 0 slots ∙ length-entries_from 0 slots

seats : (held begun : ℕ) (few left : Bool) → nat_le MOST_TRANSACTIONS held ≡ few → nat_le (2 ^ 64 - 1) begun ≡ left → (nat_le MOST_TRANSACTIONS held || nat_le (2 ^ 64 - 1) begun) ≡ (few || left)
seats held begun few left e f = ap (λ b. b || nat_le (2 ^ 64 - 1) begun) e ∙ ap (λ b. few || b) f

module _ (begun : ℕ) (slots : List (Option TxEntry)) (held : ℕ) (counted : held ≡ count_by is_some slots) where
  by_count : slot_refusal (tx_slots_of slots) begun ≡ refused_if (nat_le MOST_TRANSACTIONS held || nat_le (2 ^ 64 - 1) begun) NoSeat
  by_count = ap (λ n. refused_if (nat_le MOST_TRANSACTIONS n || nat_le (2 ^ 64 - 1) begun) NoSeat) (count_shown slots ∙ sym counted)

  pub some_seat : held < MOST_TRANSACTIONS → begun + 1 < 2 ^ 64 → slot_refusal (tx_slots_of slots) begun ≡ None
  some_seat few below = by_count ∙ ap (λ b. refused_if b NoSeat) (seats held begun false false (lt-leb MOST_TRANSACTIONS held few) (lt-leb (2 ^ 64 - 1) begun (omega (arith, below))))

  pub no_seat : MOST_TRANSACTIONS ≤ held → slot_refusal (tx_slots_of slots) begun ≡ Some NoSeat
  no_seat many = by_count ∙ ap (λ b. refused_if b NoSeat) (ap (λ b. b || nat_le (2 ^ 64 - 1) begun) (le-leb MOST_TRANSACTIONS held many))

  pub none_left : held < MOST_TRANSACTIONS → 2 ^ 64 ≤ begun + 1 → slot_refusal (tx_slots_of slots) begun ≡ Some NoSeat
  none_left few many = by_count ∙ ap (λ b. refused_if b NoSeat) (seats held begun false true (lt-leb MOST_TRANSACTIONS held few) (le-leb (2 ^ 64 - 1) begun (omega (arith, many))))

-- a slab with more room has the same entries
pub updates_of : (s r new : Slab TxEntry) (key : ℕ) (entry : Option TxEntry) → r ≡ record s { capacity = r.capacity } → Updates r new key entry → Updates s new key entry
updates_of s r new key entry same u = record { changed = u.changed; others = λ other ne. u.others other ne ∙ ap (λ (x : Slab TxEntry). content x.slots other) same }

pub slot_of : (s r : Slab TxEntry) (key : ℕ) (entry : Option TxEntry) → r ≡ record s { capacity = r.capacity } → content r.slots key ≡ entry → content s.slots key ≡ entry
slot_of s r key entry same there = sym (ap (λ (x : Slab TxEntry). content x.slots key) same) ∙ there

-- a transaction that is begun
pub begun_entry : (trees : List TreeMap) (number begun hives aside : ℕ) (session : ℕ) (id : List ℕ) (e : TxEntry) → transaction_of e ≡ fresh_transaction session id begun → e.length ≡ 16 → e.view ≡ None → aside ≤ MOST_OUTCOME_BYTES → IsEntry trees number begun hives aside e
begun_entry trees number begun hives aside session id e kept length unseen few = record {
  known = omega (arith, ap (λ (t : Transaction). t.generation) kept);
  counted = length ∙ ap (λ (ops : List Op). 16 + ops_encoded_len ops) (sym (ap (λ (t : Transaction). t.ops) kept));
  short = omega (arith, length, few);
  spare = λ some. absurd (none_some _ (ap (λ (t : Transaction). t.ops) kept) some);
  named = none_named hives _ (ap (λ (t : Transaction). t.ops) kept);
  viewed = subst (IsViewed trees number e.ops.items) (sym unseen) tt;
}

-- an active transaction is rolled back
pub rolled_back_put : (old new : Slab TxEntry) (slot : ℕ) (e after : TxEntry) → content old.slots slot ≡ Some e → is_active (transaction_of e) ≡ true → Updates old new slot (Some after) → transaction_of after ≡ ended RolledBack (transaction_of e) →
    SetsSlot (tx_slots_of old.slots) (tx_slots_of new.slots) slot (rolled_back_if true (at (tx_slots_of old.slots) slot))
rolled_back_put old new slot e after there active u kept =
    subst (SetsSlot (tx_slots_of old.slots) (tx_slots_of new.slots) slot) (ap Some (kept ∙ sym (ap (λ b. cond b (ended RolledBack (transaction_of e)) (transaction_of e)) active)) ∙ sym (ap (rolled_back_if true) (at_slot old.slots slot e there))) (puts old new slot (Some after) u)

-- what the view says of an operation is what the table says
pub judge_ok : (table : Table) (session : ℕ) (tx : Tx) (op : Op) (one : Transaction) → own table.tx_slots session tx ≡ Some one → is_active one ≡ true → (r : Result (Option Judged) Refusal) →
    IfOk r (IsJudged table.aside table.trees table.number one op) → IfOk r (IsJudgedOf table session tx op)
judge_ok table session tx op one its active (Ok judged) h =
    (subst (λ o. IfSome o (IsJudgedBy table.aside table.trees table.number op judged)) (sym its) record { active = active; told = h }, subst IsSome (sym its) refl)
judge_ok table session tx op one its active (Err why) h = tt

-- so an operation that was judged may be added
pub may_add : (table : Table) (session : ℕ) (tx : Tx) (op : Op) (judged : Judged) → IsJudgedOf table session tx op (Some judged) → hive_of op < table.hives → MayAdd table tx.slot op judged.made
may_add table session tx op judged h below = by_place (at table.tx_slots tx.slot) refl h.0 h.1
  where
    by_place : (o : Option Transaction) → at table.tx_slots tx.slot ≡ o → IfSome (own_if session tx.generation o) (IsJudgedBy table.aside table.trees table.number op (Some judged)) → IsSome (own_if session tx.generation o) → MayAdd table tx.slot op judged.made
    by_place None there told some = cc
    by_place (Some one) there told some = by_test (one.session == session && one.generation == tx.generation) told some
      where
        by_test : (b : Bool) → IfSome (cond b (Some one) None) (IsJudgedBy table.aside table.trees table.number op (Some judged)) → IsSome (cond b (Some one) None) → MayAdd table tx.slot op judged.made
        by_test true told some = record { one = one; there = there; active = told.active; short = told.told.short; named = below; numbered = told.told.numbered; seen = told.told.seen }
        by_test false told some = cc

-- and once it was, it is its transaction's last
pub adds : (old new : Table) (session : ℕ) (tx : Tx) (moment : ℕ) (op : Op) (judged : Judged) (r : Result TxWriteOutcome Refusal) → IsJudgedOf old session tx op (Some judged) → IfOk r (AddsTo old tx.slot moment op judged.levels new) → IfOk r (λ written. Writes old session tx moment op written new)
adds old new session tx moment op judged (Err why) j a = tt
adds old new session tx moment op judged (Ok written) j a = subst (λ w. Writes old session tx moment op w new) (sym a.0) (by_place (at old.tx_slots tx.slot) refl j.0 j.1, a.2)
  where
    by_place : (o : Option Transaction) → at old.tx_slots tx.slot ≡ o → IfSome (own_if session tx.generation o) (IsJudgedBy old.aside old.trees old.number op (Some judged)) → IsSome (own_if session tx.generation o) → AddsOp old.aside old.trees old.tx_slots (own_if session tx.generation (at old.tx_slots tx.slot)) tx.slot moment op judged.levels new.tx_slots
    by_place None there told some = cc
    by_place (Some one) there told some = by_test (one.session == session && one.generation == tx.generation) refl told some
      where
        by_test : (b : Bool) → (one.session == session && one.generation == tx.generation) ≡ b → IfSome (cond b (Some one) None) (IsJudgedBy old.aside old.trees old.number op (Some judged)) → IsSome (cond b (Some one) None) → AddsOp old.aside old.trees old.tx_slots (own_if session tx.generation (at old.tx_slots tx.slot)) tx.slot moment op judged.levels new.tx_slots
        by_test true its told some = record {
          one = one;
          found = ap (own_if session tx.generation) there ∙ ap (λ b. cond b (Some one) None) its;
          free = ap (λ o. first_of o (added_refusal old.aside old.trees old.tx_slots tx.slot op one)) (may_end one told.active)
              ∙ ap (λ l. refusal_by l (first_of (refused_if (too_long old.aside one op) TooLarge) (refused_if (is_claimed old.tx_slots tx.slot (claim_of op)) Conflict))) told.told.is_legal
              ∙ ap (λ b. first_of (refused_if b TooLarge) (refused_if (is_claimed old.tx_slots tx.slot (claim_of op)) Conflict)) told.told.short
              ∙ ap (λ b. refused_if b Conflict) a.1;
          is_legal = told.told.is_legal;
          made = told.told.made;
          put = subst (λ (o : Option Transaction). SetsSlot old.tx_slots new.tx_slots tx.slot (with_op_if op moment o)) there a.3;
        }
        by_test false its told some = cc

pub judge_refused : (table : Table) (session : ℕ) (tx : Tx) (op : Op) (one : Transaction) → own table.tx_slots session tx ≡ Some one → is_active one ≡ true → (r : Result (Option Judged) Refusal) →
    IfErr r (λ why. (illegal table.aside table.trees op one ≡ Some why) ⊎ (why ≡ NoMemory)) →
    IfErr r (λ why. (judge_refusal table.aside table.trees op (own table.tx_slots session tx) ≡ Some why) ⊎ (why ≡ NoMemory))
judge_refused table session tx op one its active (Ok judged) h = tt
judge_refused table session tx op one its active (Err why) h = elim h [
  | inl e ↦ inl (ap (judge_refusal table.aside table.trees op) its ∙ ap (λ first. first_of first (illegal table.aside table.trees op one)) (may_end one active) ∙ e)
  | inr m ↦ inr m
]

-- a handle that doesn't pass its test adds nothing
pub unadded : (aside : ℕ) (trees : List TreeMap) (tx_slots : TxSlots) (slot : ℕ) (op : Op) (its : Option Transaction) (why : Refusal) → inactive_refusal its ≡ Some why → added_refusal_if aside trees tx_slots slot op its ≡ Some why
unadded aside trees tx_slots slot op None why e = e
unadded aside trees tx_slots slot op (Some one) why e = ap (λ first. first_of first (added_refusal aside trees tx_slots slot op one)) e

first_same : (first : Option Refusal) (l : Result Legality Refusal) (near further : Option Refusal) (why : Refusal) → first_of first (refusal_by l near) ≡ Some why → first_of first (refusal_by l (first_of near further)) ≡ Some why
first_same (Some x) l near further why e = e
first_same None (Err x) near further why e = e
first_same None (Ok Opened) near further why e = absurd (none-some why e)
first_same None (Ok Legal) (Some x) further why e = e
first_same None (Ok Legal) None further why e = absurd (none-some why e)

-- a refusal of the judgement is one of the write
pub judged_refused : (aside : ℕ) (trees : List TreeMap) (tx_slots : TxSlots) (slot : ℕ) (op : Op) (there : Option Transaction) (why : Refusal) → judge_refusal aside trees op there ≡ Some why → added_refusal_if aside trees tx_slots slot op there ≡ Some why
judged_refused aside trees tx_slots slot op None why e = e
judged_refused aside trees tx_slots slot op (Some one) why e = first_same (inactive_refusal (Some one)) (legal (view trees one) op) (refused_if (too_long aside one op) TooLarge) (refused_if (is_claimed tx_slots slot (claim_of op)) Conflict) why e
