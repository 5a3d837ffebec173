-- What a table keeps, after each kind of change.
use Rattle.std.proofs.Common.{◌≡◌, ℕ, ◌+◌, ◌<◌, length, true, false, arith, List, [], ◌∷◌, ◌++◌, Option, Some, None, Result, Ok, Err, sym, ◌∙◌, ap, subst}
use Rattle.std.specs.Prelude.{Contains, map, slice_set, IfErr, OnErr}
use Rattle.std.specs.Result.{IsErrAnd}
use Rattle.std.proofs.lemmas.Bool.{ltb-false}
use Rattle.std.proofs.lemmas.List.Sums.{sum_by-append}
use Rattle.refusals.specs.declared.limits.TheConstants.{MOST_ELEMENT_BYTES}
use Rattle.reg_tree.specs.Encodings.{op_encoded_len, ops_encoded_len}
use Rattle.std.proofs.lemmas.List.Elements.{All-append, All-cons, All-nil}
use Rattle.reg_tree.specs.Operations.{hive_of}
use Rattle.store_model.specs.Invariant.{HivesAreNamable}
use Rattle.store_model.specs.Machine.{too_long}
use Rattle.std.proofs.Math.Seq.{map-set_same}
use Rattle.std.specs.Option.{option_map}
use Rattle.std.proofs.lemmas.Option.{none-some}
use Rattle.slab.specs.Slab.{Slab, Updates}
use Rattle.reg_tree.specs.Maps.{TreeMap}
use Rattle.reg_tree.specs.declared.op.Op.{Op}
use Rattle.conflicts.specs.Claims.{claim_of}
use Rattle.conflicts.specs.Holders.{HeldClaim, with_claim, without_owner}
use Rattle.conflicts.proofs.Members.{none_empty}
use Rattle.store_model.specs.Transactions.{Transaction, SetsSlot, at, is_active, with_op}
use Rattle.transactions.specs.Entries.{transaction_of, tx_slots_of, IsEntry, IsSameEntry, HasTwoSpare, IsViewed, IsViewNow, EntriesAreSound}
use Rattle.transactions.specs.declared.entry.TxEntry.{TxEntry}
use Rattle.transactions.specs.declared.view.View.{View}
use Rattle.transactions.proofs.Slots.{content, at_of, puts, entries_put, entries_moved, entries_begun}
use Rattle.transactions.proofs.Claimed.{some_same, claimed_same, claimed_put, claimed_dropped, claimed_added, none_inactive, none_there}

-- a slot that has an entry
pub at_slot : (slots : List (Option TxEntry)) (slot : ℕ) (e : TxEntry) → content slots slot ≡ Some e → at (tx_slots_of slots) slot ≡ Some (transaction_of e)
at_slot slots slot e h = at_of slots slot ∙ ap (option_map transaction_of) h

module _ (trees : List TreeMap) (number begun hives aside : ℕ) (claims : List HeldClaim) where
  -- the next change was accepted
  pub kept_moved : (others : List TreeMap) (slots : List (Option TxEntry)) → EntriesAreSound trees number begun hives aside slots claims → EntriesAreSound others (number + 1) begun hives aside slots claims
  kept_moved others slots k = record { entries = entries_moved trees others number begun hives aside slots k.entries; claimed = k.claimed; few = k.few }

  -- a slot was vacated
  pub kept_vacated : (old new : Slab TxEntry) (key : ℕ) (after : List HeldClaim) → after ≡ without_owner claims key → EntriesAreSound trees number begun hives aside old.slots claims → Updates old new key None →
      EntriesAreSound trees number begun hives aside new.slots after
  kept_vacated old new key after without k u = subst (EntriesAreSound trees number begun hives aside new.slots) (sym without) record {
    entries = entries_put trees number begun hives aside old new key None k.entries u (λ e none. absurd (none-some e none));
    claimed = claimed_dropped (tx_slots_of old.slots) (tx_slots_of new.slots) claims key None k.claimed (puts old new key None u)
        (λ claim c. none_there (tx_slots_of new.slots) key claim (puts old new key None u).there c);
    few = k.few;
  }

  -- a transaction ended
  pub kept_ended : (old new : Slab TxEntry) (key : ℕ) (e : TxEntry) (after : List HeldClaim) → after ≡ without_owner claims key → EntriesAreSound trees number begun hives aside old.slots claims → Updates old new key (Some e) → IsEntry trees number begun hives aside e → is_active (transaction_of e) ≡ false →
      EntriesAreSound trees number begun hives aside new.slots after
  kept_ended old new key e after without k u i ended = subst (EntriesAreSound trees number begun hives aside new.slots) (sym without) record {
    entries = entries_put trees number begun hives aside old new key (Some e) k.entries u (λ f same. subst (IsEntry trees number begun hives aside) (some_same e f same) i);
    claimed = claimed_dropped (tx_slots_of old.slots) (tx_slots_of new.slots) claims key (Some (transaction_of e)) k.claimed (puts old new key (Some e) u)
        (λ claim c. none_inactive (tx_slots_of new.slots) key (transaction_of e) claim (puts old new key (Some e) u).there ended c);
    few = k.few;
  }

  -- a transaction was begun
  pub kept_begun : (old new : Slab TxEntry) (key : ℕ) (e : TxEntry) → EntriesAreSound trees number begun hives aside old.slots claims → Updates old new key (Some e) → content old.slots key ≡ None → IsEntry trees number (begun + 1) hives aside e → e.ops.items ≡ [] →
      EntriesAreSound trees number (begun + 1) hives aside new.slots claims
  kept_begun old new key e k u vacant i none = record {
    entries = entries_put trees number (begun + 1) hives aside old new key (Some e) (entries_begun trees number begun hives aside old.slots k.entries) u (λ f same. subst (IsEntry trees number (begun + 1) hives aside) (some_same e f same) i);
    claimed = claimed_put (tx_slots_of old.slots) (tx_slots_of new.slots) claims key (Some (transaction_of e)) k.claimed (puts old new key (Some e) u)
        (λ claim c. none_there (tx_slots_of old.slots) key claim (at_of old.slots key ∙ ap (option_map transaction_of) vacant) c)
        (λ claim c. none_empty claim (subst (λ ops. Contains (map claim_of ops) claim) none
        (subst (λ (t : Transaction). Contains (map claim_of t.ops) claim) (some_same c.one (transaction_of e) (sym c.there ∙ (puts old new key (Some e) u).there)) c.made)));
    few = k.few;
  }

  -- what a transaction sees was made, and nothing else changed
  pub kept_seen : (old new : Slab TxEntry) (key : ℕ) (was e : TxEntry) → EntriesAreSound trees number begun hives aside old.slots claims → Updates old new key (Some e) → content old.slots key ≡ Some was → IsEntry trees number begun hives aside e →
      transaction_of e ≡ transaction_of was → ((slot : ℕ) → at (tx_slots_of new.slots) slot ≡ at (tx_slots_of old.slots) slot) → EntriesAreSound trees number begun hives aside new.slots claims
  kept_seen old new key was e k u there i same all = record {
    entries = entries_put trees number begun hives aside old new key (Some e) k.entries u (λ f g. subst (IsEntry trees number begun hives aside) (some_same e f g) i);
    claimed = claimed_same (tx_slots_of old.slots) (tx_slots_of new.slots) claims k.claimed all;
    few = k.few;
  }

  -- an operation was added
  pub kept_added : (old new : Slab TxEntry) (key : ℕ) (was e : TxEntry) (op : Op) (moment : ℕ) (after : List HeldClaim) → after ≡ with_claim claims (record { owner = key; claim = claim_of op }) → EntriesAreSound trees number begun hives aside old.slots claims → Updates old new key (Some e) → content old.slots key ≡ Some was → IsEntry trees number begun hives aside e →
      transaction_of e ≡ with_op (transaction_of was) op moment → is_active (transaction_of was) ≡ true → EntriesAreSound trees number begun hives aside new.slots after
  kept_added old new key was e op moment after more k u there i kept active = subst (EntriesAreSound trees number begun hives aside new.slots) (sym more) record {
    entries = entries_put trees number begun hives aside old new key (Some e) k.entries u (λ f g. subst (IsEntry trees number begun hives aside) (some_same e f g) i);
    claimed = claimed_added (tx_slots_of old.slots) (tx_slots_of new.slots) claims key (transaction_of was) op moment k.claimed
        (subst (λ t. SetsSlot (tx_slots_of old.slots) (tx_slots_of new.slots) key (Some t)) kept (puts old new key (Some e) u)) (at_slot old.slots key was there) active;
    few = k.few;
  }

-- an entry that has another view
pub seen_entry : (trees : List TreeMap) (number begun hives aside : ℕ) (e after : TxEntry) → IsEntry trees number begun hives aside e → after ≡ record e { view = after.view } → IsViewed trees number after.ops.items after.view → IsEntry trees number begun hives aside after
seen_entry trees number begun hives aside e after i rest viewed =
    subst (IsEntry trees number begun hives aside) (sym rest) record { known = i.known; counted = i.counted; short = i.short; spare = i.spare; named = i.named; viewed = subst (λ (x : TxEntry). IsViewed trees number x.ops.items after.view) rest viewed }

-- the slots show no view
pub same_tx_slots : (slots : List (Option TxEntry)) (slot : ℕ) (e after : TxEntry) → content slots slot ≡ Some e → transaction_of after ≡ transaction_of e → tx_slots_of (slice_set slots slot (Some after)) ≡ tx_slots_of slots
same_tx_slots slots slot e after there same = map-set_same (option_map transaction_of) slots slot (Some after) None (ap Some same ∙ sym (ap (option_map transaction_of) there))

-- an entry with more room is the same
pub reserved_same : (e after : TxEntry) → IsSameEntry e after → transaction_of after ≡ transaction_of e
reserved_same e after s = ap transaction_of s.0 ∙ ap (λ items. record (transaction_of e) { ops = items }) s.1

pub reserved_entry : (trees : List TreeMap) (number begun hives aside : ℕ) (e after : TxEntry) → IsEntry trees number begun hives aside e → IsSameEntry e after → IsEntry trees number begun hives aside after
reserved_entry trees number begun hives aside e after i s = subst (IsEntry trees number begun hives aside) (sym s.0) record {
  known = i.known;
  counted = i.counted ∙ ap (λ (items : List Op). 16 + ops_encoded_len items) (sym s.1);
  short = i.short;
  spare = λ some. let many = i.spare (subst (λ (items : List Op). 0 < length items) s.1 some) in let same = ap (λ (items : List Op). length items) s.1 in omega (arith, many, same, s.2);
  named = subst (HivesAreNamable hives) (sym s.1) i.named;
  viewed = subst (λ items. IsViewed trees number items e.view) (sym s.1) i.viewed;
}

-- an entry after one more operation, which is not too long and whose view is the one after it
pub added_entry : (trees : List TreeMap) (number begun hives aside : ℕ) (e after : TxEntry) (op : Op) (moment : ℕ) (made : View) → IsEntry trees number begun hives aside e → transaction_of after ≡ with_op (transaction_of e) op moment → after.length ≡ e.length + op_encoded_len op →
    after.view ≡ Some made → too_long aside (transaction_of e) op ≡ false → hive_of op < hives → made.number ≡ number → IsViewNow trees (e.ops.items ++ op ∷ []) made → HasTwoSpare after → IsEntry trees number begun hives aside after
added_entry trees number begun hives aside e after op moment made i kept length view short there numbered seen spare = record {
  known = omega (arith, i.known, ap (λ (t : Transaction). t.generation) kept);
  counted = whole;
  short = omega (arith, whole, ap (λ (items : List Op). ops_encoded_len items) items, ltb-false MOST_ELEMENT_BYTES (16 + ops_encoded_len (e.ops.items ++ op ∷ []) + aside) short);
  spare = spare;
  named = subst (HivesAreNamable hives) (sym items) (All-append (λ o. hive_of o < hives) e.ops.items (op ∷ []) i.named (All-cons (λ o. hive_of o < hives) op [] there (All-nil (λ o. hive_of o < hives))));
  viewed = subst (IsViewed trees number after.ops.items) (sym view) record { known = omega (arith, numbered); made = λ same. subst (λ ops. IsViewNow trees ops made) (sym items) seen };
}
  where
    items : after.ops.items ≡ e.ops.items ++ op ∷ []
    items = ap (λ (t : Transaction). t.ops) kept

    whole : after.length ≡ 16 + ops_encoded_len after.ops.items
    whole = omega (arith, length, i.counted, sum_by-append op_encoded_len e.ops.items (op ∷ []), ap (λ (items : List Op). ops_encoded_len items) items)

-- why a result is an error
pub if_err : {A E : Type 0} (r : Result A E) (why : E) (P : E → Type 0) → IsErrAnd r (λ e. e ≡ why) → P why → IfErr r P
if_err (Ok a) why P h p = tt
if_err (Err e) why P h p = subst P (sym h) p

pub if_err_then : {A E : Type 0} (r : Result A E) (P Q : E → Type 0) → ((why : E) → P why → Q why) → IfErr r P → IfErr r Q
if_err_then (Ok a) P Q follows p = tt
if_err_then (Err e) P Q follows p = follows e p

-- an error leaves all as it was
pub on_err : {A E : Type 0} (r : Result A E) (P : Type 0) → P → OnErr r P
on_err (Ok a) P p = tt
on_err (Err e) P p = p
