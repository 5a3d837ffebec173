-- The slots of a table, as its slab has them.
use Rattle.std.proofs.Common.{◌≡◌, ◌⊎◌, inl, inr, ℕ, zero, suc, ◌+◌, ◌==◌, Bool, true, false, List, [], ◌∷◌, Option, Some, None, refl, sym, ◌∙◌, ap, subst, arith}
use Rattle.std.specs.Prelude.{◌≢◌, slice_index_or}
use Rattle.std.specs.Option.{option_map}
use Rattle.std.proofs.lemmas.Bool.{eqb-true, eqb-false}
use Rattle.slab.specs.Slab.{Slab, Updates}
use Rattle.reg_tree.specs.Maps.{TreeMap}
use Rattle.store_model.specs.Invariant.{HivesAreNamable}
use Rattle.store_model.specs.Transactions.{Transaction, SetsSlot, at}
use Rattle.transactions.specs.Entries.{transaction_of, tx_slots_of, IsViewed, IsEntry}
use Rattle.transactions.specs.declared.entry.TxEntry.{TxEntry}
use Rattle.transactions.specs.declared.view.View.{View}

abbrev pub content : List (Option TxEntry) → ℕ → Option TxEntry
content slots slot = slice_index_or slots slot None

-- what is in a slot
pub at_of : (slots : List (Option TxEntry)) (slot : ℕ) → at (tx_slots_of slots) slot ≡ option_map transaction_of (content slots slot)
at_of [] slot = refl
at_of (s ∷ slots) zero = refl
at_of (s ∷ slots) (suc slot) = at_of slots slot

-- one number is another, or isn't
pub same_or_other : (a b : ℕ) → (a ≡ b) ⊎ (a ≢ b)
same_or_other a b = by_case (a == b) refl
  where
    by_case : (t : Bool) → (a == b) ≡ t → (a ≡ b) ⊎ (a ≢ b)
    by_case true e = inl (eqb-true a b e)
    by_case false e = inr (eqb-false a b e)

-- a changed slot of the slab is a changed slot of the table
pub puts : (old new : Slab TxEntry) (key : ℕ) (s : Option TxEntry) → Updates old new key s → SetsSlot (tx_slots_of old.slots) (tx_slots_of new.slots) key (option_map transaction_of s)
puts old new key s u = record {
  there = at_of new.slots key ∙ ap (option_map transaction_of) u.changed;
  others = λ other ne. at_of new.slots other ∙ ap (option_map transaction_of) (u.others other ne) ∙ sym (at_of old.slots other);
}

-- what is so of all entries
abbrev pub AreEntries : List TreeMap → ℕ → ℕ → ℕ → ℕ → List (Option TxEntry) → Type 0
AreEntries trees number begun hives aside slots = (slot : ℕ) (e : TxEntry) → content slots slot ≡ Some e → IsEntry trees number begun hives aside e

-- and after one of them changed
pub entries_put : (trees : List TreeMap) (number begun hives aside : ℕ) (old new : Slab TxEntry) (key : ℕ) (s : Option TxEntry) → AreEntries trees number begun hives aside old.slots → Updates old new key s →
    ((e : TxEntry) → s ≡ Some e → IsEntry trees number begun hives aside e) → AreEntries trees number begun hives aside new.slots
entries_put trees number begun hives aside old new key s all u one slot e at = elim (same_or_other slot key) [
  | inl same ↦ one e (sym u.changed ∙ ap (content new.slots) (sym same) ∙ at)
  | inr other ↦ all slot e (sym (u.others slot other) ∙ at)
]

later_view : (trees : List TreeMap) (number : ℕ) (ops : _) (view : Option View) (others : List TreeMap) → IsViewed trees number ops view → IsViewed others (number + 1) ops view
later_view trees number ops None others v = v
later_view trees number ops (Some view) others v = record { known = omega (arith, v.known); made = λ e. absurd (omega (arith, v.known, e)) }

-- after a change no view is of now
pub entries_moved : (trees others : List TreeMap) (number begun hives aside : ℕ) (slots : List (Option TxEntry)) → AreEntries trees number begun hives aside slots → AreEntries others (number + 1) begun hives aside slots
entries_moved trees others number begun hives aside slots all slot e at =
    let i : IsEntry trees number begun hives aside e = all slot e at in
    record { known = i.known; counted = i.counted; short = i.short; spare = i.spare; named = i.named; viewed = later_view trees number e.ops.items e.view others i.viewed }

-- one more was begun
pub entries_begun : (trees : List TreeMap) (number begun hives aside : ℕ) (slots : List (Option TxEntry)) → AreEntries trees number begun hives aside slots → AreEntries trees number (begun + 1) hives aside slots
entries_begun trees number begun hives aside slots all slot e at =
    let i : IsEntry trees number begun hives aside e = all slot e at in
    record { known = omega (arith, i.known); counted = i.counted; short = i.short; spare = i.spare; named = i.named; viewed = i.viewed }

-- the operations of each transaction are on hives below a number
pub named_at : (trees : List TreeMap) (number begun hives aside : ℕ) (slots : List (Option TxEntry)) → AreEntries trees number begun hives aside slots → (slot : ℕ) (one : Transaction) → at (tx_slots_of slots) slot ≡ Some one → HivesAreNamable hives one.ops
named_at trees number begun hives aside slots all slot one there = by_content (content slots slot) refl (sym (at_of slots slot) ∙ there)
  where
    by_content : (o : Option TxEntry) → content slots slot ≡ o → option_map transaction_of o ≡ Some one → HivesAreNamable hives one.ops
    by_content None e same = cc
    by_content (Some f) e same = let is : transaction_of f ≡ one = cc same in subst (λ (t : Transaction). HivesAreNamable hives t.ops) is (all slot f e).named
