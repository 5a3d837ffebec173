-- Slots that change one after another.
use Rattle.std.proofs.Common.{◌≡◌, ◌⊎◌, inl, inr, ℕ, zero, suc, ◌+◌, ◌<◌, ◌≤◌, ◌==◌, Bool, true, false, cond, ◌||◌, List, [], ◌∷◌, ◌++◌, length, map, take, Option, Some, None, refl, sym, ◌∙◌, ap, subst, arith}
use Rattle.std.specs.Prelude.{nat_lt, slice_index_or}
use Rattle.std.specs.List.{list_any}
use Rattle.std.specs.Option.{option_and_then}
use Rattle.std.proofs.lemmas.Bool.{ltb-true, ltb-false, eq-eqb, ne_eqb}
use Rattle.std.proofs.lemmas.List.{take_more, map-append}
use Rattle.conflicts.specs.declared.table.ClaimOwner.{ClaimOwner}
use Rattle.store_model.specs.Transactions.{Transaction, TxSlots, SetsSlot, EachSlotBecomes, at, gone_with, is_active, ended}
use Rattle.store_model.specs.declared.handle.Outcome.TheVariants.{RolledBack}
use Rattle.transactions.specs.Tables.{Table, is_of, is_listed, rolled_back, rolled_back_if}
use Rattle.transactions.proofs.Slots.{same_or_other}

lt_or_le : (a b : ℕ) → (a < b) ⊎ (b ≤ a)
lt_or_le a b = by_case (nat_lt a b) refl
  where
    by_case : (t : Bool) → nat_lt a b ≡ t → (a < b) ⊎ (b ≤ a)
    by_case true e = inl (ltb-true a b e)
    by_case false e = inr (ltb-false a b e)

-- the transactions of a session in the first slots are gone
pub record GoneBelow (session count : ℕ) (old new : TxSlots) : Type 0 where
  pub gone : (slot : ℕ) → slot < count → at new slot ≡ option_and_then (gone_with session) (at old slot)
  pub rest : (slot : ℕ) → count ≤ slot → at new slot ≡ at old slot

pub gone_start : (session : ℕ) (old : TxSlots) → GoneBelow session 0 old old
gone_start session old = record { gone = λ slot below. absurd (omega (arith, below)); rest = λ slot above. refl }

stays : (session : ℕ) (one : Option Transaction) → is_of session one ≡ false → option_and_then (gone_with session) one ≡ one
stays session None e = refl
stays session (Some one) e = ap (λ b. cond b None (Some one)) e

goes : (session : ℕ) (one : Option Transaction) → is_of session one ≡ true → option_and_then (gone_with session) one ≡ None
goes session None e = refl
goes session (Some one) e = ap (λ b. cond b None (Some one)) e

pub gone_kept : (session count : ℕ) (old new : TxSlots) → is_of session (at new count) ≡ false → GoneBelow session count old new → GoneBelow session (count + 1) old new
gone_kept session count old new other g = record {
  gone = λ slot below. elim (lt_or_le slot count) [
    | inl less ↦ g.gone slot less
    | inr more ↦ subst (λ p. at new p ≡ option_and_then (gone_with session) (at old p)) (omega (arith, below, more))
        (g.rest count (omega arith) ∙ sym (stays session (at old count) (ap (is_of session) (sym (g.rest count (omega arith))) ∙ other)))
  ];
  rest = λ slot above. g.rest slot (omega (arith, above));
}

pub gone_more : (session count : ℕ) (old mid new : TxSlots) → is_of session (at mid count) ≡ true → SetsSlot mid new count None → GoneBelow session count old mid → GoneBelow session (count + 1) old new
gone_more session count old mid new its p g = record {
  gone = λ slot below. elim (lt_or_le slot count) [
    | inl less ↦ p.others slot (λ e. omega (arith, e, less)) ∙ g.gone slot less
    | inr more ↦ subst (λ q. at new q ≡ option_and_then (gone_with session) (at old q)) (omega (arith, below, more))
        (p.there ∙ sym (goes session (at old count) (ap (is_of session) (sym (g.rest count (omega arith))) ∙ its)))
  ];
  rest = λ slot above. p.others slot (λ e. omega (arith, e, above)) ∙ g.rest slot (omega (arith, above));
}

past : (tx_slots : TxSlots) (slot : ℕ) → length tx_slots ≤ slot → at tx_slots slot ≡ None
past [] slot h = refl
past (x ∷ tx_slots) zero h = absurd (omega (arith, h))
past (x ∷ tx_slots) (suc slot) h = past tx_slots slot (omega (arith, h))

pub gone_all : (session count : ℕ) (old new : TxSlots) → length old ≤ count → GoneBelow session count old new → EachSlotBecomes (gone_with session) old new
gone_all session count old new few g slot = elim (lt_or_le slot count) [
  | inl less ↦ g.gone slot less
  | inr more ↦ g.rest slot more ∙ past old slot (omega (arith, few, more)) ∙ sym (ap (option_and_then (gone_with session)) (past old slot (omega (arith, few, more))))
]

-- the first of a list of transactions are rolled back
abbrev pub numbers : List ClaimOwner → List ℕ
numbers owners = map (λ o. o.0) owners

abbrev pub RolledBelow : List ClaimOwner → ℕ → TxSlots → TxSlots → Type 0
RolledBelow owners count old new = (slot : ℕ) → at new slot ≡ rolled_back_if (is_listed (numbers (take count owners)) slot) (at old slot)

kept_if_not : (one : Option Transaction) → rolled_back_if false one ≡ one
kept_if_not None = refl
kept_if_not (Some one) = refl

pub rolled_start : (owners : List ClaimOwner) (old : TxSlots) → RolledBelow owners 0 old old
rolled_start owners old slot = sym (kept_if_not (at old slot))

any_last : (p : ℕ → Bool) (xs : List ℕ) (y : ℕ) → list_any p (xs ++ y ∷ []) ≡ (list_any p xs || p y)
any_last p [] y = or_false (p y)
  where
    or_false : (b : Bool) → (b || false) ≡ b
    or_false true = refl
    or_false false = refl
any_last p (x ∷ xs) y = ap (λ b. p x || b) (any_last p xs y) ∙ assoc (p x) (list_any p xs) (p y)
  where
    assoc : (a b c : Bool) → (a || (b || c)) ≡ ((a || b) || c)
    assoc true b c = refl
    assoc false b c = refl

pub listed_more : (owners : List ClaimOwner) (index slot : ℕ) (d : ClaimOwner) → index < length owners →
    is_listed (numbers (take (index + 1) owners)) slot ≡ (is_listed (numbers (take index owners)) slot || (slice_index_or owners index d).0 == slot)
listed_more owners index slot d below =
    ap (λ os. is_listed (numbers os) slot) (take_more owners index d below) ∙ ap (λ ns. is_listed ns slot) (map-append (λ (o : ClaimOwner). o.0) (take index owners) (slice_index_or owners index d ∷ []))
    ∙ any_last (λ p. p == slot) (numbers (take index owners)) (slice_index_or owners index d).0

-- one of them is listed
pub listed_at : (owners : List ClaimOwner) (index slot : ℕ) (d : ClaimOwner) → index < length owners → (slice_index_or owners index d).0 ≡ slot → is_listed (numbers owners) slot ≡ true
listed_at [] index slot d below e = absurd (omega (arith, below))
listed_at (owner ∷ owners) zero slot d below e = ap (λ b. b || is_listed (numbers owners) slot) (eq-eqb owner.0 slot e)
listed_at (owner ∷ owners) (suc index) slot d below e = ap (λ b. owner.0 == slot || b) (listed_at owners index slot d (omega (arith, below)) e) ∙ or_true (owner.0 == slot)
  where
    or_true : (b : Bool) → (b || true) ≡ true
    or_true true = refl
    or_true false = refl

twice : (one : Transaction) (b : Bool) → is_active one ≡ b → rolled_back (rolled_back one) ≡ rolled_back one
twice one true e = ap rolled_back now ∙ sym now
  where
    now : rolled_back one ≡ ended RolledBack one
    now = ap (λ b. cond b (ended RolledBack one) one) e
twice one false e = ap rolled_back now
  where
    now : rolled_back one ≡ one
    now = ap (λ b. cond b (ended RolledBack one) one) e

again : (one : Option Transaction) (b : Bool) → rolled_back_if true (rolled_back_if b one) ≡ rolled_back_if true one
again None b = refl
again (Some one) true = ap Some (twice one (is_active one) refl)
again (Some one) false = refl

or_right : (b c : Bool) → c ≡ true → (b || c) ≡ true
or_right true c e = refl
or_right false c e = e

or_left : (b c : Bool) → c ≡ false → (b || c) ≡ b
or_left true c e = refl
or_left false c e = e

pub rolled_more : (owners : List ClaimOwner) (index : ℕ) (d : ClaimOwner) (old mid new : TxSlots) → index < length owners → RolledBelow owners index old mid →
    SetsSlot mid new (slice_index_or owners index d).0 (rolled_back_if true (at mid (slice_index_or owners index d).0)) → RolledBelow owners (index + 1) old new
rolled_more owners index d old mid new below r p slot = elim (same_or_other slot (slice_index_or owners index d).0) [
  | inl same ↦ ap (at new) same ∙ p.there ∙ ap (λ q. rolled_back_if true (at mid q)) (sym same) ∙ ap (rolled_back_if true) (r slot)
      ∙ again (at old slot) (is_listed (numbers (take index owners)) slot)
      ∙ ap (λ b. rolled_back_if b (at old slot)) (sym (listed_more owners index slot d below ∙ or_right (is_listed (numbers (take index owners)) slot) ((slice_index_or owners index d).0 == slot) (eq-eqb (slice_index_or owners index d).0 slot (sym same))))
  | inr other ↦ p.others slot other ∙ r slot
      ∙ ap (λ b. rolled_back_if b (at old slot)) (sym (listed_more owners index slot d below ∙ or_left (is_listed (numbers (take index owners)) slot) ((slice_index_or owners index d).0 == slot) (ne_eqb (slice_index_or owners index d).0 slot (λ e. other (sym e)))))
]

-- what stays beside the slots stays
pub rest_more : (old mid new : Table) → mid ≡ record old { tx_slots = mid.tx_slots } → new ≡ record mid { tx_slots = new.tx_slots } → new ≡ record old { tx_slots = new.tx_slots }
rest_more old mid new e f = f ∙ ap (λ (t : Table). record t { tx_slots = new.tx_slots }) e
