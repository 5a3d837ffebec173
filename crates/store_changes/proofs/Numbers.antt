-- Changes with consecutive numbers, and those above a number.
use Rattle.std.proofs.Common.{◌≡◌, inl, inr, ℕ, zero, suc, ◌+◌, ◌-◌, ◌<◌, ◌≤◌, Bool, true, false, cond, List, [], ◌∷◌, ◌++◌, get_or, length, take, drop, map, refl, sym, ◌∙◌, ap, arith}
use Rattle.std.specs.Prelude.{nat_le, nat_lt, ◌&&◌}
use Rattle.std.proofs.lemmas.Bool.{cases_lt, le-leb, le-ltb, lt-ltb, lt-leb}
use Rattle.reg_tree.specs.declared.element.Element.{Element}
use Rattle.crash_model.proofs.Lists.{drop_nil}
use Rattle.commit_journal.specs.Numbered.{NumberedChange, changes_in, numbered}
use Rattle.store_changes.specs.Followed.{changes_after, changes_up_to}

-- all numbers are above `base`
pub after_all : (low base : ℕ) (changes : List Element) → low ≤ base → changes_after low base changes ≡ numbered base changes
after_all low base [] le = refl
after_all low base (x ∷ xs) le =
    ap (λ b. cond b ((base + 1, x) ∷ changes_after low (base + 1) xs) (changes_after low (base + 1) xs)) (lt-ltb low (base + 1) (omega (arith, le)))
    ∙ ap (λ (l : List NumberedChange). (base + 1, x) ∷ l) (after_all low (base + 1) xs (omega (arith, le)))

-- a change that isn't above a number is left out
past_first : (after base : ℕ) (x : Element) (xs : List Element) → base + 1 ≤ after → changes_after after base (x ∷ xs) ≡ changes_after after (base + 1) xs
past_first after base x xs le = ap (λ b. cond b ((base + 1, x) ∷ changes_after after (base + 1) xs) (changes_after after (base + 1) xs)) (le-ltb after (base + 1) le)

-- those after a number that isn't below the first's are the last ones, numbered from there on
pub after_is : (after base : ℕ) (changes : List Element) → base ≤ after → changes_after after base changes ≡ numbered after (drop (after - base) changes)
after_is after base [] le = ap (λ (l : List Element). numbered after l) (sym (drop_nil {A = Element} (after - base)))
after_is after base (x ∷ xs) le = elim (cases_lt after (base + 1)) as (λ z. changes_after after base (x ∷ xs) ≡ numbered after (drop (after - base) (x ∷ xs))) [
  | inl lt ↦
      let same : base ≡ after = omega (arith, lt, le) in
      let none : after - base ≡ 0 = omega (arith, lt) in
      after_all after base (x ∷ xs) (omega (arith, lt)) ∙ ap (λ n. numbered n (x ∷ xs)) same ∙ ap (λ n. numbered after (drop n (x ∷ xs))) (sym none)
  | inr ge ↦
      let next : after - base ≡ suc (after - (base + 1)) = omega (arith, ge) in
      past_first after base x xs ge ∙ after_is after (base + 1) xs ge ∙ ap (λ n. numbered after (drop n (x ∷ xs))) (sym next)
]

-- and the changes themselves, whatever the number is
changes_numbered : (base : ℕ) (changes : List Element) → changes_in (numbered base changes) ≡ changes
changes_numbered base [] = refl
changes_numbered base (x ∷ xs) = ap (λ (l : List Element). x ∷ l) (changes_numbered (base + 1) xs)

pub in_after : (after base : ℕ) (changes : List Element) → changes_in (changes_after after base changes) ≡ drop (after - base) changes
in_after after base changes = elim (cases_lt after base) as (λ z. changes_in (changes_after after base changes) ≡ drop (after - base) changes) [
  | inl lt ↦
      let none : after - base ≡ 0 = omega (arith, lt) in
      ap changes_in (after_all after base changes (omega (arith, lt))) ∙ changes_numbered base changes ∙ ap (λ n. drop n changes) (sym none)
  | inr ge ↦ ap changes_in (after_is after base changes ge) ∙ changes_numbered after (drop (after - base) changes)
]

-- none is both above `base` and not
up_to_none : (last after base : ℕ) (changes : List Element) → last ≤ base → changes_up_to last after base changes ≡ []
up_to_none last after base [] le = refl
up_to_none last after base (x ∷ xs) le = none (nat_lt after (base + 1)) ∙ up_to_none last after (base + 1) xs (omega (arith, le))
  where
    rest : List NumberedChange
    rest = changes_up_to last after (base + 1) xs

    no : nat_le (base + 1) last ≡ false
    no = lt-leb (base + 1) last (omega (arith, le))

    none : (b : Bool) → cond (b && nat_le (base + 1) last) ((base + 1, x) ∷ rest) rest ≡ rest
    none true = ap (λ b. cond b ((base + 1, x) ∷ rest) rest) no
    none false = refl

-- Changes after one number are those up to another one that isn't below it, and those after that.
pub after_parts : (last after base : ℕ) (changes : List Element) → after ≤ last → changes_after after base changes ≡ changes_up_to last after base changes ++ changes_after last base changes
after_parts last after base [] le = refl
after_parts last after base (x ∷ xs) le = elim (cases_lt last (base + 1)) as (λ z. changes_after after base (x ∷ xs) ≡ changes_up_to last after base (x ∷ xs) ++ changes_after last base (x ∷ xs)) [
  | inl lt ↦ after_all after base (x ∷ xs) (omega (arith, lt, le)) ∙ sym (after_all last base (x ∷ xs) (omega (arith, lt)))
      ∙ ap (λ (l : List NumberedChange). l ++ changes_after last base (x ∷ xs)) (sym (up_to_none last after base (x ∷ xs) (omega (arith, lt))))
  | inr ge ↦ both (nat_lt after (base + 1)) (after_parts last after (base + 1) xs le) ∙ ap (λ b. cond (nat_lt after (base + 1) && b) ((base + 1, x) ∷ front) front ++ changes_after last (base + 1) xs) (sym (le-leb (base + 1) last ge))
      ∙ ap (λ (l : List NumberedChange). changes_up_to last after base (x ∷ xs) ++ l) (sym (past_first last base x xs ge))
]
  where
    front : List NumberedChange
    front = changes_up_to last after (base + 1) xs

    whole : List NumberedChange
    whole = changes_after after (base + 1) xs

    both : (b : Bool) → whole ≡ front ++ changes_after last (base + 1) xs → cond b ((base + 1, x) ∷ whole) whole ≡ cond (b && true) ((base + 1, x) ∷ front) front ++ changes_after last (base + 1) xs
    both true same = ap (λ (l : List NumberedChange). (base + 1, x) ∷ l) same
    both false same = same

-- how many there are
pub length-numbered : (base : ℕ) (changes : List Element) → length (numbered base changes) ≡ length changes
length-numbered base [] = refl
length-numbered base (x ∷ xs) = ap suc (length-numbered (base + 1) xs)

-- one more of the first changes
pub take_numbered : (base i : ℕ) (changes : List Element) (change : Element) → i < length changes → change ≡ get_or changes i change → take (suc i) (numbered base changes) ≡ take i (numbered base changes) ++ (base + i + 1, change) ∷ []
take_numbered base i [] change lt is = absurd (omega (arith, lt))
take_numbered base zero (x ∷ xs) change lt is = let same : base + zero + 1 ≡ base + 1 = omega arith in ap (λ (y : Element). (base + 1, y) ∷ []) (sym is) ∙ ap (λ n. (n, change) ∷ []) (sym same)
take_numbered base (suc i) (x ∷ xs) change lt is =
    let same : base + 1 + i + 1 ≡ base + suc i + 1 = omega arith in
    ap (λ (l : List NumberedChange). (base + 1, x) ∷ l) (take_numbered (base + 1) i xs change (omega (arith, lt)) is) ∙ ap (λ n. (base + 1, x) ∷ (take i (numbered (base + 1) xs) ++ (n, change) ∷ [])) same
