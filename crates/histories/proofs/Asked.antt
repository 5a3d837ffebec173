-- The events that were asked for in histories that go on.
use Rattle.std.proofs.Common.{◌≡◌, ◌≤◌, ◌+◌, ℕ, Bool, true, false, List, [], ◌∷◌, ◌++◌, length, refl, ap, sym, ◌∙◌, arith, length-append}
use Rattle.std.proofs.lemmas.List.{append-nil}
use mathlib.Core.List.{IsPrefix}
use Rattle.histories.specs.Asked.{asked_in, is_asked}
use Rattle.histories.specs.Points.{HistoryEntry}

asked_more : (b : Bool) (x : HistoryEntry) (xs ys : List HistoryEntry) → is_asked x.event ≡ b → asked_in (xs ++ ys) ≡ asked_in xs ++ asked_in ys → asked_in ((x ∷ xs) ++ ys) ≡ asked_in (x ∷ xs) ++ asked_in ys
asked_more true x xs ys is more = rw is (ap (λ (w : List HistoryEntry). x ∷ w) more)
asked_more false x xs ys is more = rw is more

pub asked_append : (xs ys : List HistoryEntry) → asked_in (xs ++ ys) ≡ asked_in xs ++ asked_in ys
asked_append [] ys = refl
asked_append (x ∷ xs) ys = asked_more (is_asked x.event) x xs ys refl (asked_append xs ys)

-- one event more that was asked for, or that wasn't
pub asked_one : (xs : List HistoryEntry) (x : HistoryEntry) → is_asked x.event ≡ true → asked_in (xs ++ x ∷ []) ≡ asked_in xs ++ x ∷ []
asked_one xs x is = asked_append xs (x ∷ []) ∙ ap (λ (w : List HistoryEntry). asked_in xs ++ w) (rw is refl)

pub asked_none : (xs : List HistoryEntry) (x : HistoryEntry) → is_asked x.event ≡ false → asked_in (xs ++ x ∷ []) ≡ asked_in xs
asked_none xs x is = asked_append xs (x ∷ []) ∙ (ap (λ (w : List HistoryEntry). asked_in xs ++ w) (rw is refl) ∙ append-nil (asked_in xs))

empty : {A : Type 0} (xs : List A) → length xs ≤ 0 → xs ≡ []
empty [] le = refl
empty (x ∷ xs) le = absurd (omega arith)

-- if a longer history has no more events that were asked for, it has just the same
pub asked_same : (xs ys : List HistoryEntry) → IsPrefix xs ys → length (asked_in ys) ≤ length (asked_in xs) → asked_in ys ≡ asked_in xs
asked_same xs ys p le =
    let all : asked_in ys ≡ asked_in xs ++ asked_in p.0 = ap asked_in (sym p.1) ∙ asked_append xs p.0 in
    let none : asked_in p.0 ≡ [] = empty (asked_in p.0) (omega (arith, le, ap length all, length-append (asked_in xs) (asked_in p.0))) in
    all ∙ (ap (λ (w : List HistoryEntry). asked_in xs ++ w) none ∙ append-nil (asked_in xs))

-- a count of them goes on with the history
module _ (xs : List HistoryEntry) (x : HistoryEntry) (old new : ℕ) where
  pub count_goes_on : (b : Bool) → is_asked x.event ≡ b → (b ≡ true → new ≡ old + 1) → (b ≡ false → new ≡ old) → old ≡ length (asked_in xs) → new ≡ length (asked_in (xs ++ x ∷ []))
  count_goes_on true is up same at = omega (arith, up refl, at, ap length (asked_one xs x is), length-append (asked_in xs) (x ∷ []))
  count_goes_on false is up same at = omega (arith, same refl, at, ap length (asked_none xs x is))

  pub counts_alike : (b : Bool) → is_asked x.event ≡ b → (b ≡ true → new ≡ old + 1) → (b ≡ false → new ≡ old) → new + length (asked_in xs) ≡ old + length (asked_in (xs ++ x ∷ []))
  counts_alike true is up same = omega (arith, up refl, ap length (asked_one xs x is), length-append (asked_in xs) (x ∷ []))
  counts_alike false is up same = omega (arith, same refl, ap length (asked_none xs x is))
