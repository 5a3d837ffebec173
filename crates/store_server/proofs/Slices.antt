-- Parts of lists that follow one another.
use Rattle.std.proofs.Common.{◌≡◌, ◌∙◌, ◌+◌, ◌≤◌, ℕ, zero, suc, List, [], ◌∷◌, ◌++◌, length, take, drop, min, refl, ap, arith, sym}
use Rattle.std.proofs.Math.Seq.{drop-nil, take-append-add}
use Rattle.std.proofs.lemmas.List.{drop-append-le, length-append, length-take, take-append-drop, take-append-le}
use mathlib.Core.List.{IsPrefix}

module _ {A : Type 0} where
  drop_twice : (k n : ℕ) (xs : List A) → drop n (drop k xs) ≡ drop (k + n) xs
  drop_twice zero n xs = let e : n ≡ zero + n = omega arith in ap (λ m. drop m xs) e
  drop_twice (suc k) n [] = drop-nil n ∙ sym (drop-nil (suc k + n))
  drop_twice (suc k) n (x ∷ xs) = let e : suc (k + n) ≡ suc k + n = omega arith in drop_twice k n xs ∙ ap (λ m. drop m (x ∷ xs)) e

  -- what is as long as the part that it is isn't longer than the list
  part_within : (n : ℕ) (part xs : List A) → length part ≡ n → part ≡ take n xs → n ≤ length xs
  part_within n part xs e are =
      let is : n ≡ min n (length xs) = sym e ∙ (ap length are ∙ length-take n xs) in
      least_within n (length xs) is
    where
      least_within : (a b : ℕ) → a ≡ min a b → a ≤ b
      least_within a b is = omega arith

  -- the first elements of a part, and those after them, are the first elements of that part of a list that goes on
  pub parts_join : (list later first rest : List A) (skip : ℕ) → IsPrefix list later → skip ≤ length list → first ≡ take (length first) (drop skip list) → rest ≡ take (length rest) (drop (skip + length first) later)
      → first ++ rest ≡ take (length (first ++ rest)) (drop skip later)
  parts_join list later first rest skip begins within are more =
      let n = length first in
      let part = drop skip list in
      let all = drop skip later in
      let behind : all ≡ part ++ begins.0 = ap (drop skip) (sym begins.1) ∙ drop-append-le skip list begins.0 within in
      let fits : n ≤ length part = part_within n first part refl are in
      let front : take n all ≡ first = ap (take n) behind ∙ (take-append-le n part begins.0 fits ∙ sym are) in
      let left = drop n all in
      let whole : all ≡ first ++ left = sym (take-append-drop n all) ∙ ap (λ xs. xs ++ left) front in
      let next : take (length rest) left ≡ rest = ap (take (length rest)) (drop_twice skip n later) ∙ sym more in
      sym (ap (λ m. take m all) (length-append first rest) ∙ (ap (take (n + length rest)) whole ∙ (take-append-add first left (length rest) ∙ ap (λ xs. first ++ xs) next)))
