-- What is before and after the first separator, byte by byte.
use Rattle.std.proofs.Common.{◌≡◌, ℕ, suc, ◌+◌, ◌==◌, Bool, true, false, cond, List, [], ◌∷◌, ◌++◌, length, take, drop, Some, None, refl, sym, ◌∙◌, ap, arith, inl, inr}
use Rattle.std.specs.Prelude.{nat_lt, ◌⊎◌}
use Rattle.std.specs.Option.{option_map}
use Rattle.std.specs.List.{position_or_len, slice_split, onto_first, AllByRecursion}
use Rattle.std.proofs.lemmas.Option.{none-some}
use Rattle.std.proofs.lemmas.Bool.Decides.{nat_tests, Decides-eqb}
use Rattle.word_syntax.specs.Parts.{before, behind, parts_of}

-- a byte is the separator or it isn't
pub is_or_not : (test : Bool) → (test ≡ true) ⊎ (test ≡ false)
is_or_not true = inl refl
is_or_not false = inr refl

behind_at : (b : ℕ) (bs : List ℕ) (n m : ℕ) (test : Bool) → m ≡ suc n → option_map (λ at. drop (at + 1) (b ∷ bs)) (cond test (Some m) None) ≡ option_map (λ at. drop (at + 1) bs) (cond test (Some n) None)
behind_at b bs n m true e = let k : m + 1 ≡ suc (n + 1) = omega (arith, e) in ap (λ i. Some (drop i (b ∷ bs))) k
behind_at b bs n m false e = refl

module _ (s : ℕ) where
  place_there : (b : ℕ) (bs : List ℕ) → (b == s) ≡ true → position_or_len (λ byte. byte == s) (b ∷ bs) ≡ 0
  place_there b bs e = rw e refl

  place_further : (b : ℕ) (bs : List ℕ) → (b == s) ≡ false → position_or_len (λ byte. byte == s) (b ∷ bs) ≡ suc (position_or_len (λ byte. byte == s) bs)
  place_further b bs e = let one : 1 + position_or_len (λ byte. byte == s) bs ≡ suc (position_or_len (λ byte. byte == s) bs) = omega arith in rw e one

  pub before_here : (b : ℕ) (bs : List ℕ) → (b == s) ≡ true → before s (b ∷ bs) ≡ []
  before_here b bs e = ap (λ n. take n (b ∷ bs)) (place_there b bs e)

  pub before_further : (b : ℕ) (bs : List ℕ) → (b == s) ≡ false → before s (b ∷ bs) ≡ b ∷ before s bs
  before_further b bs e = ap (λ n. take n (b ∷ bs)) (place_further b bs e)

  pub behind_here : (b : ℕ) (bs : List ℕ) → (b == s) ≡ true → behind s (b ∷ bs) ≡ Some bs
  behind_here b bs e =
      let within : nat_lt 0 (length (b ∷ bs)) ≡ true = grind (arith, nat_tests) in
      ap (λ n. option_map (λ at. drop (at + 1) (b ∷ bs)) (cond (nat_lt n (length (b ∷ bs))) (Some n) None)) (place_there b bs e)
      ∙ ap (λ test. option_map (λ at. drop (at + 1) (b ∷ bs)) (cond test (Some 0) None)) within

  pub behind_further : (b : ℕ) (bs : List ℕ) → (b == s) ≡ false → behind s (b ∷ bs) ≡ behind s bs
  behind_further b bs e =
      let n = position_or_len (λ byte. byte == s) bs in
      let m = position_or_len (λ byte. byte == s) (b ∷ bs) in
      let further : m ≡ suc n = place_further b bs e in
      let same : nat_lt m (length (b ∷ bs)) ≡ nat_lt n (length bs) = ap (λ k. nat_lt k (length (b ∷ bs))) further ∙ below_too n (length bs) in
      ap (λ test. option_map (λ at. drop (at + 1) (b ∷ bs)) (cond test (Some m) None)) same ∙ behind_at b bs n m (nat_lt n (length bs)) further
    where
      below_too : (i len : ℕ) → nat_lt (suc i) (suc len) ≡ nat_lt i len
      below_too i len = elim (is_or_not (nat_lt i len)) [
        | inl below ↦ let too : nat_lt (suc i) (suc len) ≡ true = grind (arith, nat_tests, below) in too ∙ sym below
        | inr past ↦ let too : nat_lt (suc i) (suc len) ≡ false = grind (arith, nat_tests, past) in too ∙ sym past
      ]

  -- what has no separator in front of the rest
  pub before_front : (front rest : List ℕ) → AllByRecursion (λ b. (b == s) ≡ false) front → before s (front ++ rest) ≡ front ++ before s rest
  before_front [] rest h = refl
  before_front (b ∷ front) rest h = before_further b (front ++ rest) h.0 ∙ ap (λ bs. b ∷ bs) (before_front front rest h.1)

  pub behind_front : (front rest : List ℕ) → AllByRecursion (λ b. (b == s) ≡ false) front → behind s (front ++ rest) ≡ behind s rest
  behind_front [] rest h = refl
  behind_front (b ∷ front) rest h = behind_further b (front ++ rest) h.0 ∙ behind_front front rest h.1

  -- the bytes are what is before the separator, the separator, and what is after it
  pub cut_back : (bytes back : List ℕ) → behind s bytes ≡ Some back → bytes ≡ before s bytes ++ s ∷ back
  cut_back [] back e = absurd (none-some back e)
  cut_back (b ∷ bs) back e = elim (is_or_not (b == s)) [
    | inl here ↦
        let same = (Decides-eqb b s).0 here in
        let rest = some_same bs back (sym (behind_here b bs here) ∙ e) in
        ap (λ c. c ∷ bs) same ∙ ap (λ xs. s ∷ xs) rest ∙ ap (λ front. front ++ s ∷ back) (sym (before_here b bs here))
    | inr further ↦
        ap (λ xs. b ∷ xs) (cut_back bs back (sym (behind_further b bs further) ∙ e)) ∙ ap (λ front. front ++ s ∷ back) (sym (before_further b bs further))
  ]
    where
      some_same : (x y : List ℕ) → Some x ≡ Some y → x ≡ y
      some_same x y f = cc

  -- the parts are what is before the first separator, and the parts after it
  pub parts_are : (bytes : List ℕ) → slice_split (λ byte. byte == s) bytes ≡ before s bytes ∷ parts_of s (behind s bytes)
  parts_are [] = refl
  parts_are (b ∷ bs) = elim (is_or_not (b == s)) [
    | inl here ↦
        ap (λ test. cond test ([] ∷ slice_split (λ byte. byte == s) bs) (onto_first b (slice_split (λ byte. byte == s) bs))) here
        ∙ ap (λ front. front ∷ slice_split (λ byte. byte == s) bs) (sym (before_here b bs here))
        ∙ ap (λ rest. before s (b ∷ bs) ∷ parts_of s rest) (sym (behind_here b bs here))
    | inr further ↦
        ap (λ test. cond test ([] ∷ slice_split (λ byte. byte == s) bs) (onto_first b (slice_split (λ byte. byte == s) bs))) further
        ∙ ap (onto_first b) (parts_are bs)
        ∙ ap (λ front. front ∷ parts_of s (behind s bs)) (sym (before_further b bs further))
        ∙ ap (λ rest. before s (b ∷ bs) ∷ parts_of s rest) (sym (behind_further b bs further))
  ]
