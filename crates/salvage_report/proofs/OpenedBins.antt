-- The bins data of a file, moved to its front.
use Rattle.std.proofs.Common.{◌≡◌, ◌∙◌, ◌≤◌, ◌⊎◌, ℕ, zero, suc, List, [], ◌++◌, length, min, take, drop, ap, arith, inl, inr, refl, sym}
use Rattle.std.proofs.Math.Nat.{min-eq_left, min-eq_right}
use Rattle.std.proofs.Math.Seq.{take-append_seam}
use Rattle.std.proofs.lemmas.List.{drop_all, take-append-le, take_all}

one_or_other : (a b : ℕ) → (a ≤ b) ⊎ (b ≤ a)
one_or_other zero b = inl (omega arith)
one_or_other (suc a) zero = inr (omega arith)
one_or_other (suc a) (suc b) = elim (one_or_other a b) [
  | inl p ↦ inl (omega (arith, p))
  | inr p ↦ inr (omega (arith, p))
]

-- of what comes first, as many as are there, whatever follows
pub front : (d h : List ℕ) (size : ℕ) → take (min (length d) size) (d ++ h) ≡ take size d
front d h size = elim (one_or_other (length d) size) [
  | inl short ↦ ap (λ (n : ℕ). take n (d ++ h)) (min-eq_left short) ∙ (take-append_seam d h ∙ sym (take_all size d short))
  | inr long ↦ ap (λ (n : ℕ). take n (d ++ h)) (min-eq_right long) ∙ take-append-le size d h long
]

take_none : (size : ℕ) (l : List ℕ) → l ≡ [] → take size l ≡ []
take_none zero l none = refl
take_none (suc n) l none = ap (take (suc n)) none

-- of a list that isn't longer than what is left out, nothing
pub nothing_after : (n size : ℕ) (l : List ℕ) → length l ≤ n → take size (drop n l) ≡ []
nothing_after n size l short = take_none size (drop n l) (drop_all n l short)
