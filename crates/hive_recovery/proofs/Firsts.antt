-- The first bytes of an image.
use Rattle.std.proofs.Common.{◌≡◌, ◌≤◌, ℕ, zero, suc, List, Option, Some, None, refl, subst, inl, inr, arith}
use Rattle.std.proofs.lemmas.Bool.{cases_lt}
use Rattle.hive_recovery.specs.Laid.{first_bytes}

-- a byte that isn't there leaves none behind it
pub lacking_stays : (image : ℕ → Option ℕ) (n m : ℕ) → n ≤ m → first_bytes image n ≡ None → first_bytes image m ≡ None
lacking_stays image n zero less lacks = let same : n ≡ 0 = omega (arith, less) in subst (λ k. first_bytes image k ≡ None) same lacks
lacking_stays image n (suc m) less lacks =
    elim (cases_lt m n) [
      | inl past ↦ let same : n ≡ suc m = omega (arith, less, past) in subst (λ k. first_bytes image k ≡ None) same lacks
      | inr within ↦ rw (lacking_stays image n m within lacks) refl
    ]

pub lacking_one : (image : ℕ → Option ℕ) (index : ℕ) (bytes : List ℕ) → first_bytes image index ≡ Some bytes → image index ≡ None → first_bytes image (suc index) ≡ None
lacking_one image index bytes some none = rw some (rw none refl)
