-- A prefix that isn't at its end begins no empty text.
use Rattle.std.proofs.Common.{◌≡◌, ℕ, zero, suc, ◌<◌, false, List, [], ◌∷◌, length, drop, refl, arith}
use Rattle.reg_prefixes.specs.Places.{begins}

pub none_left : (prefix : List ℕ) (index : ℕ) (rest : List ℕ) → index < length prefix → length rest < 1 → begins (drop index prefix) rest ≡ false
none_left [] index rest within gone = absurd (omega (arith, within))
none_left (unit ∷ prefix) zero [] within gone = refl
none_left (unit ∷ prefix) zero (other ∷ rest) within gone = absurd (omega (arith, gone))
none_left (unit ∷ prefix) (suc index) rest within gone = none_left prefix index rest (omega (arith, within)) gone
