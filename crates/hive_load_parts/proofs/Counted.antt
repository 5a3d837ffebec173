-- How many flags are set.
use Rattle.std.proofs.Common.{◌≡◌, ◌+◌, ◌<◌, ℕ, zero, suc, List, [], ◌∷◌, Bool, true, false, length, arith, true≢false}
use Rattle.std.specs.Prelude.{slice_set, slice_index_or}
use Rattle.hive_load_parts.specs.CellReads.{set_flags}

pub one_flag : (flags : List Bool) (i : ℕ) → i < length flags → slice_index_or flags i false ≡ false → set_flags (slice_set flags i true) ≡ set_flags flags + 1
one_flag [] i h e = absurd (not_less i h)
  where
    not_less : (n : ℕ) → n < length {A = Bool} [] → ⊥
    not_less n l = absurd (omega (arith, l))
one_flag (true ∷ flags) zero h e = absurd (true≢false e)
one_flag (false ∷ flags) zero h e = omega arith
one_flag (b ∷ flags) (suc i) h e = let k = one_flag flags i (omega (arith, h)) e in omega (arith, k)
