-- Numbers that are written read back.
use Rattle.std.proofs.Common.{◌≡◌, ◌<◌, ◌+◌, ◌-◌, ◌^◌, ℕ, List, ◌++◌, length, take, ◌∙◌, ap, sym, arith, take_at}
use Rattle.byteorder.specs.Numbers.{little_number-reads_back}
use Rattle.hive_cells.specs.Tiles.{u32_at}
use Rattle.hive_records.specs.Numbers.{u16_at, u64_at}
use Rattle.hive_records.specs.Fields.{u16_bytes, u32_bytes, u64_bytes}

pub half_back : (n : ℕ) (rest : List ℕ) → n < 2 ^ 16 → u16_at (u16_bytes n ++ rest) 0 ≡ n
unfolding u16_at
half_back n rest h = let e = little_number-reads_back 2 n rest h in omega (arith, e)

pub word_back : (n : ℕ) (rest : List ℕ) → n < 2 ^ 32 → u32_at (u32_bytes n ++ rest) 0 ≡ n
unfolding u32_at
word_back n rest h = let e = little_number-reads_back 4 n rest h in omega (arith, e)

pub long_back : (n : ℕ) (rest : List ℕ) → n < 2 ^ 64 → u64_at (u64_bytes n ++ rest) 0 ≡ n
unfolding u64_at u32_at
long_back n rest h = let e = little_number-reads_back 8 n rest h in omega (arith, e)

-- bytes of a length cut out again
pub cut : (encoding rest : List ℕ) (front n : ℕ) → n ≡ length encoding → take (front + n - front) (encoding ++ rest) ≡ encoding
cut encoding rest front n e = ap (λ (k : ℕ). take k (encoding ++ rest)) (omega arith) ∙ take_at encoding rest n (sym e)
