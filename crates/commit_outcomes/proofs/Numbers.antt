-- Numbers as eight bytes, the lowest first, and back.
use Rattle.std.proofs.Common.{◌≡◌, inl, inr, ℕ, zero, suc, ◌<◌, ◌^◌, true, nat_lt, List, [], length, get_or, slice_index, refl, sym, ◌∙◌, ap, arith, append-nil}
use Rattle.std.specs.List.{list_all}
use Rattle.std.specs.Int.{w64, from_le_bytes, byte_at, bytes_low_first}
use Rattle.std.proofs.lemmas.Bool.{and_from, lt-ltb, ltb-true, cases_lt}
use Rattle.std.proofs.lemmas.List.{get_or_past}
use Rattle.std.proofs.lemmas.Nat.{le_bytes_8}
use Rattle.byteorder.specs.Endian.{little_number, little_bytes}
use Rattle.byteorder.specs.Numbers.{little_number-reads_back, length-bytes_low_first}
use Rattle.commit_outcomes.proofs.UnitNames.{at_all}

pub number_back : (n : ℕ) → n < 2 ^ 64 → little_number 8 (little_bytes 8 n) ≡ n
number_back n fits = ap (little_number 8) (sym (append-nil (little_bytes 8 n))) ∙ little_number-reads_back 8 n [] (omega (arith, fits))

pub eight : (n : ℕ) → length (little_bytes 8 n) ≡ 8
eight n = length-bytes_low_first 0 8 n

byte_small : (i n : ℕ) → byte_at i n < 256
byte_small zero n = omega arith
byte_small (suc i) n = omega arith

bytes_small : (i k n : ℕ) → list_all (λ b. nat_lt b 256) (bytes_low_first i k n) ≡ true
bytes_small i zero n = refl
bytes_small i (suc k) n = and_from (nat_lt (byte_at i n) 256) (list_all (λ b. nat_lt b 256) (bytes_low_first (suc i) k n)) (lt-ltb (byte_at i n) 256 (byte_small i n)) (bytes_small (suc i) k n)

pub are_bytes : (n : ℕ) → list_all (λ b. nat_lt b 256) (little_bytes 8 n) ≡ true
are_bytes n = bytes_small 0 8 n

small_at : (bs : List ℕ) → list_all (λ b. nat_lt b 256) bs ≡ true → (k : ℕ) → slice_index bs k < 256
small_at bs small k = elim (cases_lt k (length bs)) [
  | inl within ↦ ltb-true (slice_index bs k) 256 (at_all (λ b. nat_lt b 256) bs small k within)
  | inr past ↦ let none : get_or bs k 0 ≡ 0 = get_or_past bs k 0 past in omega (arith, none)
]

pub bytes_back : (bs : List ℕ) → length bs ≡ 8 → list_all (λ b. nat_lt b 256) bs ≡ true → little_bytes 8 (little_number 8 bs) ≡ bs
bytes_back bs long small =
    let same : little_number 8 bs ≡ from_le_bytes w64 bs = omega arith in
    le_bytes_8 bs (little_number 8 bs) long (small_at bs small) same
