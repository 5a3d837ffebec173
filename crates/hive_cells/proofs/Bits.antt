-- Bits of words that say where cells begin.
use Rattle.std.proofs.Common.{◌≡◌, ◌≢◌, ℕ, suc, ◌+◌, ◌-◌, ◌*◌, ◌/◌, ◌%◌, ◌^◌, ◌<◌, ◌≤◌, Bool, true, false, eqb, min, List, length, get_or, set, sym, ap, ◌∙◌, inl, inr, arith, bit_and, bit_or}
use Rattle.std.specs.Int.{w64, bit_at}
use Rattle.std.proofs.lemmas.Bool.{cases_lt, cases_eq}
use Rattle.std.proofs.lemmas.List.{length-set, get_or-set_same, get_or-set_other}
use Rattle.std.proofs.lemmas.Nat.Bits.{bit_at-lt, bit_at-zero, bit_at_above, bit_at_and, bit_at_ones, bit_at_ones_above, bit_at_set_same, bit_at_set_other, bit_at_clear_same, bit_at_clear_other, ones_shr}
use Rattle.std.proofs.Math.Nat.{one-le-pow, pow-suc, div-lt_iff_lt-mul, le-div_iff_mul-le}
use Rattle.hive_cells.specs.Starts.{NoStart, IsLastStart, NoBit, IsLastBit, SetsStartBit}

-- ---- a bit is put

-- the bits of a word that is put
puts_word : (words : List ℕ) (slot word : ℕ) (begins : Bool) → slot < 64 * length words
    → eqb (bit_at word (slot % 64)) 1 ≡ begins
    → ((bit : ℕ) → bit < 64 → bit ≢ slot % 64 → bit_at word bit ≡ bit_at (get_or words (slot / 64) 0) bit)
    → SetsStartBit words (set words (slot / 64) word) slot begins
puts_word words slot word begins within here others =
    record {
      len = length-set words (slot / 64) word;
      here = ap (λ (w : ℕ). eqb (bit_at w (slot % 64)) 1) (get_or-set_same words (slot / 64) word 0 (omega arith)) ∙ here;
      others = λ k apart. elim (cases_eq (k / 64) (slot / 64)) [
        | inl same ↦
            ap (λ (i : ℕ). eqb (bit_at (get_or (set words (slot / 64) word) i 0) (k % 64)) 1) same
            ∙ ap (λ (w : ℕ). eqb (bit_at w (k % 64)) 1) (get_or-set_same words (slot / 64) word 0 (omega arith))
            ∙ ap (λ (n : ℕ). eqb n 1) (others (k % 64) (omega arith) (omega (arith, same, apart)))
            ∙ ap (λ (i : ℕ). eqb (bit_at (get_or words i 0) (k % 64)) 1) (sym same)
        | inr other ↦ ap (λ (w : ℕ). eqb (bit_at w (k % 64)) 1) (get_or-set_other words (slot / 64) (k / 64) word 0 other)
      ];
    }

pub put_one : (words : List ℕ) (slot : ℕ) (begins : Bool) → begins ≡ true → slot < 64 * length words
    → SetsStartBit words (set words (slot / 64) (bit_or (get_or words (slot / 64) 0) (1 * 2 ^ (slot % 64) % 18446744073709551616))) slot begins
put_one words slot begins is_true within =
    let small : slot % 64 < 64 = omega arith in
    puts_word words slot _ begins within
    (ap (λ (n : ℕ). eqb n 1) (bit_at_set_same w64 (get_or words (slot / 64) 0) (slot % 64) small) ∙ sym is_true)
    (λ bit fits apart. bit_at_set_other w64 (get_or words (slot / 64) 0) (slot % 64) small bit apart)

pub put_none : (words : List ℕ) (slot : ℕ) (begins : Bool) → begins ≡ false → slot < 64 * length words
    → SetsStartBit words (set words (slot / 64) (bit_and (get_or words (slot / 64) 0) (18446744073709551615 - 1 * 2 ^ (slot % 64) % 18446744073709551616))) slot begins
put_none words slot begins none within =
    let small : slot % 64 < 64 = omega arith in
    puts_word words slot _ begins within
    (ap (λ (n : ℕ). eqb n 1) (bit_at_clear_same w64 (get_or words (slot / 64) 0) (slot % 64) small) ∙ sym none)
    (λ bit fits apart. bit_at_clear_other w64 (get_or words (slot / 64) 0) (slot % 64) small bit fits apart)

-- ---- the last bit of a word

-- the bits up to `last` are left by the mask
module _ (word last : ℕ) (fits : last < 64) where
  rest : ℕ
  rest = bit_and word (18446744073709551615 / 2 ^ (63 - last))

  mask_is : 18446744073709551615 / 2 ^ (63 - last) ≡ 2 ^ (last + 1) - 1
  mask_is = let width : 64 - (63 - last) ≡ last + 1 = omega arith in ones_shr 64 (63 - last) (omega arith) ∙ ap (λ (n : ℕ). 2 ^ n - 1) width

  bit_of_rest : (i : ℕ) → bit_at rest i ≡ min (bit_at word i) (bit_at (2 ^ (last + 1) - 1) i)
  unfolding rest
  bit_of_rest i = bit_at_and word (18446744073709551615 / 2 ^ (63 - last)) i ∙ ap (λ (m : ℕ). min (bit_at word i) (bit_at m i)) mask_is

  bit_low : (i : ℕ) → i ≤ last → bit_at rest i ≡ bit_at word i
  bit_low i low = bit_of_rest i ∙ ap (min (bit_at word i)) (bit_at_ones (last + 1) i (omega arith)) ∙ omega (arith, bit_at-lt word i)

  bit_high : (i : ℕ) → last < i → bit_at rest i ≡ 0
  bit_high i high = bit_of_rest i ∙ ap (min (bit_at word i)) (bit_at_ones_above (last + 1) i (omega arith)) ∙ omega arith

  no_bit : rest ≡ 0 → NoBit word last
  no_bit none bit low = sym (bit_low bit low) ∙ ap (λ (n : ℕ). bit_at n bit) none ∙ bit_at-zero bit

  -- the greatest power of two is the last bit
  last_is : (k : ℕ) → 2 ^ k ≤ rest → rest < 2 * 2 ^ k → IsLastBit word last k
  last_is k least most =
      let pos : 0 < 2 ^ k = one-le-pow k 2 (omega arith) in
      let under : rest / 2 ^ k < 2 = (div-lt_iff_lt-mul pos).1 most in
      let over : 1 ≤ rest / 2 ^ k = (le-div_iff_mul-le pos).1 (omega arith) in
      let one : bit_at rest k ≡ 1 = omega arith in
      let within : k ≤ last = elim (cases_lt last k) [ inl past ↦ absurd (omega (arith, one, bit_high k past)) | inr low ↦ low ] in
      let twice : 2 ^ suc k ≡ 2 ^ k * 2 = pow-suc 2 k in
      record {
        within = within;
        one = sym (bit_low k within) ∙ one;
        rest = λ above more low. sym (bit_low above low) ∙ bit_at_above rest (suc k) above (omega (arith, twice)) (omega arith);
      }

pub word_empty : (word last : ℕ) → last < 64 → bit_and word (18446744073709551615 / 2 ^ (63 - last)) ≡ 0 → NoBit word last
unfolding rest
word_empty word last fits none = no_bit word last fits none

pub word_last : (word last k : ℕ) → last < 64 → 2 ^ k ≤ bit_and word (18446744073709551615 / 2 ^ (63 - last)) → bit_and word (18446744073709551615 / 2 ^ (63 - last)) < 2 * 2 ^ k → IsLastBit word last k
unfolding rest
word_last word last k fits least most = last_is word last fits k least most

-- ---- the last start, word by word

-- the search has come down to `end`: from there on up to `high` no cell begins
pub passed : (words : List ℕ) (end high : ℕ) → 0 < end → NoBit (get_or words ((end - 1) / 64) 0) ((end - 1) % 64) → NoStart words end high → NoStart words (end - 1 - (end - 1) % 64) high
passed words end high some none before k low below = elim (cases_lt k end) [
  | inl here ↦
      let same : k / 64 ≡ (end - 1) / 64 = omega arith in
      let bit : k % 64 ≤ (end - 1) % 64 = omega arith in
      ap (λ (i : ℕ). eqb (bit_at (get_or words i 0) (k % 64)) 1) same ∙ ap (λ (n : ℕ). eqb n 1) (none (k % 64) bit)
  | inr past ↦ before k past below
]

-- the last one of a word
pub found : (words : List ℕ) (low end high bit : ℕ) → low < end → end ≤ high → IsLastBit (get_or words ((end - 1) / 64) 0) ((end - 1) % 64) bit → NoStart words end high
    → low ≤ end - 1 - (end - 1) % 64 + bit → IsLastStart words low high (end - 1 - (end - 1) % 64 + bit)
found words low end high bit some most is before after =
    let within : bit ≤ (end - 1) % 64 = is.within in
    let word : (end - 1 - (end - 1) % 64 + bit) / 64 ≡ (end - 1) / 64 = omega arith in
    let place : (end - 1 - (end - 1) % 64 + bit) % 64 ≡ bit = omega arith in
    record {
      after = after;
      before = omega arith;
      begins = ap (λ (i : ℕ). eqb (bit_at (get_or words i 0) ((end - 1 - (end - 1) % 64 + bit) % 64)) 1) word ∙ ap (λ (i : ℕ). eqb (bit_at (get_or words ((end - 1) / 64) 0) i) 1) place ∙ ap (λ (n : ℕ). eqb n 1) is.one;
      rest = λ k over below. elim (cases_lt k end) [
        | inl here ↦
            let same : k / 64 ≡ (end - 1) / 64 = omega arith in
            ap (λ (i : ℕ). eqb (bit_at (get_or words i 0) (k % 64)) 1) same ∙ ap (λ (n : ℕ). eqb n 1) (is.rest (k % 64) (omega arith) (omega arith))
        | inr past ↦ before k past below
      ];
    }
