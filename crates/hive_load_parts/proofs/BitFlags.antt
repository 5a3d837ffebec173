-- Flags that are kept as bits.
use Rattle.std.proofs.Common.{◌≡◌, ◌≢◌, ◌⊎◌, ℕ, ◌*◌, ◌/◌, ◌%◌, ◌^◌, ◌<◌, ◌≤◌, true, false, List, length, get_or, set, refl, sym, ap, ◌∙◌, inl, inr, arith, bit_or, slice_index_or, eqb, zero, suc, replicate}
use Rattle.std.specs.Int.{bit_at}
use Rattle.std.proofs.lemmas.Bool.{cases_lt, cases_eq}
use Rattle.std.proofs.lemmas.List.{length-set, get_or-set_same, get_or-set_other, get_or_past, ext_get_or}
use Rattle.std.proofs.lemmas.List.FromFn.{length-map-range_with_len, get_or-map-range_with_len}
use Rattle.std.proofs.lemmas.Nat.Bits.{bit_at-zero}
use Rattle.hive_cells.specs.Starts.{SetsStartBit}
use Rattle.hive_cells.proofs.Bits.{put_one}
use Rattle.hive_load_parts.specs.Bits.{bit_of, bits_of}

pub length_bits : (words : List ℕ) → length (bits_of words) ≡ 64 * length words
length_bits words = length-map-range_with_len (bit_of words) 0 (64 * length words)

-- past the last word no bit is set
pub bit_past : (words : List ℕ) (slot : ℕ) → length words ≤ slot / 64 → bit_of words slot ≡ false
bit_past words slot h = ap (λ (w : ℕ). eqb (bit_at w (slot % 64)) 1) (get_or_past words (slot / 64) 0 h) ∙ ap (λ (b : ℕ). eqb b 1) (bit_at-zero (slot % 64))

pub flag_is : (words : List ℕ) (slot : ℕ) → slice_index_or (bits_of words) slot false ≡ bit_of words slot
flag_is words slot = elim (cases_lt slot (64 * length words)) [
  | inl lt ↦ get_or-map-range_with_len (bit_of words) 0 (64 * length words) slot slot false lt (omega arith)
  | inr ge ↦ get_or_past (bits_of words) slot false (let e = length_bits words in omega (arith, e, ge)) ∙ sym (bit_past words slot (omega (arith, ge)))
]

pub flag_set : (words : List ℕ) (slot : ℕ) → slot < length (bits_of words) →
    bits_of (set words (slot / 64) (bit_or (get_or words (slot / 64) 0) (1 * 2 ^ (slot % 64) % 18446744073709551616))) ≡ set (bits_of words) slot true
flag_set words slot h =
    let within : slot < 64 * length words = (let e = length_bits words in omega (arith, e, h)) in
    let put : SetsStartBit words new slot true = put_one words slot true refl within in
    ext_get_or false (bits_of new) (set (bits_of words) slot true)
    (length_bits new ∙ ap (λ n. 64 * n) put.len ∙ sym (length_bits words) ∙ sym (length-set (bits_of words) slot true))
    (λ k lt. flag_is new k ∙ by_slot put k (cases_eq k slot))
  where
    new : List ℕ
    new = set words (slot / 64) (bit_or (get_or words (slot / 64) 0) (1 * 2 ^ (slot % 64) % 18446744073709551616))

    by_slot : SetsStartBit words (set words (slot / 64) (bit_or (get_or words (slot / 64) 0) (1 * 2 ^ (slot % 64) % 18446744073709551616))) slot true → (k : ℕ) → (k ≡ slot) ⊎ (k ≢ slot) →
        bit_of (set words (slot / 64) (bit_or (get_or words (slot / 64) 0) (1 * 2 ^ (slot % 64) % 18446744073709551616))) k ≡ get_or (set (bits_of words) slot true) k false
    by_slot put k (inl e) = ap (bit_of (set words (slot / 64) (bit_or (get_or words (slot / 64) 0) (1 * 2 ^ (slot % 64) % 18446744073709551616)))) e ∙ put.here
        ∙ sym (get_or-set_same (bits_of words) slot true false h) ∙ ap (λ i. get_or (set (bits_of words) slot true) i false) (sym e)
    by_slot put k (inr n) = put.others k n ∙ sym (flag_is words k) ∙ sym (get_or-set_other (bits_of words) slot k true false n)

-- words of zeros have no bit set
pub no_bit : (words : List ℕ) → ((i : ℕ) → get_or words i 0 ≡ 0) → (slot : ℕ) → bit_of words slot ≡ false
no_bit words zeros slot = ap (λ (w : ℕ). eqb (bit_at w (slot % 64)) 1) (zeros (slot / 64)) ∙ ap (λ (b : ℕ). eqb b 1) (bit_at-zero (slot % 64))

pub zero_at : (n i : ℕ) → ◌≡◌ {A = ℕ} (get_or (replicate n 0) i 0) 0
zero_at zero i = refl
zero_at (suc n) zero = refl
zero_at (suc n) (suc i) = zero_at n i
