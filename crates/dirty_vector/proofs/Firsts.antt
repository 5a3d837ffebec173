-- The first marked or unmarked page from a page on.
use Rattle.std.proofs.Common.{◌≡◌, ◌≢◌, ◌≤◌, ◌<◌, ℕ, zero, suc, ◌+◌, ◌-◌, ◌/◌, ◌^◌, Bool, true, false, not, eqb, refl, sym, ap, ◌∙◌, inl, inr, arith}
use Rattle.std.specs.Int.{w64, bit_at, bit_not, trailing_zeros}
use Rattle.std.proofs.lemmas.Bool.{cases_lt}
use Rattle.std.proofs.lemmas.Nat.Bits.{bit_at-lt, bit_at-zero, bit_at_above, bit_at_not, bit_at-trailing_zeros}
use Rattle.std.proofs.Math.Nat.{div-le_self}
use Rattle.dirty_vector.specs.Marks.{IsFirstBit}
use Rattle.dirty_vector.proofs.Bytes.{bit_from}

-- a bit of what is left of a word
bit_of_rest : (word low bit : ℕ) → low ≤ bit → bit_at word bit ≡ bit_at (word / 2 ^ low) (bit - low)
bit_of_rest word low bit h = let e : bit ≡ low + (bit - low) = omega arith in ap (bit_at word) e ∙ sym (bit_from word low (bit - low))

pub none_from : (word low : ℕ) → low < 64 → word / 2 ^ low ≡ 0 → IsFirstBit word true low 64
none_from word low h none =
    record {
      after = omega arith;
      within = omega arith;
      before = λ bit from to. ap (λ (n : ℕ). eqb n 1) (bit_of_rest word low bit from ∙ ap (λ (n : ℕ). bit_at n (bit - low)) none ∙ bit_at-zero (bit - low));
      here = λ lt. absurd (omega arith);
    }

pub one_from : (word low : ℕ) → low < 64 → word < 2 ^ 64 → word / 2 ^ low ≢ 0 → IsFirstBit word true low (low + trailing_zeros w64 (word / 2 ^ low))
one_from word low h fits some =
    let rest = word / 2 ^ low in
    let small : rest < 2 ^ 64 = omega (arith, div-le_self word (2 ^ low), fits) in
    let pos : 0 < rest = omega (arith, some) in
    let t = bit_at-trailing_zeros w64 rest pos small in
    let zeros = trailing_zeros w64 rest in
    let one : bit_at word (low + zeros) ≡ 1 = sym (bit_from word low zeros) ∙ t.1 in
    let inside : low + zeros < 64 = elim (cases_lt (low + zeros) 64) [
      | inl lt ↦ lt
      | inr le ↦ absurd (omega (arith, one, bit_at_above word 64 (low + zeros) fits le))
    ] in
    record {
      after = omega arith;
      within = omega (arith, inside);
      before = λ bit from to. ap (λ (n : ℕ). eqb n 1) (bit_of_rest word low bit from ∙ t.2 (bit - low) (omega (arith, from, to)));
      here = λ lt. ap (λ (n : ℕ). eqb n 1) one;
    }

flipped : (b : ℕ) → b < 2 → eqb (1 - b) 1 ≡ not (eqb b 1)
flipped zero h = refl
flipped (suc zero) h = refl
flipped (suc (suc b)) h = absurd (omega arith)

twice : (b c : Bool) → not b ≡ c → b ≡ not c
twice true true e = sym e
twice true false e = refl
twice false true e = refl
twice false false e = sym e

pub clear_from : (word low result : ℕ) → word < 2 ^ 64 → IsFirstBit (bit_not w64 word) true low result → IsFirstBit word false low result
clear_from word low result fits first =
    record {
      after = first.after;
      within = first.within;
      before = λ bit from to. twice _ _ (sym (flip bit (omega (arith, to, first.within))) ∙ first.before bit from to);
      here = λ lt. twice _ _ (sym (flip result lt) ∙ first.here lt);
    }
  where
    flip : (bit : ℕ) → bit < 64 → eqb (bit_at (bit_not w64 word) bit) 1 ≡ not (eqb (bit_at word bit) 1)
    flip bit h = ap (λ (n : ℕ). eqb n 1) (bit_at_not w64 word bit fits h) ∙ flipped (bit_at word bit) (bit_at-lt word bit)
