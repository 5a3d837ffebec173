-- Bytes and numbers in hex digits, as the grammar reads them.
use Rattle.std.proofs.Common.{◌≡◌, ℕ, zero, suc, ◌+◌, ◌*◌, ◌/◌, ◌%◌, ◌<◌, ◌≤◌, ◌^◌, true, false, List, [], ◌∷◌, ◌++◌, length, Some, refl, sym, ◌∙◌, subst, arith, append_assoc}
use Rattle.std.specs.Prelude.{◌==◌, slice_index}
use Rattle.std.specs.List.{AllByRecursion}
use Rattle.std.specs.Fmt.{digits, digits_onto, digit_glyph}
use Rattle.std.specs.Int.{w32, to_be_bytes, byte_at}
use Rattle.std.proofs.lemmas.List.{length-append, append-nil}
use Rattle.std.proofs.lemmas.Bool.Decides.{Decides-eqb}
use Rattle.hex.specs.Hex.{encode_lower, encode_with, lower_digits}
use Rattle.reg_names.specs.Printable.{is_printable}
use Rattle.reg_file.specs.Scanning.{digit_of}
use Rattle.reg_file.specs.Grammar.{GoOn, IsNumber, IsPair}
use Rattle.reg_round_trip.proofs.Units.{all_both, by_test, not_both}

-- a fact of each number below a bound, one by one
abbrev AllBelow : ℕ → (ℕ → Type 0) → Type 0
AllBelow zero P = Unit {0}
AllBelow (suc n) P = P zero × AllBelow n (λ d. P (suc d))

below : (n : ℕ) (P : ℕ → Type 0) → AllBelow n P → (d : ℕ) → d < n → P d
below zero P all d h = absurd (omega (arith, h))
below (suc n) P all zero h = all.0
below (suc n) P all (suc d) h = below n (λ e. P (suc e)) all.1 d (omega (arith, h))

-- a unit is the digit of a number
abbrev pub IsDigit : ℕ → ℕ → Type 0
IsDigit unit d = (digit_of unit ≡ Some d) × (is_printable unit ≡ true)

digit_in_table : (d : ℕ) → d < 16 → IsDigit (slice_index lower_digits d) d
digit_in_table = below 16 (λ d. IsDigit (slice_index lower_digits d) d)
    ((refl, refl), ((refl, refl), ((refl, refl), ((refl, refl), ((refl, refl), ((refl, refl), ((refl, refl), ((refl, refl), ((refl, refl), ((refl, refl), ((refl, refl), ((refl, refl), ((refl, refl), ((refl, refl), ((refl, refl), ((refl, refl), tt))))))))))))))))

digit_in_text : (d : ℕ) → d < 16 → IsDigit (digit_glyph false d) d
digit_in_text = below 16 (λ d. IsDigit (digit_glyph false d) d)
    ((refl, refl), ((refl, refl), ((refl, refl), ((refl, refl), ((refl, refl), ((refl, refl), ((refl, refl), ((refl, refl), ((refl, refl), ((refl, refl), ((refl, refl), ((refl, refl), ((refl, refl), ((refl, refl), ((refl, refl), ((refl, refl), tt))))))))))))))))

-- a byte as two digits
pub byte_pair : (b : ℕ) → b < 256 → IsPair (encode_lower (b ∷ [])) b
unfolding encode_with
byte_pair b h = record {
  first = slice_index lower_digits (b / 16);
  second = slice_index lower_digits (b % 16);
  high = b / 16;
  low = b % 16;
  parsed = refl;
  high_is = (digit_in_table (b / 16) (omega (arith, h))).0;
  low_is = (digit_in_table (b % 16) (omega arith)).0;
  value = omega arith;
}

pub bytes_printable : (bytes : List ℕ) → AllByRecursion (λ b. b < 256) bytes → AllByRecursion (λ u. is_printable u ≡ true) (encode_lower bytes)
unfolding encode_with
bytes_printable [] all = tt
bytes_printable (b ∷ bytes) all = ((digit_in_table (b / 16) (omega (arith, all.0))).1, ((digit_in_table (b % 16) (omega arith)).1, bytes_printable bytes all.1))

pub pair_length : (b : ℕ) → length (encode_lower (b ∷ [])) ≡ 2
unfolding encode_with
pair_length b = refl

-- a number goes on with the digits of a byte
pair_goes : (front b : ℕ) (bytes : List ℕ) (n : ℕ) → b < 256 → GoOn (256 * front + b) (encode_lower bytes) n → GoOn front (encode_lower (b ∷ bytes)) n
unfolding encode_with
pair_goes front b bytes n h g =
    let same : 256 * front + b ≡ 16 * (16 * front + b / 16) + b % 16 = omega arith in
    (b / 16, (digit_in_table (b / 16) (omega (arith, h))).0, (b % 16, (digit_in_table (b % 16) (omega arith)).0, subst (λ f. GoOn f (encode_lower bytes) n) same g))

none_goes : (front n : ℕ) → n ≡ front → GoOn front (encode_lower []) n
unfolding encode_with
none_goes front n e = e

pub eight_long : (a b c d : ℕ) → length (encode_lower (a ∷ b ∷ c ∷ d ∷ [])) ≡ 8
unfolding encode_with
eight_long a b c d = refl

-- a number of 32 bits in eight digits
pub eight_digits : (n : ℕ) → n < 2 ^ 32 → IsNumber (encode_lower (to_be_bytes w32 n)) n
eight_digits n h =
    let long = eight_long (byte_at 3 n) (byte_at 2 n) (byte_at 1 n) (byte_at 0 n) in
    let whole : n ≡ 256 * (256 * (256 * (256 * 0 + byte_at 3 n) + byte_at 2 n) + byte_at 1 n) + byte_at 0 n = omega (arith, h) in
    record {
      some = omega (arith, long);
      few = omega (arith, long);
      value = pair_goes 0 (byte_at 3 n) (byte_at 2 n ∷ byte_at 1 n ∷ byte_at 0 n ∷ []) n (omega arith) (pair_goes _ (byte_at 2 n) (byte_at 1 n ∷ byte_at 0 n ∷ []) n (omega arith) (pair_goes _ (byte_at 1 n) (byte_at 0 n ∷ []) n (omega arith) (pair_goes _ (byte_at 0 n) [] n (omega arith) (none_goes _ n whole))));
    }

pub be_bytes : (n : ℕ) → AllByRecursion (λ b. b < 256) (to_be_bytes w32 n)
be_bytes n = (omega arith, (omega arith, (omega arith, (omega arith, tt))))

-- digits of a number without leading zeros
goes_both : (front : ℕ) (ds es : List ℕ) (m n : ℕ) → GoOn front ds m → GoOn m es n → GoOn front (ds ++ es) n
goes_both front [] es m n g h = subst (λ f. GoOn f es n) g h
goes_both front (d ∷ ds) es m n g h = (g.0, g.1, goes_both (16 * front + g.0) ds es m n g.2 h)

-- one less than the digits that there is room for, as the number that has one more
abbrev room : ℕ → ℕ
room zero = 16
room (suc k) = 16 * room k

record Digits (k n : ℕ) (text : List ℕ) : Type 0 where
  some : 0 < length text
  few : length text ≤ suc k
  value : GoOn 0 text n
  printable : AllByRecursion (λ u. is_printable u ≡ true) text

abbrev Written : ℕ → ℕ → List ℕ → List ℕ → Type 0
Written k n whole acc = (text : List ℕ) × (whole ≡ text ++ acc) × Digits k n text

one_digit : (k n : ℕ) (acc : List ℕ) → n < 16 → Written k n (digit_glyph false (n % 16) ∷ acc) acc
one_digit k n acc h =
    let same : n % 16 ≡ n = omega (arith, h) in
    let goes : n ≡ 16 * 0 + n % 16 = omega (arith, h) in
    let is = digit_in_text (n % 16) (omega arith) in
    (digit_glyph false (n % 16) ∷ [], refl, record { some = omega arith; few = omega arith; value = (n % 16, is.0, goes); printable = (is.1, tt) })

one_more : (k n : ℕ) (whole acc : List ℕ) → Written k (n / 16) whole (digit_glyph false (n % 16) ∷ acc) → Written (suc k) n whole acc
one_more k n whole acc w =
    let is = digit_in_text (n % 16) (omega arith) in
    let d = w.2 in
    let long = length-append w.0 (digit_glyph false (n % 16) ∷ []) in
    let goes : n ≡ 16 * (n / 16) + n % 16 = omega arith in (
      w.0 ++ digit_glyph false (n % 16) ∷ [],
      w.1 ∙ sym (append_assoc w.0 (digit_glyph false (n % 16) ∷ []) acc),
      record { some = omega (arith, long); few = omega (arith, long, d.few); value = goes_both 0 w.0 (digit_glyph false (n % 16) ∷ []) (n / 16) n d.value (n % 16, is.0, goes); printable = all_both (λ u. is_printable u ≡ true) w.0 (digit_glyph false (n % 16) ∷ []) d.printable (is.1, tt) },
    )

-- with another digit to the left, unless that would be a zero
digits_written : (k fuel n : ℕ) (acc : List ℕ) → k ≤ fuel → n < room k → Written k n (digits_onto (suc fuel) 16 false n acc) acc
digits_written zero fuel n acc l h =
    by_test (λ whole. Written zero n whole acc) (n / 16 == 0) (digit_glyph false (n % 16) ∷ acc) (digits_onto fuel 16 false (n / 16) (digit_glyph false (n % 16) ∷ acc))
    (λ e. one_digit zero n acc h) (λ e. absurd (not_both (n / 16 == 0) ((Decides-eqb (n / 16) 0).1 (omega (arith, h))) e))
digits_written (suc k) zero n acc l h = absurd (omega (arith, l))
digits_written (suc k) (suc fuel) n acc l h =
    by_test (λ whole. Written (suc k) n whole acc) (n / 16 == 0) (digit_glyph false (n % 16) ∷ acc) (digits_onto (suc fuel) 16 false (n / 16) (digit_glyph false (n % 16) ∷ acc))
    (λ e. let zero_left = (Decides-eqb (n / 16) 0).0 e in one_digit (suc k) n acc (omega (arith, zero_left)))
    (λ e. one_more k n _ acc (digits_written k fuel (n / 16) (digit_glyph false (n % 16) ∷ acc) (omega (arith, l)) (omega (arith, h))))

-- the number of a type in hex digits
pub kind_digits : (n : ℕ) → n < 2 ^ 32 → IsNumber (digits 16 false n) n × AllByRecursion (λ u. is_printable u ≡ true) (digits 16 false n)
unfolding digits
kind_digits n h =
    let w = digits_written 7 63 n [] (omega arith) h in
    let same : digits_onto 64 16 false n [] ≡ w.0 = w.1 ∙ append-nil w.0 in
    let d = w.2 in
    (subst (λ t. IsNumber t n) (sym same) (record { some = d.some; few = d.few; value = d.value }), subst (AllByRecursion (λ u. is_printable u ≡ true)) (sym same) d.printable)
