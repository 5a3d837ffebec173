-- What is parsed of one word is what the grammar says: numbers, keys, names and bytes.
use Rattle.std.proofs.Common.{◌≡◌, ◌≢◌, ℕ, ◌-◌, ◌≤◌, ◌==◌, ◌&&◌, Bool, true, false, cond, List, [], ◌∷◌, ◌++◌, length, Option, Some, None, refl, sym, ◌∙◌, ap, subst, arith, inl, inr}
use Rattle.std.specs.Prelude.{nat_le, nat_lt, codes, replicate}
use Rattle.std.specs.Option.{option_map, option_and_then}
use Rattle.std.specs.List.{AllByRecursion, list_all}
use Rattle.std.specs.Char.{is_ascii_digit, is_ascii_alphanumeric}
use Rattle.std.specs.Str.{bytes_eq}
use Rattle.std.specs.Str.Parse.{digits_value}
use Rattle.std.proofs.lemmas.Option.{none-some, cond_some}
use Rattle.std.proofs.lemmas.List.{append-nil}
use Rattle.std.proofs.lemmas.Slice.Eq.{bytes_eq-Decides}
use Rattle.std.proofs.lemmas.Bool.{and_parts, and_from}
use Rattle.std.proofs.lemmas.Bool.Decides.{nat_tests, Decides-eqb}
use Rattle.hex.specs.Hex.{decode_of}
use Rattle.word_syntax.specs.Parts.{before, behind}
use Rattle.word_syntax.specs.HexBytes.{decoded}
use Rattle.script_syntax.specs.Words.{number_of, data_of, units_of, name_of, placed, key_ref_of, label_of}
use Rattle.script_syntax.specs.declared.label.TheConstants.{LONGEST_LABEL}
use Rattle.script_syntax.specs.Grammar.{IsDecimal, IsKeyRef, IsName, IsData, IsLabel}
use Rattle.script_syntax.specs.declared.line.KeyRef.{KeyRef}
use Rattle.word_syntax.proofs.Cuts.{is_or_not, before_here, before_front, behind_here, behind_front, cut_back}
use Rattle.script_syntax.proofs.ParsedUnits.{map_some, then_some, decoded_ok, read_units, parsed_units}

-- a number by the grammar is parsed
pub read_number : (most : ℕ) (word : List ℕ) (number : ℕ) → IsDecimal word number → number ≤ most → number_of most word ≡ Some number
read_number most word number d h =
    let some : nat_lt 0 (length word) ≡ true = grind (arith, nat_tests, d.some) in
    let within : nat_le (digits_value 10 word) most ≡ true = grind (arith, nat_tests, h, d.value) in
    let all = and_from (nat_lt 0 (length word) && list_all is_ascii_digit word) (nat_le (digits_value 10 word) most) (and_from (nat_lt 0 (length word)) (list_all is_ascii_digit word) some d.digits) within in
    ap (λ test. cond test (Some (digits_value 10 word)) None) all ∙ ap Some (sym d.value)

-- and one that is parsed is a number by the grammar
pub parsed_number : (most : ℕ) (word : List ℕ) (number : ℕ) → number_of most word ≡ Some number → IsDecimal word number × (number ≤ most)
parsed_number most word number e =
    let found = cond_some (nat_lt 0 (length word) && list_all is_ascii_digit word && nat_le (digits_value 10 word) most) (digits_value 10 word) number e in
    let parts = and_parts (nat_lt 0 (length word) && list_all is_ascii_digit word) (nat_le (digits_value 10 word) most) found.0 in
    let front = and_parts (nat_lt 0 (length word)) (list_all is_ascii_digit word) parts.0 in
    let within : digits_value 10 word ≤ most = grind (arith, nat_tests, parts.1) in
    (record { some = grind (arith, nat_tests, front.0); digits = front.1; value = sym found.1 }, subst (λ n. n ≤ most) found.1 within)

no_colon : (b : ℕ) (test : Bool) → (b == 58) ≡ test → is_ascii_digit b ≡ true → test ≡ false
no_colon b true e h = let same = (Decides-eqb b 58).0 e in absurd (differs (subst (λ c. is_ascii_digit c ≡ true) same h))
  where
    differs : false ≡ true → ⊥
    differs bad = cc
no_colon b false e h = refl

digits_without_colon : (digits : List ℕ) → list_all is_ascii_digit digits ≡ true → AllByRecursion (λ b. (b == 58) ≡ false) digits
digits_without_colon [] h = tt
digits_without_colon (d ∷ ds) h =
    let parts = and_parts (is_ascii_digit d) (list_all is_ascii_digit ds) h in
    (no_colon d (d == 58) refl parts.0, digits_without_colon ds parts.1)

-- a key by the grammar is parsed
pub read_place : (word : List ℕ) (key_ref : KeyRef) → IsKeyRef word key_ref → key_ref_of word ≡ Some key_ref
read_place word key_ref p =
    let here : (58 == 58) ≡ true = refl in
    let plain = digits_without_colon p.number p.hive.digits in
    let number : before 58 word ≡ p.number = ap (before 58) p.parsed ∙ before_front 58 p.number (58 ∷ p.text) plain ∙ ap (λ rest. p.number ++ rest) (before_here 58 58 p.text here) ∙ append-nil p.number in
    let text : behind 58 word ≡ Some p.text = ap (behind 58) p.parsed ∙ behind_front 58 p.number (58 ∷ p.text) plain ∙ behind_here 58 58 p.text here in
    ap (λ digits. placed (number_of 255 digits) (option_and_then units_of (behind 58 word))) number
    ∙ ap (λ rest. placed (number_of 255 p.number) (option_and_then units_of rest)) text
    ∙ ap (λ hive. placed hive (units_of p.text)) (read_number 255 p.number key_ref.hive p.hive p.within)
    ∙ ap (λ units. placed (Some key_ref.hive) units) (read_units p.text key_ref.path p.path)

-- and one that is parsed is a key by the grammar
pub parsed_place : (word : List ℕ) (key_ref : KeyRef) → key_ref_of word ≡ Some key_ref → IsKeyRef word key_ref
parsed_place word key_ref e =
    let hive = then_some (λ number. option_map (λ units. record { hive = number; path = units }) (option_and_then units_of (behind 58 word))) (number_of 255 (before 58 word)) key_ref e in
    let path = map_some (λ units. record { hive = hive.0; path = units }) (option_and_then units_of (behind 58 word)) key_ref hive.2 in
    let text = then_some units_of (behind 58 word) path.0 path.1 in
    let number = parsed_number 255 (before 58 word) hive.0 hive.1 in
    subst (IsKeyRef word) path.2 (record {
      number = before 58 word;
      text = text.0;
      parsed = cut_back 58 word text.0 text.1;
      hive = number.0;
      within = number.1;
      path = parsed_units text.0 path.0 text.2;
    })

empty_is : (word : List ℕ) → (length word == 0) ≡ true → word ≡ []
empty_is [] e = refl
empty_is (b ∷ bs) e = absurd (omega (arith, (Decides-eqb (length (b ∷ bs)) 0).0 e))

filled : (word : List ℕ) → word ≢ [] → (length word == 0) ≡ false
filled [] h = absurd (h refl)
filled (b ∷ bs) h = elim (is_or_not (length (b ∷ bs) == 0)) [ inl none ↦ absurd (h (empty_is (b ∷ bs) none)) | inr some ↦ some ]

-- a word is this text or it isn't
differs_from : (word text : List ℕ) → word ≢ text → bytes_eq word text ≡ false
differs_from word text h = elim (is_or_not (bytes_eq word text)) [ inl same ↦ absurd (h ((bytes_eq-Decides word text).0 same)) | inr other ↦ other ]

pub differs_by : (word text : List ℕ) → bytes_eq word text ≡ false → word ≢ text
differs_by word text e same = bad (sym e ∙ (bytes_eq-Decides word text).1 same)
  where
    bad : false ≡ true → ⊥
    bad h = cc

not_empty : (word : List ℕ) → (length word == 0) ≡ false → word ≢ []
not_empty word e same = bad (sym e ∙ ap (λ w. length w == 0) same)
  where
    bad : false ≡ true → ⊥
    bad h = cc

-- a name, as the whole of what a word may be
abbrev name_by : Bool → Bool → List ℕ → Option (List ℕ)
name_by default none word = cond default (Some []) (cond none None (units_of word))

pub read_name : (word units : List ℕ) → IsName word units → name_of word ≡ Some units
read_name word units (inl default) = ap name_of default.0 ∙ ap Some (sym default.1)
read_name word units (inr named) =
    ap (λ test. name_by test (length word == 0) word) (differs_from word (codes "@") named.0) ∙ ap (λ test. name_by false test word) (filled word named.1) ∙ read_units word units named.2

some_none : (units : List ℕ) → Some [] ≡ Some units → units ≡ []
some_none units e = cc

pub parsed_name : (word units : List ℕ) → name_of word ≡ Some units → IsName word units
parsed_name word units e = elim (is_or_not (bytes_eq word (codes "@"))) [
  | inl default ↦
      let same = (bytes_eq-Decides word (codes "@")).0 default in
      inl (same, some_none units (sym (ap name_of same) ∙ e))
  | inr other ↦
      let rest = sym (ap (λ test. name_by test (length word == 0) word) other) ∙ e in
      elim (is_or_not (length word == 0)) [
        | inl none ↦ absurd (none-some units (sym (ap (λ test. name_by false test word) none) ∙ rest))
        | inr some ↦ inr (differs_by word (codes "@") other, not_empty word some, parsed_units word units (sym (ap (λ test. name_by false test word) some) ∙ rest))
      ]
]

abbrev data_by : Bool → Bool → List ℕ → Option (List ℕ)
data_by minus none word = cond minus (Some []) (cond none None (decoded (decode_of word)))

pub read_data : (word bytes : List ℕ) → IsData word bytes → data_of word ≡ Some bytes
read_data word bytes (inl minus) = ap data_of minus.0 ∙ ap Some (sym minus.1)
read_data word bytes (inr pairs) =
    ap (λ test. data_by test (length word == 0) word) (differs_from word (codes "-") pairs.0) ∙ ap (λ test. data_by false test word) (filled word pairs.1) ∙ ap decoded pairs.2

pub parsed_data : (word bytes : List ℕ) → data_of word ≡ Some bytes → IsData word bytes
parsed_data word bytes e = elim (is_or_not (bytes_eq word (codes "-"))) [
  | inl minus ↦
      let same = (bytes_eq-Decides word (codes "-")).0 minus in
      inl (same, some_none bytes (sym (ap data_of same) ∙ e))
  | inr other ↦
      let rest = sym (ap (λ test. data_by test (length word == 0) word) other) ∙ e in
      elim (is_or_not (length word == 0)) [
        | inl none ↦ absurd (none-some bytes (sym (ap (λ test. data_by false test word) none) ∙ rest))
        | inr some ↦ inr (differs_by word (codes "-") other, not_empty word some, decoded_ok (decode_of word) bytes (sym (ap (λ test. data_by false test word) some) ∙ rest))
      ]
]

-- a label by the grammar is parsed
pub read_label : (word label : List ℕ) → IsLabel word label → label_of word ≡ Some label
read_label word label l =
    let some : nat_lt 0 (length word) ≡ true = grind (arith, nat_tests, l.some) in
    let short : nat_le (length word) LONGEST_LABEL ≡ true = grind (arith, nat_tests, l.short) in
    let front = and_from (nat_lt 0 (length word)) (nat_le (length word) LONGEST_LABEL) some short in
    let all = and_from (nat_lt 0 (length word) && nat_le (length word) LONGEST_LABEL) (list_all is_ascii_alphanumeric word) front l.letters in
    ap (λ test. cond test (Some (word ++ replicate (LONGEST_LABEL - length word) 0)) None) all ∙ ap Some (sym l.filled)

-- and one that is parsed is a label by the grammar
pub parsed_label : (word label : List ℕ) → label_of word ≡ Some label → IsLabel word label
parsed_label word label e =
    let found = cond_some (nat_lt 0 (length word) && nat_le (length word) LONGEST_LABEL && list_all is_ascii_alphanumeric word) (word ++ replicate (LONGEST_LABEL - length word) 0) label e in
    let parts = and_parts (nat_lt 0 (length word) && nat_le (length word) LONGEST_LABEL) (list_all is_ascii_alphanumeric word) found.0 in
    let front = and_parts (nat_lt 0 (length word)) (nat_le (length word) LONGEST_LABEL) parts.0 in
    record { some = grind (arith, nat_tests, front.0); short = grind (arith, nat_tests, front.1); letters = parts.1; filled = sym found.1 }
