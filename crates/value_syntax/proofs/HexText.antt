-- Bytes of a type, written and parsed.
use Rattle.std.proofs.Common.{◌≡◌, ℕ, zero, suc, ◌-◌, ◌*◌, ◌/◌, ◌%◌, ◌^◌, ◌<◌, false, ◌==◌, cond, if◌then◌else◌, List, [], ◌∷◌, ◌++◌, length, take, drop, Some, None, refl, sym, ◌∙◌, ap, arith, codes, length-append, append_assoc}
use Rattle.std.specs.Prelude.{slice_index}
use Rattle.std.specs.Option.{option_map, option_and_then}
use Rattle.std.specs.List.{slice_split, onto_first, AllByRecursion}
use Rattle.std.specs.Fmt.{digits}
use Rattle.std.specs.Str.{bytes_eq}
use Rattle.std.proofs.lemmas.Bool.{cond_both, eqb-true, ne_eqb}
use Rattle.std.proofs.lemmas.List.{append-nil}
use Rattle.std.proofs.Math.Seq.{take-append_seam, drop-append_seam}
use Rattle.hex.specs.Hex.{encode_with, encode_lower, lower_digits, decode_of, IsBytes}
use Rattle.hex.proofs.HexLemmas.{decode_of-encode_lower, length-encode_with}
use Rattle.word_syntax.specs.HexBytes.{decoded}
use Rattle.value_syntax.specs.declared.type_word.TypeWord.TheVariants.{Bytes}
use Rattle.value_syntax.specs.TypeWords.{type_of, without_end, kind_of}
use Rattle.value_syntax.specs.Data.{datum_in, datum_with, hex_bytes, all_pair_bytes, pair_bytes}
use Rattle.value_syntax.specs.Printed.{datum_on, hex_word}
use Rattle.value_syntax.proofs.LineWords.{HasNoBlank, free_of, on_words}
use Rattle.value_syntax.proofs.NumberText.{kind_parses, no_blank, hex_digits}

-- no element is a comma
abbrev NoComma : List ℕ → Type 0
NoComma text = AllByRecursion (λ c. (c == 44) ≡ false) text

at_place : (text : List ℕ) (i : ℕ) → NoComma text → (slice_index text i == 44) ≡ false
at_place [] i h = refl
at_place (c ∷ text) zero h = h.0
at_place (c ∷ text) (suc i) h = at_place text i h.1

table : NoComma lower_digits
table = free_of 44 lower_digits refl

digits_have_none : (bytes : List ℕ) → NoComma (encode_lower bytes)
unfolding encode_with
digits_have_none [] = tt
digits_have_none (b ∷ bytes) = (at_place lower_digits (b / 16) table, (at_place lower_digits (b % 16) table, digits_have_none bytes))

one_part : (text : List ℕ) → NoComma text → slice_split (λ c. c == 44) text ≡ text ∷ []
one_part [] h = refl
one_part (c ∷ text) h =
    ap (λ t. cond t ([] ∷ slice_split (λ b. b == 44) text) (onto_first c (slice_split (λ b. b == 44) text))) h.0 ∙ ap (onto_first c) (one_part text h.1)

no_digits_parse : hex_bytes (encode_lower []) ≡ Some []
unfolding encode_with
no_digits_parse = refl

-- the pairs of digits of bytes parse to the bytes
pub digits_parse : (bytes : List ℕ) → IsBytes bytes → hex_bytes (encode_lower bytes) ≡ Some bytes
digits_parse [] h = no_digits_parse
digits_parse (b ∷ bytes) h =
    let text = encode_lower (b ∷ bytes) in
    let len : length text ≡ 2 * length (b ∷ bytes) = length-encode_with lower_digits (b ∷ bytes) in
    let some : (length text == 0) ≡ false = ne_eqb (length text) 0 (λ e. absurd (omega (arith, len, e))) in
    let part : pair_bytes text ≡ Some (b ∷ bytes) = ap (λ t. if t then None else decoded (decode_of text)) some ∙ ap decoded (decode_of-encode_lower (b ∷ bytes) h) in
    ap (λ t. if t then Some [] else all_pair_bytes (slice_split (λ c. c == 44) text)) some ∙ ap all_pair_bytes (one_part text (digits_have_none (b ∷ bytes)))
    ∙ ap (λ o. option_and_then (λ front. option_map (λ rest. front ++ rest) (Some [])) o) part ∙ ap (λ list. Some list) (append-nil (b ∷ bytes))

-- what stands before the closing bracket
before_bracket : (ds : List ℕ) → without_end (codes ")") (ds ++ codes ")") ≡ Some ds
before_bracket ds =
    let word = ds ++ codes ")" in
    let at : length word - 1 ≡ length ds = omega (arith, length-append ds (codes ")")) in
    ap (λ n. if bytes_eq (drop n word) (codes ")") then Some (take n word) else None) at
    ∙ ap (λ end. if bytes_eq end (codes ")") then Some (take (length ds) word) else None) (drop-append_seam ds (codes ")"))
    ∙ ap (λ list. Some list) (take-append_seam ds (codes ")"))

-- the word of a type with a number in brackets
bracket_word : (kind : ℕ) → kind < 2 ^ 32 → type_of (codes "hex(" ++ (digits 16 false kind ++ codes ")")) ≡ Some (Bytes kind)
bracket_word kind small =
    ap (λ ds. option_map (λ k. Bytes k) (option_and_then kind_of ds)) (before_bracket (digits 16 false kind)) ∙ ap (λ o. option_map (λ k. Bytes k) o) (kind_parses kind small)

pub bytes_parse : (kind : ℕ) (bytes : List ℕ) → kind < 2 ^ 32 → IsBytes bytes → datum_on (hex_word kind ++ codes " " ++ encode_lower bytes) ≡ Some (datum_with kind bytes)
bytes_parse kind bytes small h =
    cond_both (kind == 3) (codes "hex") (codes "hex(" ++ digits 16 false kind ++ codes ")") (λ word. datum_on (word ++ codes " " ++ encode_lower bytes) ≡ Some (datum_with kind bytes))
    (λ three. short (eqb-true kind 3 three)) (λ _. long)
  where
    short : kind ≡ 3 → datum_on (codes "hex" ++ codes " " ++ encode_lower bytes) ≡ Some (datum_with kind bytes)
    short three = on_words (codes "hex") (encode_lower bytes) (free_of 32 (codes "hex") refl) ∙ ap (option_map (datum_with 3)) (digits_parse bytes h) ∙ ap (λ k. Some (datum_with k bytes)) (sym three)

    long : datum_on (codes "hex(" ++ digits 16 false kind ++ codes ")" ++ codes " " ++ encode_lower bytes) ≡ Some (datum_with kind bytes)
    long =
        let ds = digits 16 false kind in
        let word = codes "hex(" ++ (ds ++ codes ")") in
        let blank_free : HasNoBlank word = (refl, (refl, (refl, (refl, no_blank ds (codes ")") (hex_digits kind small) (free_of 32 (codes ")") refl))))) in
        let same : ((codes "hex(" ++ ds) ++ codes ")" ++ codes " ") ++ encode_lower bytes ≡ word ++ 32 ∷ encode_lower bytes =
        append_assoc (codes "hex(" ++ ds ++ codes ")") (codes " ") (encode_lower bytes) ∙ ap (λ t. t ++ 32 ∷ encode_lower bytes) (append_assoc (codes "hex(") ds (codes ")")) in
        ap datum_on same ∙ on_words word (encode_lower bytes) blank_free
        ∙ ap (option_and_then (λ type. datum_in type (encode_lower bytes))) (bracket_word kind small) ∙ ap (option_map (datum_with kind)) (digits_parse bytes h)
