-- A value, written and parsed.
use Rattle.std.proofs.Common.{◌≡◌, ℕ, ◌<◌, ◌≤◌, ◌^◌, true, ◌&&◌, ◌==◌, List, ◌++◌, length, Some, refl, sym, ◌∙◌, ap, arith, codes}
use Rattle.std.specs.Prelude.{chars}
use Rattle.std.specs.Option.{option_map}
use Rattle.std.specs.Fmt.{decimal}
use Rattle.std.specs.Int.{w32, w64, from_le_bytes, to_le_bytes}
use Rattle.std.proofs.lemmas.Bool.{and_parts, cond_both, eqb-true}
use Rattle.std.proofs.lemmas.Nat.{le_bytes_4, le_bytes_8}
use Rattle.hex.specs.Hex.{IsBytes}
use Rattle.reg_export.specs.ByteUnits.{front_units}
use Rattle.value_syntax.specs.Data.{datum_with, text_data, texts_data}
use Rattle.value_syntax.specs.Printed.{datum_on, datum_text, is_text, is_list, shown_text}
use Rattle.value_syntax.proofs.LineWords.{free_of, on_words}
use Rattle.value_syntax.proofs.NumberText.{decimal_parses}
use Rattle.value_syntax.proofs.HexText.{bytes_parse}
use Rattle.value_syntax.proofs.TextWords.{text_parses, list_parses}

-- a line spells this value
abbrev Parses : ℕ → List ℕ → List ℕ → Type 0
Parses kind bytes line = datum_on line ≡ Some (datum_with kind bytes)

same_datum : (kind other : ℕ) (bytes others : List ℕ) → kind ≡ other → others ≡ bytes → Some (datum_with other others) ≡ Some (datum_with kind bytes)
same_datum kind other bytes others e f = ap (λ k. Some (datum_with k others)) (sym e) ∙ ap (λ list. Some (datum_with kind list)) f

plain : (kind : ℕ) (bytes : List ℕ) → IsBytes bytes → (kind == 1 && is_text bytes) ≡ true → Parses kind bytes (codes "sz " ++ shown_text (front_units bytes))
plain kind bytes small h =
    let parts = and_parts (kind == 1) (is_text bytes) h in
    on_words (codes "sz") (shown_text (front_units bytes)) (free_of 32 (codes "sz") refl) ∙ same_datum kind 1 bytes (text_data (chars (shown_text (front_units bytes)))) (eqb-true kind 1 parts.0) (text_parses bytes parts.1 small)

expanding : (kind : ℕ) (bytes : List ℕ) → IsBytes bytes → (kind == 2 && is_text bytes) ≡ true → Parses kind bytes (codes "expand " ++ shown_text (front_units bytes))
expanding kind bytes small h =
    let parts = and_parts (kind == 2) (is_text bytes) h in
    on_words (codes "expand") (shown_text (front_units bytes)) (free_of 32 (codes "expand") refl) ∙ same_datum kind 2 bytes (text_data (chars (shown_text (front_units bytes)))) (eqb-true kind 2 parts.0) (text_parses bytes parts.1 small)

listed : (kind : ℕ) (bytes : List ℕ) → IsBytes bytes → (kind == 7 && is_list bytes) ≡ true → Parses kind bytes (codes "multi " ++ shown_text (front_units (front_units bytes)))
listed kind bytes small h =
    let parts = and_parts (kind == 7) (is_list bytes) h in
    let text = shown_text (front_units (front_units bytes)) in
    on_words (codes "multi") text (free_of 32 (codes "multi") refl) ∙ same_datum kind 7 bytes (texts_data (chars text)) (eqb-true kind 7 parts.0) (list_parses bytes parts.1 small)

number : (kind : ℕ) (bytes : List ℕ) → IsBytes bytes → (kind == 4 && length bytes == 4) ≡ true → Parses kind bytes (codes "dword " ++ decimal (from_le_bytes w32 bytes))
number kind bytes small h =
    let parts = and_parts (kind == 4) (length bytes == 4) h in
    let n = from_le_bytes w32 bytes in
    let fits : n ≤ 0xffff_ffff = omega (arith, small 0, small 1, small 2, small 3) in
    on_words (codes "dword") (decimal n) (free_of 32 (codes "dword") refl)
    ∙ ap (option_map (λ m. datum_with 4 (to_le_bytes w32 m))) (decimal_parses 0xffff_ffff n (omega (arith, fits)) fits)
    ∙ same_datum kind 4 bytes (to_le_bytes w32 n) (eqb-true kind 4 parts.0) (le_bytes_4 bytes n (eqb-true (length bytes) 4 parts.1) small refl)

wide_number : (kind : ℕ) (bytes : List ℕ) → IsBytes bytes → (kind == 11 && length bytes == 8) ≡ true → Parses kind bytes (codes "qword " ++ decimal (from_le_bytes w64 bytes))
wide_number kind bytes small h =
    let parts = and_parts (kind == 11) (length bytes == 8) h in
    let n = from_le_bytes w64 bytes in
    let fits : n ≤ 0xffff_ffff_ffff_ffff = omega (arith, small 0, small 1, small 2, small 3, small 4, small 5, small 6, small 7) in
    on_words (codes "qword") (decimal n) (free_of 32 (codes "qword") refl)
    ∙ ap (option_map (λ m. datum_with 11 (to_le_bytes w64 m))) (decimal_parses 0xffff_ffff_ffff_ffff n (omega (arith, fits)) fits)
    ∙ same_datum kind 11 bytes (to_le_bytes w64 n) (eqb-true kind 11 parts.0) (le_bytes_8 bytes n (eqb-true (length bytes) 8 parts.1) small refl)

-- what is written of a value spells it
pub datum_parses : (kind : ℕ) (bytes : List ℕ) → kind < 2 ^ 32 → IsBytes bytes → Parses kind bytes (datum_text kind bytes)
datum_parses kind bytes fits small =
    cond_both (kind == 1 && is_text bytes) _ _ (Parses kind bytes) (plain kind bytes small) (λ _.
    cond_both (kind == 2 && is_text bytes) _ _ (Parses kind bytes) (expanding kind bytes small) (λ _.
    cond_both (kind == 7 && is_list bytes) _ _ (Parses kind bytes) (listed kind bytes small) (λ _.
    cond_both (kind == 4 && length bytes == 4) _ _ (Parses kind bytes) (number kind bytes small) (λ _.
    cond_both (kind == 11 && length bytes == 8) _ _ (Parses kind bytes) (wide_number kind bytes small) (λ _.
    bytes_parse kind bytes fits small)))))
