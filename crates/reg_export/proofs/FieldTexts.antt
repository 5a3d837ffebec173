-- Names in a field between tabs: a character more, and a name more.
use Rattle.std.proofs.Common.{◌≡◌, ◌≢◌, ℕ, ◌<◌, ◌≤◌, Bool, true, false, cond, ◌&&◌, List, [], ◌∷◌, ◌++◌, map, get_or, Option, refl, sym, ◌∙◌, ap, append_assoc, arith}
use Rattle.std.specs.Prelude.{nat_le, nat_lt, encode_utf8}
use Rattle.std.specs.List.{join_with_byte}
use Rattle.std.specs.Char.Utf16.{is_high_surrogate, is_low_surrogate, surrogate_pair_char}
use Rattle.std.specs.Io.KnownBytes.{Appends}
use Rattle.std.proofs.lemmas.Bool.{and_parts, le-leb, lt-ltb, leb-true, ltb-true}
use Rattle.std.proofs.lemmas.List.{append-nil, map-append}
use Rattle.reply_lines.proofs.Written.{appends_both}
use Rattle.reg_export.specs.declared.characters.First.{First}
use Rattle.reg_export.specs.declared.characters.First.TheVariants.{Pair, Single}
use Rattle.reg_export.specs.Characters.{IsFirst, IsSurrogatePair, IsWhole, units_in}
use Rattle.reg_export.specs.Fields.{field_text, field_unit, first_field, name_field, path_field}
use Rattle.reg_export.proofs.Joined.{behind}

no_pair : (u v : ℕ) (t : Bool) → (is_high_surrogate u && is_low_surrogate v) ≡ t → (IsSurrogatePair u v → ⊥) → t ≡ false
no_pair u v false is apart = refl
no_pair u v true is apart =
    let parts = and_parts (is_high_surrogate u) (is_low_surrogate v) is in
    let high = and_parts (nat_le 0xD800 u) (nat_lt u 0xDC00) parts.0 in
    let low = and_parts (nat_le 0xDC00 v) (nat_lt v 0xE000) parts.1 in
    absurd (apart (leb-true _ _ high.0, ltb-true _ _ high.1, leb-true _ _ low.0, ltb-true _ _ low.1))

-- what stands first is written first
pub field_step : (first : First) (rest : List ℕ) → IsFirst first → IsWhole first rest → field_text (units_in first ++ rest) ≡ first_field first ++ field_text rest
field_step (Pair high low) rest is whole = rw (le-leb 0xD800 high is.0, lt-ltb high 0xDC00 is.1, le-leb 0xDC00 low is.2, lt-ltb low 0xE000 is.3) refl
field_step (Single u) [] is whole = sym (append-nil (field_unit u))
field_step (Single u) (v ∷ rest) is whole =
    ap (λ t. cond t (encode_utf8 (surrogate_pair_char u v) ++ field_text rest) (field_unit u ++ field_text (v ∷ rest))) (no_pair u v _ refl whole)

-- a name after others was written, with a backslash between
pub field_behind : (a b c d : Option (List ℕ)) (names : List (List ℕ)) (before last : List ℕ) → Appends a b (path_field (names ++ before ∷ [])) → Appends b c (92 ∷ []) → Appends c d (name_field last) → Appends a d (path_field ((names ++ before ∷ []) ++ last ∷ []))
field_behind a b c d names before last one two three =
    let path = path_field (names ++ before ∷ []) in
    let its = map-append name_field names (before ∷ []) in
    let longer : path_field ((names ++ before ∷ []) ++ last ∷ []) ≡ path ++ 92 ∷ name_field last =
    ap (join_with_byte 92) (map-append name_field (names ++ before ∷ []) (last ∷ [])) ∙ ap (λ (texts : List (List ℕ)). join_with_byte 92 (texts ++ name_field last ∷ [])) its
    ∙ behind (map name_field names) (name_field before) (name_field last) ∙ ap (λ (texts : List (List ℕ)). join_with_byte 92 texts ++ 92 ∷ name_field last) (sym its) in
    appends_both a c d (path ++ 92 ∷ []) (name_field last) _ (appends_both a b c path (92 ∷ []) _ one two refl) three (append_assoc path (92 ∷ []) (name_field last) ∙ sym longer)
