-- The names of a path in a string of JSON, a name longer.
use Rattle.std.proofs.Common.{◌≡◌, ℕ, List, [], ◌∷◌, ◌++◌, Option, refl, sym, ◌∙◌, ap, append_assoc}
use Rattle.std.specs.List.{flat_map, join_with_byte}
use Rattle.std.specs.Io.KnownBytes.{Appends}
use Rattle.std.proofs.lemmas.List.Concat.{flat_map-append}
use Rattle.reply_lines.proofs.Written.{appends_both}
use Rattle.reg_export.specs.UnitForms.{json_unit}

-- some names and one more, with a backslash between
one_more : (name : List ℕ) (names : List (List ℕ)) (last : List ℕ) → join_with_byte 92 ((name ∷ names) ++ last ∷ []) ≡ join_with_byte 92 (name ∷ names) ++ 92 ∷ last
one_more name [] last = refl
one_more name (next ∷ names) last =
    ap (λ t. name ++ 92 ∷ t) (one_more next names last)
    ∙ sym (append_assoc name (92 ∷ join_with_byte 92 (next ∷ names)) (92 ∷ last))

pub behind : (names : List (List ℕ)) (before last : List ℕ) → join_with_byte 92 ((names ++ before ∷ []) ++ last ∷ []) ≡ join_with_byte 92 (names ++ before ∷ []) ++ 92 ∷ last
behind [] before last = refl
behind (name ∷ names) before last = one_more name (names ++ before ∷ []) last

-- a name after others was written, with a backslash between
pub json_behind : (a b c d : Option (List ℕ)) (names : List (List ℕ)) (before last : List ℕ) → Appends a b (flat_map json_unit (join_with_byte 92 (names ++ before ∷ []))) → Appends b c (92 ∷ 92 ∷ []) → Appends c d (flat_map json_unit last) → Appends a d (flat_map json_unit (join_with_byte 92 ((names ++ before ∷ []) ++ last ∷ [])))
json_behind a b c d names before last one two three =
    let text = join_with_byte 92 (names ++ before ∷ []) in
    appends_both a c d (flat_map json_unit text ++ 92 ∷ 92 ∷ []) (flat_map json_unit last) _
    (appends_both a b c (flat_map json_unit text) (92 ∷ 92 ∷ []) _ one two refl) three
    (append_assoc (flat_map json_unit text) (92 ∷ 92 ∷ []) (flat_map json_unit last) ∙ sym (flat_map-append json_unit text (92 ∷ last)) ∙ ap (flat_map json_unit) (sym (behind names before last)))
