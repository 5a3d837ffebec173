-- The text of a path, a name longer.
use Rattle.std.proofs.Common.{◌≡◌, ℕ, ◌<◌, List, [], ◌∷◌, ◌++◌, length, Option, refl, sym, ◌∙◌, ap, arith, append_assoc, length-append}
use Rattle.std.specs.Io.KnownBytes.{Appends}
use Rattle.std.specs.List.{flat_map}
use Rattle.std.proofs.lemmas.List.{append-nil}
use Rattle.reply_lines.specs.Replies.{name_text}
use Rattle.reply_lines.proofs.Written.{appends_both}
use Rattle.tree_printer.specs.TreeTexts.{path_text}

-- some names and one more, with a backslash between
one_more : (name : List ℕ) (names : List (List ℕ)) (last : List ℕ) → path_text ((name ∷ names) ++ last ∷ []) ≡ path_text (name ∷ names) ++ (92 ∷ name_text last)
one_more name [] last = refl
one_more name (next ∷ names) last =
    ap (λ t. name_text name ++ 92 ∷ t) (one_more next names last)
    ∙ sym (append_assoc (name_text name) (92 ∷ path_text (next ∷ names)) (92 ∷ name_text last))

behind : (names : List (List ℕ)) (last : List ℕ) → 0 < length names → path_text (names ++ last ∷ []) ≡ path_text names ++ (92 ∷ name_text last)
behind [] last some = absurd (omega arith)
behind (name ∷ names) last some = one_more name names last

-- a name after others was written, with a backslash between
pub written_behind : (a b c d : Option (List ℕ)) (names : List (List ℕ)) (before last : List ℕ) → Appends a b (path_text (names ++ before ∷ [])) → Appends b c (92 ∷ []) → Appends c d (name_text last) → Appends a d (path_text ((names ++ before ∷ []) ++ last ∷ []))
written_behind a b c d names before last one two three =
    appends_both a c d (path_text (names ++ before ∷ []) ++ 92 ∷ []) (name_text last) (path_text ((names ++ before ∷ []) ++ last ∷ []))
    (appends_both a b c (path_text (names ++ before ∷ [])) (92 ∷ []) (path_text (names ++ before ∷ []) ++ 92 ∷ []) one two refl) three
    (append_assoc (path_text (names ++ before ∷ [])) (92 ∷ []) (name_text last) ∙ sym (behind (names ++ before ∷ []) last (omega (arith, length-append names (before ∷ [])))))

-- the first name, and each other one after a backslash
pub first_and_others : (name : List ℕ) (names : List (List ℕ)) → name_text name ++ flat_map (λ n. 92 ∷ name_text n) names ≡ path_text (name ∷ names)
first_and_others name [] = append-nil (name_text name)
first_and_others name (next ∷ names) = ap (λ t. name_text name ++ 92 ∷ t) (first_and_others next names)
