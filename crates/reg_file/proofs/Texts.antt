-- Whether a line is text.
use Rattle.std.proofs.Common.{◌≡◌, ℕ, Bool, true, false, cond, List, [], ◌∷◌, ◌++◌, map, Option, Some, None, refl, sym, ◌∙◌, ap}
use Rattle.std.specs.Prelude.{IsUtf8, flat_map, chars}
use Rattle.std.specs.Str.{is_utf8}
use Rattle.std.specs.Char.Escape.{encode_utf16}
use Rattle.std.proofs.lemmas.Str.{IsUtf8-from_is_utf8, is_utf8-from_IsUtf8}
use Rattle.reg_file.specs.Lines.{utf8_line, ansi_line, parts, parts_left, encoded_lines, lines_left}
use Rattle.reg_file.specs.declared.lines.Encoding.TheVariants.{Utf8, Ansi}

-- a line that is text
pub text_line : (bytes text front units : List ℕ) → text ≡ bytes → IsUtf8 bytes → front ≡ [] → units ≡ front ++ flat_map encode_utf16 (chars text) → utf8_line bytes ≡ Some units
text_line bytes text front units e h f g =
    ap (λ test. cond test (Some (flat_map encode_utf16 (chars bytes))) None) (is_utf8-from_IsUtf8 bytes h)
    ∙ ap Some (sym (g ∙ ap (λ units. units ++ flat_map encode_utf16 (chars text)) f ∙ ap (λ cs. flat_map encode_utf16 (chars cs)) e))

-- a line that is none
pub no_text_line : (bytes : List ℕ) → (IsUtf8 bytes → ⊥) → utf8_line bytes ≡ None
no_text_line bytes h = test (is_utf8 bytes) refl
  where
    test : (t : Bool) → is_utf8 bytes ≡ t → utf8_line bytes ≡ None
    test true e = absurd (h (IsUtf8-from_is_utf8 bytes e))
    test false e = ap (λ test. cond test (Some (flat_map encode_utf16 (chars bytes))) None) e

-- the lines that are left, by their parts
pub utf8_left : (rest : Option (List ℕ)) → lines_left Utf8 rest ≡ map utf8_line (parts_left rest)
utf8_left None = refl
utf8_left (Some bytes) = refl

pub ansi_left : (rest : Option (List ℕ)) → lines_left Ansi rest ≡ map ansi_line (parts_left rest)
ansi_left None = refl
ansi_left (Some bytes) = refl

-- the first line and what is left, by the parts
pub utf8_first : (bytes first : List ℕ) (rest : Option (List ℕ)) → parts bytes ≡ first ∷ parts_left rest → encoded_lines Utf8 bytes ≡ utf8_line first ∷ lines_left Utf8 rest
utf8_first bytes first rest e = ap (map utf8_line) e ∙ ap (λ lines. utf8_line first ∷ lines) (sym (utf8_left rest))

pub ansi_first : (bytes first : List ℕ) (rest : Option (List ℕ)) → parts bytes ≡ first ∷ parts_left rest → encoded_lines Ansi bytes ≡ ansi_line first ∷ lines_left Ansi rest
ansi_first bytes first rest e = ap (map ansi_line) e ∙ ap (λ lines. ansi_line first ∷ lines) (sym (ansi_left rest))
