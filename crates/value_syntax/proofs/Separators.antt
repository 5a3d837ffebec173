-- Texts with `\0` between each two, character by character.
use Rattle.std.proofs.Common.{◌≡◌, ℕ, Bool, true, false, ◌&&◌, ◌==◌, cond, List, [], ◌∷◌, ◌++◌, refl, sym, ◌∙◌, ap, arith, append_assoc}
use Rattle.std.specs.List.{flat_map}
use Rattle.std.specs.Prelude.{chars, length}
use Rattle.std.specs.Str.{IsUtf8, encode_utf8_all}
use Rattle.std.proofs.lemmas.Str.{encodes-chars, chars-nil}
use Rattle.std.proofs.lemmas.List.{append-nil}
use Rattle.std.proofs.lemmas.List.Concat.{flat_map-append}
use Rattle.value_syntax.specs.Data.{char_bytes, with_zeros, texts_data}
use Rattle.value_syntax.specs.Steps.{held, written_before}

and_none : (b : Bool) → (b && false) ≡ false
and_none true = refl
and_none false = refl

-- a character that isn't the first of `\0`
pub plain_first : (c : ℕ) (rest : List ℕ) → (c == 92) ≡ false → with_zeros (c ∷ rest) ≡ c ∷ with_zeros rest
plain_first c [] h = refl
plain_first c (d ∷ rest) h = ap (λ b. cond (b && (d == 48)) (0 ∷ with_zeros rest) (c ∷ with_zeros (d ∷ rest))) h

-- a character before one that isn't the second of `\0`
pub plain_second : (c d : ℕ) (rest : List ℕ) → (d == 48) ≡ false → with_zeros (c ∷ d ∷ rest) ≡ c ∷ with_zeros (d ∷ rest)
plain_second c d rest h = ap (λ b. cond b (0 ∷ with_zeros rest) (c ∷ with_zeros (d ∷ rest))) (ap (λ b. (c == 92) && b) h ∙ and_none (c == 92))

-- no characters more
pub at_end : (written : List ℕ) (is_held : Bool) → written_before written is_held [] ≡ written ++ flat_map char_bytes (held is_held)
at_end written true = refl
at_end written false = refl

-- some bytes were written, of characters before those that follow
pub goes_on : (old new more rest : List ℕ) → new ≡ old ++ flat_map char_bytes more → new ++ flat_map char_bytes rest ≡ old ++ flat_map char_bytes (more ++ rest)
goes_on old new more rest e =
    ap (λ bytes. bytes ++ flat_map char_bytes rest) e ∙ append_assoc old (flat_map char_bytes more) (flat_map char_bytes rest) ∙ ap (λ bytes. old ++ bytes) (sym (flat_map-append char_bytes more rest))

one_char : (c : ℕ) → char_bytes c ≡ flat_map char_bytes (c ∷ [])
one_char c = sym (append-nil (char_bytes c))

pub char_goes_on : (old new : List ℕ) (c : ℕ) (rest : List ℕ) → new ≡ old ++ char_bytes c → new ++ flat_map char_bytes rest ≡ old ++ flat_map char_bytes (c ∷ rest)
char_goes_on old new c rest e = goes_on old new (c ∷ []) rest (e ∙ ap (λ bytes. old ++ bytes) (one_char c))

-- a `0` after the backslash that is held back
pub zero_after : (old new rest : List ℕ) (is_held : Bool) (c : ℕ) → is_held ≡ true → c ≡ 48 → new ≡ old ++ char_bytes 0 → written_before new false rest ≡ written_before old is_held (c ∷ rest)
zero_after old new rest is_held c h z e =
    char_goes_on old new 0 (with_zeros rest) e
    ∙ ap (λ d. old ++ flat_map char_bytes (cond ((92 == 92) && (d == 48)) (0 ∷ with_zeros rest) (92 ∷ with_zeros (d ∷ rest)))) (sym z)
    ∙ ap (λ b. written_before old b (c ∷ rest)) (sym h)

-- another character: the backslash before it is written
pub released : (old mid rest : List ℕ) (is_held : Bool) (c : ℕ) → (is_held ≡ true → (c == 48) ≡ false) → mid ≡ old ++ flat_map char_bytes (held is_held) → mid ++ flat_map char_bytes (with_zeros (c ∷ rest)) ≡ written_before old is_held (c ∷ rest)
released old mid rest true c h e =
    goes_on old mid (92 ∷ []) (with_zeros (c ∷ rest)) e ∙ ap (λ cs. old ++ flat_map char_bytes cs) (sym (plain_second 92 c rest (h refl)))
released old mid rest false c h e = goes_on old mid [] (with_zeros (c ∷ rest)) e

-- a backslash is held back
pub backslash : (old mid rest : List ℕ) (is_held : Bool) (c : ℕ) → c ≡ 92 → mid ≡ old ++ flat_map char_bytes (held is_held) → written_before mid true rest ≡ written_before old is_held (c ∷ rest)
backslash old mid rest is_held c h e =
    ap (λ d. mid ++ flat_map char_bytes (with_zeros (d ∷ rest))) (sym h) ∙ released old mid rest is_held c (λ _. ap (λ d. d == 48) h) e

-- any other character is written
pub written : (old mid new rest : List ℕ) (is_held : Bool) (c : ℕ) → (is_held ≡ true → (c == 48) ≡ false) → (c == 92) ≡ false → mid ≡ old ++ flat_map char_bytes (held is_held) → new ≡ mid ++ char_bytes c → written_before new false rest ≡ written_before old is_held (c ∷ rest)
written old mid new rest is_held c h plain e f =
    char_goes_on mid new c (with_zeros rest) f ∙ ap (λ cs. mid ++ flat_map char_bytes cs) (sym (plain_first c rest plain)) ∙ released old mid rest is_held c h e

-- a character more
pub one_more : (old new front rest : List ℕ) (before after : Bool) (c : ℕ) → ((more : List ℕ) → written_before new after more ≡ written_before old before (c ∷ more)) → (begin : List ℕ)
    → ((more : List ℕ) → written_before old before more ≡ written_before begin false (front ++ more)) → written_before new after rest ≡ written_before begin false ((front ++ c ∷ []) ++ rest)
one_more old new front rest before after c step begin kept =
    step rest ∙ kept (c ∷ rest) ∙ ap (written_before begin false) (sym (append_assoc front (c ∷ []) rest))

-- a text that isn't empty is texts
pub some_texts : (text : List ℕ) → IsUtf8 text → (length text ≡ 0 → ⊥) → flat_map char_bytes (with_zeros (chars text)) ++ 0 ∷ 0 ∷ 0 ∷ 0 ∷ [] ≡ texts_data (chars text)
some_texts text u some = by_chars (chars text) refl
  where
    by_chars : (cs : List ℕ) → chars text ≡ cs → flat_map char_bytes (with_zeros cs) ++ 0 ∷ 0 ∷ 0 ∷ 0 ∷ [] ≡ texts_data cs
    by_chars [] e = absurd (some (ap length (sym (encodes-chars text u)) ∙ ap (λ cs. length (encode_utf8_all cs)) e))
    by_chars (c ∷ cs) e = refl

-- an empty text is no texts
pub no_texts : (text : List ℕ) → length text ≡ 0 → 0 ∷ 0 ∷ [] ≡ texts_data (chars text)
no_texts [] e = ap texts_data (sym chars-nil)
no_texts (b ∷ bs) e = absurd (omega arith)
