-- What a sink that prints a registration file did.
use Rattle.std.proofs.Common.{◌≡◌, ℕ, true, List, [], ◌++◌, Option, refl, sym, subst, ◌∙◌, ap, append_assoc}
use Rattle.std.specs.List.{flat_map}
use Rattle.std.specs.Int.{w16, to_le_bytes}
use Rattle.std.specs.Io.KnownBytes.{Appends}
use Rattle.std.specs.Char.Utf16.{utf16_chars}
use Rattle.std.proofs.lemmas.Str.{utf16_chars-nil}
use Rattle.std.proofs.lemmas.List.Concat.{flat_map-append}
use Rattle.reply_lines.proofs.Written.{appends_both, appends_nothing}
use Rattle.key_walk.specs.KeyRows.{NamedRow}
use Rattle.reg_export.specs.declared.encoding.Encoding.{Encoding}
use Rattle.reg_export.specs.declared.encoding.Encoding.TheVariants.{Utf8, Utf16}
use Rattle.reg_export.specs.Encodings.{can_encode, char_bytes, encoded, mark, Prints, PrintsFile}
use Rattle.reg_export.specs.CharLaws.{chars_both, are_chars_both, are_chars_none}
use Rattle.reg_export.specs.RegTexts.{reg_key_lines}

-- an encoding that has bytes for some units, and for others, has some for both
can_both : (encoding : Encoding) (front back : List ℕ) → can_encode encoding front ≡ true → can_encode encoding back ≡ true → can_encode encoding (front ++ back) ≡ true
can_both Utf8 front back f b = are_chars_both front back f b
can_both Utf16 front back f b = refl

-- the bytes of units are those of their parts
encoded_both : (encoding : Encoding) (front back : List ℕ) → can_encode encoding front ≡ true → encoded encoding (front ++ back) ≡ encoded encoding front ++ encoded encoding back
encoded_both Utf8 front back f = ap (flat_map char_bytes) (chars_both front back f) ∙ flat_map-append char_bytes (utf16_chars front) (utf16_chars back)
encoded_both Utf16 front back f = flat_map-append (to_le_bytes w16) front back

-- no units were printed
pub prints_nothing : (encoding : Encoding) (known : Option (List ℕ)) → Prints encoding known known []
prints_nothing Utf8 known = (are_chars_none, subst (Appends known known) (sym (ap (flat_map char_bytes) utf16_chars-nil)) (appends_nothing known))
prints_nothing Utf16 known = (refl, appends_nothing known)

-- some units were printed, and then others
pub prints_both : (encoding : Encoding) (old mid new : Option (List ℕ)) (front back whole : List ℕ) → Prints encoding old mid front → Prints encoding mid new back → front ++ back ≡ whole → Prints encoding old new whole
prints_both encoding old mid new front back whole one two e = (
  subst (λ (units : List ℕ). can_encode encoding units ≡ true) e (can_both encoding front back one.0 two.0),
  appends_both old mid new (encoded encoding front) (encoded encoding back) (encoded encoding whole) one.1 two.1 (sym (encoded_both encoding front back one.0) ∙ ap (encoded encoding) e),
)

-- a mark was printed, and then units
pub file_begun : (encoding : Encoding) (old mid new : Option (List ℕ)) (units : List ℕ) → Appends old mid (mark encoding) → Prints encoding mid new units → PrintsFile encoding old new units
file_begun encoding old mid new units one two = (two.0, appends_both old mid new (mark encoding) (encoded encoding units) _ one two.1 refl)

-- the beginning of a file was printed, and then units
pub file_both : (encoding : Encoding) (old mid new : Option (List ℕ)) (front back whole : List ℕ) → PrintsFile encoding old mid front → Prints encoding mid new back → front ++ back ≡ whole → PrintsFile encoding old new whole
file_both encoding old mid new front back whole one two e = (
  subst (λ (units : List ℕ). can_encode encoding units ≡ true) e (can_both encoding front back one.0 two.0),
  appends_both old mid new (mark encoding ++ encoded encoding front) (encoded encoding back) _ one.1 two.1
      (append_assoc (mark encoding) (encoded encoding front) (encoded encoding back) ∙ ap (λ (t : List ℕ). mark encoding ++ t) (sym (encoded_both encoding front back one.0) ∙ ap (encoded encoding) e)),
)

-- the lines of these keys were printed, behind a prefix; writer, encoding and prefix stay
abbrev pub RegPrinted : {Writer : Type 0} → Option (List ℕ) → Option (List ℕ) → Encoding → Encoding → List ℕ → List ℕ → Writer → Writer → List NamedRow → Type 0
RegPrinted before after encoding kept prefix stays writer same keys =
    Prints encoding before after (flat_map (reg_key_lines prefix) keys) × (kept ≡ encoding) × (stays ≡ prefix) × (same ≡ writer)

pub reg_printed_none : {Writer : Type 0} (contents : Option (List ℕ)) (encoding : Encoding) (prefix : List ℕ) (writer : Writer) → RegPrinted contents contents encoding encoding prefix prefix writer writer []
reg_printed_none contents encoding prefix writer = (prints_nothing encoding contents, refl, refl, refl)

pub reg_printed_more : {Writer : Type 0} (before between after : Option (List ℕ)) (encoding kept last : Encoding) (prefix stays ends : List ℕ) (writer same end : Writer) (front rest : List NamedRow)
    → RegPrinted before between encoding kept prefix stays writer same front → RegPrinted between after kept last stays ends same end rest → RegPrinted before after encoding last prefix ends writer end (front ++ rest)
reg_printed_more before between after encoding kept last prefix stays ends writer same end front rest one two = (
  prints_both encoding before between after _ _ _ one.0 (subst (λ e. Prints e between after (flat_map (reg_key_lines prefix) rest)) one.1 (subst (λ p. Prints kept between after (flat_map (reg_key_lines p) rest)) one.2 two.0)) (sym (flat_map-append (reg_key_lines prefix) front rest)),
  two.1 ∙ one.1,
  two.2 ∙ one.2,
  two.3 ∙ one.3,
)
