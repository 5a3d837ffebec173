-- Names in a field between tabs.
use Rattle.std.specs.Prelude.{ℕ, nat_le, nat_lt, ◌==◌, ◌&&◌, ◌||◌, if◌then◌else◌, List, [], ◌∷◌, ◌++◌, length, map, encode_utf8, codes}
use Rattle.std.specs.Str.{bytes_eq}
use Rattle.std.specs.List.{join_with_byte}
use Rattle.std.specs.Char.Utf16.{is_high_surrogate, is_low_surrogate, surrogate_pair_char}
use Rattle.reply_lines.specs.Replies.{unit_text}
use Rattle.reg_export.specs.declared.characters.First.{First}
use Rattle.reg_export.specs.declared.characters.First.TheVariants.{Pair, Single}

-- a unit that is in no pair of surrogates: a blank is itself, a character past ASCII is in UTF-8; any other, and half of a
-- pair, is as in a reply to a script
abbrev pub field_unit : ℕ → List ℕ
field_unit u = if u == 32 then u ∷ [] else (if nat_lt u 128 || (nat_le 0xD800 u && nat_lt u 0xE000) then unit_text u else encode_utf8 u)

-- units, character by character: a pair of surrogates is its character in UTF-8
abbrev pub field_text : List ℕ → List ℕ
field_text [] = []
field_text (u ∷ []) = field_unit u
field_text (u ∷ v ∷ us) = if is_high_surrogate u && is_low_surrogate v then encode_utf8 (surrogate_pair_char u v) ++ field_text us else field_unit u ++ field_text (v ∷ us)

-- a name; the empty one is `@`, and the name `@` itself is spelled by its number
abbrev pub name_field : List ℕ → List ℕ
name_field name = if length name == 0 then codes "@" else (if bytes_eq name (64 ∷ []) then codes "%0040" else field_text name)

-- names with a backslash between each two
abbrev pub path_field : List (List ℕ) → List ℕ
path_field names = join_with_byte 92 (map name_field names)

-- what stands first among units, as a part of their text
abbrev pub first_field : First → List ℕ
first_field (Pair high low) = encode_utf8 (surrogate_pair_char high low)
first_field (Single unit) = field_unit unit
