-- The lines of a file, each as its units, or as none if it isn't well formed in the file's encoding.
use Rattle.std.specs.Prelude.{ℕ, ◌+◌, ◌*◌, ◌==◌, nat_eq, drop, Bool, false, if◌then◌else◌, List, [], ◌∷◌, ◌++◌, map, Option, Some, None, flat_map, chars}
use Rattle.std.specs.Str.{is_utf8}
use Rattle.std.specs.Char.Escape.{encode_utf16}
use Rattle.std.specs.List.{slice_split, starts_with}
use Rattle.reg_file.specs.CodePage.{ansi_unit}
use Rattle.reg_file.specs.Headers.{is_old_header}
use Rattle.reg_file.specs.declared.lines.Encoding.{Encoding}
use Rattle.reg_file.specs.declared.lines.Encoding.TheVariants.{Utf8, Utf16, Ansi}

-- a line of UTF-8 in units of UTF-16
abbrev pub utf8_line : List ℕ → Option (List ℕ)
utf8_line bytes = if is_utf8 bytes then Some (flat_map encode_utf16 (chars bytes)) else None

-- a line of the code page: each byte is a unit
abbrev pub ansi_line : List ℕ → Option (List ℕ)
ansi_line bytes = Some (map ansi_unit bytes)

-- what stands between line feeds
abbrev pub parts : List ℕ → List (List ℕ)
parts bytes = slice_split (λ byte. byte == 10) bytes

-- units in front of the first line
abbrev pub onto_lines : List ℕ → List (Option (List ℕ)) → List (Option (List ℕ))
onto_lines front [] = []
onto_lines front (None ∷ lines) = None ∷ lines
onto_lines front (Some line ∷ lines) = Some (front ++ line) ∷ lines

-- a unit of two bytes, the low one first
abbrev pub unit_of : ℕ → ℕ → ℕ
unit_of low high = low + 256 * high

-- units as they stand; an odd last byte makes the last line none
abbrev pub utf16_lines : List ℕ → List (Option (List ℕ))
utf16_lines [] = Some [] ∷ []
utf16_lines (low ∷ []) = None ∷ []
utf16_lines (low ∷ high ∷ bytes) = if unit_of low high == 10 then Some [] ∷ utf16_lines bytes else onto_lines (unit_of low high ∷ []) (utf16_lines bytes)

abbrev pub encoded_lines : Encoding → List ℕ → List (Option (List ℕ))
encoded_lines Utf8 bytes = map utf8_line (parts bytes)
encoded_lines Utf16 bytes = utf16_lines bytes
encoded_lines Ansi bytes = map ansi_line (parts bytes)

-- the lines that are left
abbrev pub lines_left : Encoding → Option (List ℕ) → List (Option (List ℕ))
lines_left encoding None = []
lines_left encoding (Some bytes) = encoded_lines encoding bytes

-- the parts that are left
abbrev pub parts_left : Option (List ℕ) → List (List ℕ)
parts_left None = []
parts_left (Some bytes) = parts bytes

-- the first part is the header of the old form
abbrev pub is_ansi_by : List (List ℕ) → Bool
is_ansi_by [] = false
is_ansi_by (part ∷ others) = is_old_header (map ansi_unit part)

abbrev pub is_ansi : List ℕ → Bool
is_ansi bytes = is_ansi_by (parts bytes)

-- the lines of a file: UTF-16 and UTF-8 behind their marks; without a mark the code page, if the first line is the header
-- of the old form, else UTF-8
abbrev pub file_lines : List ℕ → List (Option (List ℕ))
file_lines bytes =
    if starts_with nat_eq bytes (255 ∷ 254 ∷ []) then encoded_lines Utf16 (drop 2 bytes)
    else if starts_with nat_eq bytes (239 ∷ 187 ∷ 191 ∷ []) then encoded_lines Utf8 (drop 3 bytes)
    else if is_ansi bytes then encoded_lines Ansi bytes
    else encoded_lines Utf8 bytes

-- the last line is none
abbrev pub last_is_none : List (Option (List ℕ)) → List (Option (List ℕ))
last_is_none [] = []
last_is_none (line ∷ []) = None ∷ []
last_is_none (line ∷ next ∷ lines) = line ∷ last_is_none (next ∷ lines)

-- the lines of units
abbrev pub unit_lines : List ℕ → List (Option (List ℕ))
unit_lines units = map Some (parts units)
