-- The UTF-16 units in the bytes of a value.
use Rattle.std.specs.Prelude.{ℕ, ◌-◌, ◌%◌, ◌==◌, nat_eq, Bool, ◌&&◌, List, [], ◌∷◌, length, take}
use Rattle.std.specs.List.{list_all, ends_with}
use Rattle.std.specs.Int.{w16, from_le_bytes}
use Rattle.reg_names.specs.Printable.{is_printable}

-- the units of bytes: two bytes each, the low one first; an odd last byte is none
abbrev pub units_of : List ℕ → List ℕ
units_of [] = []
units_of (low ∷ []) = []
units_of (low ∷ high ∷ bytes) = from_le_bytes w16 (low ∷ high ∷ []) ∷ units_of bytes

-- bytes are of whole units: their number is even
abbrev pub are_whole : List ℕ → Bool
are_whole bytes = length bytes % 2 == 0

-- the last unit is 0
abbrev pub ends_in_zero : List ℕ → Bool
ends_in_zero bytes = ends_with nat_eq bytes (0 ∷ 0 ∷ [])

-- the bytes without those of the last unit
abbrev pub front_units : List ℕ → List ℕ
front_units bytes = take (length bytes - 2) bytes

-- bytes are a text with its terminator, as quotes can write it: whole units, the last one 0, all others 0x20 to 0x7e
abbrev pub is_plain_text : List ℕ → Bool
is_plain_text bytes = are_whole bytes && ends_in_zero bytes && list_all is_printable (units_of (front_units bytes))
