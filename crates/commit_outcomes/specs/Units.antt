-- How a unit of work is named in a tree.
use Rattle.std.specs.Prelude.{ℕ, nat_le, ◌==◌, ◌&&◌, ◌||◌, Bool, List, length}
use Rattle.std.specs.List.{list_all}
use Rattle.uuid.specs.Text.{lower, hyphenated_text, has_hyphens, digits_of}

-- the name of a unit of work with these 16 bytes: its lower-case hyphenated form, which has 36 units
abbrev pub unit_name : List ℕ → List ℕ
unit_name id = hyphenated_text lower id

-- whether a unit of text is a digit of sixteen in lower case
abbrev pub is_lower_digit : ℕ → Bool
is_lower_digit u = (nat_le 48 u && nat_le u 57) || (nat_le 97 u && nat_le u 102)

-- whether a name is that of some unit of work
abbrev pub is_unit_name : List ℕ → Bool
is_unit_name name = (length name == 36) && (has_hyphens name && list_all is_lower_digit (digits_of name))

-- whether a unit of text is a hyphen or such a digit
abbrev pub is_text_unit : ℕ → Bool
is_text_unit u = (u == 45) || is_lower_digit u
