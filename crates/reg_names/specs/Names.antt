-- Names and paths of keys and values. A name is a list of UTF-16 units, a path a list of key names.
use Rattle.std.specs.Prelude.{◌≡◌, ℕ, ◌-◌, ◌==◌, nat_le, Bool, not, ◌&&◌, if◌then◌else◌, List, [], ◌∷◌, ◌++◌, length, map, Result, Ok, Err}
use Rattle.std.specs.List.{list_all, slice_split}
use Rattle.std.specs.declared.cmp.Ordering.{Ordering}
use Rattle.std.specs.Ordering.{nat_cmp, on}
use Rattle.std.specs.Cmp.Lexicographic.{slice_cmp}
use Rattle.refusals.specs.declared.refusal.Refusal.{Refusal}
use Rattle.refusals.specs.declared.refusal.Refusal.TheVariants.{BadName, TooDeep}
use Rattle.refusals.specs.declared.limits.TheConstants.{MOST_PATH_NAMES, MOST_KEY_NAME_UNITS, MOST_VALUE_NAME_UNITS}

-- a unit folded: a to z become A to Z, every other unit stays
abbrev pub fold_unit : ℕ → ℕ
fold_unit u = if nat_le 97 u && nat_le u 122 then u - 32 else u

-- a name folded, unit by unit
abbrev pub folded : List ℕ → List ℕ
folded name = map fold_unit name

-- a path folded, name by name
abbrev pub folded_path : List (List ℕ) → List (List ℕ)
folded_path path = map folded path

-- names are ordered by their folded units
abbrev pub name_cmp : List ℕ → List ℕ → Ordering
name_cmp = on folded (slice_cmp nat_cmp)

-- paths are ordered name by name, a beginning first
abbrev pub path_cmp : List (List ℕ) → List (List ℕ) → Ordering
path_cmp = slice_cmp name_cmp

-- a unit that a name of a call may have: 0x20 to 0x7e
abbrev pub is_name_unit : ℕ → Bool
is_name_unit u = nat_le 32 u && nat_le u 126

-- a unit that a key name of a call may have: any of these but the backslash
abbrev pub is_key_unit : ℕ → Bool
is_key_unit u = is_name_unit u && not (u == 92)

-- a key name of a call: 1 to 255 of these units
abbrev pub is_key_name : List ℕ → Bool
is_key_name name = nat_le 1 (length name) && nat_le (length name) MOST_KEY_NAME_UNITS && list_all is_key_unit name

-- a value name of a call: 0 to 16,383 units of a name; the empty one is the default value's
abbrev pub is_value_name : List ℕ → Bool
is_value_name name = nat_le (length name) MOST_VALUE_NAME_UNITS && list_all is_name_unit name

-- a path of a call: at most 512 key names
abbrev pub is_path : List (List ℕ) → Bool
is_path path = nat_le (length path) MOST_PATH_NAMES && list_all is_key_name path

-- q is p followed by some list
abbrev pub Begins : List (List ℕ) → List (List ℕ) → Type 0
Begins p q = (rest : List (List ℕ)) × (q ≡ p ++ rest)

-- the names in a path's text: its parts between backslashes; the empty text, which is the root's, has none. Joined by
-- one backslash each they give the text back.
unfoldable pub path_names : List ℕ → List (List ℕ)
path_names [] = []
path_names (u ∷ us) = slice_split (λ v. v == 92) (u ∷ us)

-- what making a name answers, by whether the units may be a name
abbrev pub name_if : Bool → List ℕ → Result (List ℕ) Refusal
name_if may units = if may then Ok units else Err BadName

-- what reading a path's text answers: its names, if each is a key name and they are at most 512; a path of more key
-- names is too deep, any other is a bad name
abbrev pub path_if : Bool → Bool → List (List ℕ) → Result (List (List ℕ)) Refusal
path_if named shallow names = if named then (if shallow then Ok names else Err TooDeep) else Err BadName

abbrev pub path_of : List ℕ → Result (List (List ℕ)) Refusal
path_of text = path_if (list_all is_key_name (path_names text)) (nat_le (length (path_names text)) MOST_PATH_NAMES) (path_names text)
