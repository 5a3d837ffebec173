-- Where a path leads: by the longest prefix that it begins with.
use Rattle.std.specs.Prelude.{ℕ, ◌+◌, ◌==◌, nat_lt, Bool, true, false, ◌&&◌, if◌then◌else◌, List, [], ◌∷◌, ◌++◌, length, drop, Option, Some, None}
use Rattle.std.specs.Option.{option_map}
use Rattle.reg_names.specs.Names.{fold_unit}
use Rattle.reg_prefixes.specs.declared.prefix.Prefix.{Prefix}

-- nothing follows, or a backslash
abbrev pub is_parted : List ℕ → Bool
is_parted [] = true
is_parted (unit ∷ rest) = unit == 92

-- a text is the prefix, or begins with the prefix and a backslash, small letters taken as large ones
abbrev pub begins : List ℕ → List ℕ → Bool
begins [] text = is_parted text
begins (unit ∷ prefix) [] = false
begins (unit ∷ prefix) (other ∷ text) = fold_unit unit == fold_unit other && begins prefix text

-- a prefix is longer than another one, if there is another
abbrev pub is_longer : Prefix → Option Prefix → Bool
is_longer prefix None = true
is_longer prefix (Some other) = nat_lt (length other.text.items) (length prefix.text.items)

-- the longer one of a prefix and another, if there is another; the first one if both are as long
abbrev pub longer : Prefix → Option Prefix → Prefix
longer prefix None = prefix
longer prefix (Some other) = if is_longer other (Some prefix) then other else prefix

-- the longest prefix that a text begins with; the first one of those that are as long
abbrev pub longest_in : List Prefix → List ℕ → Option Prefix
longest_in [] text = None
longest_in (prefix ∷ prefixes) text = if begins prefix.text.items text then Some (longer prefix (longest_in prefixes text)) else longest_in prefixes text

-- the path of a key, and of what lies at a path behind it: with a backslash between them, unless one of them is empty
abbrev pub joined_path : List ℕ → List ℕ → List ℕ
joined_path key rest = if length key == 0 then rest else if length rest == 0 then key else key ++ 92 ∷ rest

-- where a prefix leads a text that begins with it: to its hive, and there to the path of its key and of what follows the
-- prefix and a backslash
abbrev pub led_by : List ℕ → Prefix → ℕ × List ℕ
led_by text prefix = (prefix.hive, joined_path prefix.key.items (drop (length prefix.text.items + 1) text))

-- where a text leads: where the longest prefix does that it begins with
abbrev pub place_in : List Prefix → List ℕ → Option (ℕ × List ℕ)
place_in prefixes text = option_map (led_by text) (longest_in prefixes text)

-- a prefix leads to the root of a hive
abbrev pub leads_to_root : ℕ → Prefix → Bool
leads_to_root hive prefix = prefix.hive == hive && length prefix.key.items == 0

-- the first prefix that leads to the root of a hive
abbrev pub shown_in : List Prefix → ℕ → Option (List ℕ)
shown_in [] hive = None
shown_in (prefix ∷ prefixes) hive = if leads_to_root hive prefix then Some prefix.text.items else shown_in prefixes hive
