-- The text of a tree: its keys in the order of paths, each with its values in the order of names.
use Rattle.std.specs.Prelude.{ℕ, List, [], ◌∷◌, ◌++◌, codes}
use Rattle.std.specs.List.{flat_map}
use Rattle.std.specs.Fmt.{decimal}
use Rattle.std.specs.FinMap as finite
use Rattle.reg_tree_parts.specs.declared.value.Value.{Value}
use Rattle.reg_tree_parts.specs.Rows.{Row}
use Rattle.reg_tree.specs.Maps.{TreeMap}
use Rattle.key_walk.specs.KeyRows.{NamedRow, spelled_names}
use Rattle.reply_lines.specs.Replies.{name_text, data_text}

-- names with a backslash between each two
abbrev pub path_text : List (List ℕ) → List ℕ
path_text [] = []
path_text (name ∷ []) = name_text name
path_text (name ∷ next ∷ names) = name_text name ++ 92 ∷ path_text (next ∷ names)

-- the line of a value: its name, type and data
abbrev pub value_line : Value → List ℕ
value_line value = codes "val " ++ name_text value.name ++ codes " " ++ decimal value.kind ++ codes " " ++ data_text value.«data» ++ codes "\n"

-- the line of a key of a hive, whose path has these names, with the moment of its last write; and after it the lines of
-- its values
abbrev pub key_lines : ℕ → List (List ℕ) → Row → List ℕ
key_lines hive names key =
    codes "key " ++ decimal hive ++ codes ":" ++ path_text names ++ codes " " ++ decimal key.time ++ codes "\n" ++ flat_map value_line (finite.values key.values)

-- the same, of a key as a walk meets it
abbrev pub named_lines : ℕ → NamedRow → List ℕ
named_lines hive key = key_lines hive key.0 key.1

-- the text of a tree as the hive of a number
abbrev pub tree_text : ℕ → TreeMap → List ℕ
tree_text hive tree = codes "hive " ++ decimal hive ++ codes "\n" ++ flat_map (λ entry. key_lines hive (spelled_names tree entry.0) entry.1) (finite.entries tree)
