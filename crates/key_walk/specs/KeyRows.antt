-- The keys of a tree in the order in which a walk meets them.
use Rattle.std.specs.Prelude.{ℕ, List, [], ◌∷◌, ◌++◌, map, Option, Some, None}
use Rattle.std.specs.FinMap as finite
use Rattle.reg_tree_parts.specs.Rows.{Row}
use Rattle.reg_tree_parts.specs.Nodes.{Entries, row_at}
use Rattle.reg_tree.specs.Maps.{TreeMap, row, beginnings}

-- a key as a walk meets it: the names that lead to it from the root on, each as it is spelled, and its row
abbrev pub NamedRow : Type 0
NamedRow = List (List ℕ) × Row

-- the name of a key as spelled, if one is there
abbrev pub name_of_row : Option Row → List ℕ
name_of_row None = []
name_of_row (Some key) = key.name

-- the names along a path, each as spelled by the key that is there in the tree
abbrev pub spelled_names : TreeMap → List (List ℕ) → List (List ℕ)
spelled_names tree path = map (λ start. name_of_row (row tree start)) (beginnings path)

-- the keys of a tree in the order of folded paths, with their names as spelled
abbrev pub tree_rows : TreeMap → List NamedRow
tree_rows tree = map (λ entry. (spelled_names tree entry.0, entry.1)) (finite.entries tree)

-- the names along a path, each as it is spelled in entries
abbrev pub spelled_in : Entries → List (List ℕ) → List (List ℕ)
spelled_in entries path = map (λ start. name_of_row (row_at entries start)) (beginnings path)

-- the keys whose entries these are, if names lead to the first of them
abbrev pub node_rows : List (List ℕ) → Entries → List NamedRow
node_rows names entries = map (λ entry. (names ++ spelled_in entries entry.0, entry.1)) entries

-- the keys of a subkey, if these names lead to its parent
abbrev pub subkey_rows : List (List ℕ) → List ℕ × Entries → List NamedRow
subkey_rows names subkey = node_rows (names ++ name_of_row (row_at subkey.1 []) ∷ []) subkey.1
