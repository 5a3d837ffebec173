-- The keys of a part of a tree in the order in which a walk meets them.
use Rattle.std.specs.Prelude.{ℕ, List, ◌++◌, map, filter}
use Rattle.std.specs.FinMap as finite
use Rattle.reg_tree_parts.specs.Nodes.{Entries, begins_path}
use Rattle.reg_tree.specs.Maps.{TreeMap}
use Rattle.key_walk.specs.KeyRows.{NamedRow, spelled_in, spelled_names}

-- the keys of a tree at a folded path and below it, with their names as spelled
abbrev pub rows_below : TreeMap → List (List ℕ) → List NamedRow
rows_below tree path = map (λ entry. (spelled_names tree entry.0, entry.1)) (filter (λ entry. begins_path path entry.0) (finite.entries tree))

-- the same of entries, if names lead to the first of them
abbrev pub rows_from : List (List ℕ) → Entries → List (List ℕ) → List NamedRow
rows_from names entries path = map (λ entry. (names ++ spelled_in entries entry.0, entry.1)) (filter (λ entry. begins_path path entry.0) entries)
