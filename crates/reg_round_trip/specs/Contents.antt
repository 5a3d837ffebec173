-- Trees of the same content.
use Rattle.std.specs.Prelude.{◌≡◌, ℕ, ◌<◌, List, length, Option, Some, None, ⊤}
use Rattle.reg_tree_parts.specs.Rows.{Row}
use Rattle.reg_tree.specs.Maps.{TreeMap, row}

-- At a path both have a key or neither has one. The keys have the same values, with the names as spelled, types and
-- data. Below the root they have the same name as spelled. Time, class, flags and descriptor may differ.
abbrev pub HasSameKey : List (List ℕ) → Option Row → Option Row → Type 0
HasSameKey path None None = ⊤
HasSameKey path (Some key) (Some other) = (0 < length path → key.name ≡ other.name) × (key.values ≡ other.values)
HasSameKey path (Some key) None = ⊥
HasSameKey path None (Some other) = ⊥

-- so it is at every path
abbrev pub SameContent : TreeMap → TreeMap → Type 0
SameContent tree other = (path : List (List ℕ)) → HasSameKey path (row tree path) (row other path)
