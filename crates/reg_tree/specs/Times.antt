-- Trees that differ in the times of their rows alone.
use Rattle.std.specs.Prelude.{◌≡◌, ℕ, List, map}
use Rattle.std.specs.FinMap as finite
use Rattle.reg_tree_parts.specs.Rows.{Row}
use Rattle.reg_tree_parts.specs.Nodes.{Entries}
use Rattle.reg_tree.specs.Maps.{TreeMap}

-- a row without its time
abbrev pub timeless : Row → Row
timeless key = record key { time = 0 }

-- a path and the row there, without its time
abbrev pub timeless_entry : List (List ℕ) × Row → List (List ℕ) × Row
timeless_entry entry = (entry.0, timeless entry.1)

-- the paths and rows of a tree, without times
abbrev pub untimed : TreeMap → Entries
untimed tree = map timeless_entry (finite.entries tree)

-- the same hives, with the same rows at the same paths but for their times
abbrev pub SameButTimes : List TreeMap → List TreeMap → Type 0
SameButTimes trees others = map untimed trees ≡ map untimed others
