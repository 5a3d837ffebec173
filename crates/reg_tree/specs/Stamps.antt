-- When keys were written, which key an operation writes, and a key as if it had been written at another moment.
use Rattle.std.specs.Prelude.{ℕ, ◌-◌, List, [], ◌∷◌, length, take, slice_get, slice_set, Option, Some, None}
use Rattle.std.specs.Option.{option_map, option_and_then}
use Rattle.std.specs.FinMap as finite
use Rattle.reg_names.specs.Names.{folded_path}
use Rattle.reg_tree_parts.specs.Rows.{Row}
use Rattle.reg_tree_parts.specs.Nodes.{Entries}
use Rattle.reg_tree.specs.Maps.{TreeMap, row}
use Rattle.reg_tree.specs.Operations.{row_edited, tree_of}
use Rattle.reg_tree.specs.Edits.{walk_of, IsRewritten}
use Rattle.reg_tree.specs.declared.op.Op.{Op}

-- the moment of a key's last write
abbrev pub time_at : TreeMap → List (List ℕ) → Option ℕ
time_at tree path = option_map (λ (key : Row). key.time) (row tree path)

abbrev pub time_in : List TreeMap → ℕ → List (List ℕ) → Option ℕ
time_in trees hive path = option_and_then (λ tree. time_at tree path) (slice_get trees hive)

-- how many keys were made, by the count of them if there is one
abbrev pub made_of : Option ℕ → ℕ
made_of None = 0
made_of (Some made) = made

-- the path of the key that an operation writes beside those that it makes, by how many these are: the last key on its
-- way that was there
abbrev pub touched_path_of : Op → Option ℕ → List (List ℕ)
touched_path_of op made = folded_path (take (length (walk_of op) - made_of made) (walk_of op))

-- a tree in which the key at a path was written at a moment, and all else stays
abbrev pub stamped_at : TreeMap → List (List ℕ) → ℕ → TreeMap
stamped_at tree path moment = tree_of (row_edited (λ key. key) tree path moment) (finite.keys tree)

abbrev pub stamped_if : List TreeMap → Option TreeMap → ℕ → List (List ℕ) → ℕ → List TreeMap
stamped_if trees None hive path moment = trees
stamped_if trees (Some tree) hive path moment = slice_set trees hive (stamped_at tree path moment)

abbrev pub stamped : List TreeMap → ℕ → List (List ℕ) → ℕ → List TreeMap
stamped trees hive path moment = stamped_if trees (slice_get trees hive) hive path moment

-- what a stamp makes of the key at the end of its walk: the key is written, and all else of it stays; if names are
-- missing it stays as it is
abbrev pub stamps : ℕ → Entries → List (List ℕ) → Option Entries → Type 0
stamps moment key [] None = ⊥
stamps moment key [] (Some new) = IsRewritten key (λ row. row) moment new
stamps moment key (name ∷ more) None = Unit {0}
stamps moment key (name ∷ more) (Some new) = ⊥
