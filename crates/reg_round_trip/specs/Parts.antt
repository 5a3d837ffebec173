-- The content of a part of a tree: a key and all below it.
use Rattle.std.specs.Prelude.{ℕ, if◌then◌else◌, List, Option, None}
use Rattle.std.specs.Option.{option_map}
use Rattle.std.specs.List.{flat_map}
use Rattle.std.specs.FinMap as finite
use Rattle.reg_tree_parts.specs.Rows.{Row}
use Rattle.reg_tree_parts.specs.Nodes.{begins_path}
use Rattle.reg_tree.specs.Maps.{TreeMap, row}
use Rattle.reg_tree.specs.declared.op.Op.{Op}
use Rattle.key_walk.specs.SubtreeRows.{rows_below}
use Rattle.reg_round_trip.specs.Contents.{HasSameKey}
use Rattle.reg_round_trip.specs.Operations.{key_ops}

-- a key without its values
abbrev pub emptied : Row → Row
emptied key = record key { values = finite.empty }

-- at a path and below it the keys of a tree, and on the way to it those without their values
abbrev pub part_row : TreeMap → List (List ℕ) → List (List ℕ) → Option Row
part_row tree top path =
    if begins_path top path then row tree path
    else if begins_path path top then option_map emptied (row tree path)
    else None

-- another tree has the content of a part, and no more
abbrev pub HasPart : TreeMap → List (List ℕ) → TreeMap → Type 0
HasPart tree top other = (path : List (List ℕ)) → HasSameKey path (part_row tree top path) (row other path)

-- the operations that make a part in a new hive
abbrev pub part_ops : ℕ → TreeMap → List (List ℕ) → List Op
part_ops hive tree top = flat_map (key_ops hive) (rows_below tree top)
