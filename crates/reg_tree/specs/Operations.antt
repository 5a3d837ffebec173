-- What an operation makes of a tree, row by row.
use Rattle.std.specs.Prelude.{ℕ, ◌-◌, nat_lt, ◌&&◌, if◌then◌else◌, List, [], ◌++◌, length, take, Option, Some, None, slice_index_or}
use Rattle.std.specs.Option.{option_map}
use Rattle.std.specs.List.{filter_map}
use Rattle.std.specs.FinMap as finite
use Rattle.std.specs.Ordering.{eq_by_cmp}
use Rattle.reg_names.specs.Names.{folded_path}
use Rattle.reg_tree_parts.specs.Orders.{path_order}
use Rattle.reg_tree_parts.specs.Rows.{Row}
use Rattle.reg_tree_parts.specs.NewRows.{new_row}
use Rattle.reg_tree_parts.specs.ValueEdits.{values_with, values_without}
use Rattle.reg_tree_parts.specs.Nodes.{begins_path, one_below}
use Rattle.reg_tree.specs.Maps.{TreeMap, row, beginnings, missing}
use Rattle.reg_tree.specs.declared.op.Op.{Op}
use Rattle.reg_tree.specs.declared.op.Op.TheVariants.{CreateKey, DeleteKey, SetValue, DeleteValue}

-- the hive of an operation, and the path of its key as it is spelled
abbrev pub hive_of : Op → ℕ
hive_of (CreateKey hive path) = hive
hive_of (DeleteKey hive path) = hive
hive_of (SetValue hive path name kind bytes) = hive
hive_of (DeleteValue hive path name) = hive

abbrev pub spelled_path : Op → List (List ℕ)
spelled_path (CreateKey hive path) = path
spelled_path (DeleteKey hive path) = path
spelled_path (SetValue hive path name kind bytes) = path
spelled_path (DeleteValue hive path name) = path

-- a row written at a moment
abbrev pub touched : ℕ → Row → Row
touched moment key = record key { time = moment }

-- how many names of a path lead to the last key on its way that is there
abbrev pub depth_there : TreeMap → List (List ℕ) → ℕ
depth_there tree path = length path - length (missing tree path)

-- the descriptor of the row at a path
abbrev pub descriptor_of : Option Row → List ℕ
descriptor_of None = []
descriptor_of (Some key) = key.descriptor

-- the row at a path after a key was created: the last key on its way that was there is written; each missing beginning
-- of the path gets a new row with that key's descriptor; every other row stays
abbrev pub row_created : TreeMap → List (List ℕ) → ℕ → List (List ℕ) → Option Row
row_created tree spelled moment path =
    let created = folded_path spelled in
    let depth = depth_there tree created in
    let touched_path = take depth created in
    if eq_by_cmp path_order path touched_path then option_map (touched moment) (row tree path)
    else if begins_path path created && nat_lt depth (length path) then Some (new_row (slice_index_or spelled (length path - 1) []) (descriptor_of (row tree touched_path)) moment)
    else row tree path

-- the row at a path after a key was deleted: it has none, its parent is written, and every other row stays
abbrev pub row_deleted : TreeMap → List (List ℕ) → ℕ → List (List ℕ) → Option Row
row_deleted tree deleted moment path =
    if eq_by_cmp path_order path deleted then None
    else if one_below path deleted then option_map (touched moment) (row tree path)
    else row tree path

-- the row at a path after the key of another path, or of this, was edited and written
abbrev pub row_edited : (Row → Row) → TreeMap → List (List ℕ) → ℕ → List (List ℕ) → Option Row
row_edited edit tree edited moment path =
    if eq_by_cmp path_order path edited then option_map (λ key. touched moment (edit key)) (row tree path) else row tree path

-- the row at a path after an operation at a moment
abbrev pub row_after : TreeMap → Op → ℕ → List (List ℕ) → Option Row
row_after tree (CreateKey hive spelled) moment path = row_created tree spelled moment path
row_after tree (DeleteKey hive spelled) moment path = row_deleted tree (folded_path spelled) moment path
row_after tree (SetValue hive spelled name kind bytes) moment path =
    row_edited (λ key. record key { values = values_with key.values name kind bytes }) tree (folded_path spelled) moment path
row_after tree (DeleteValue hive spelled name) moment path =
    row_edited (λ key. record key { values = values_without key.values name }) tree (folded_path spelled) moment path

-- the tree that has these rows, at the paths of this list
abbrev pub tree_of : (List (List ℕ) → Option Row) → List (List (List ℕ)) → TreeMap
tree_of rows paths = finite.from_entries (filter_map (λ path. option_map (λ key. (path, key)) (rows path)) paths)

-- the tree after an operation at a moment, which may have rows at the paths that had them and on the way of its path
abbrev pub tree_after : TreeMap → Op → ℕ → TreeMap
tree_after tree op moment = tree_of (row_after tree op moment) (finite.keys tree ++ beginnings (folded_path (spelled_path op)))
