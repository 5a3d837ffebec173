-- What is read of the trees of all hives, by the hive's number.
use Rattle.std.specs.Prelude.{ℕ, List, length, map, slice_get, min, Option, Some, None}
use Rattle.std.specs.Option.{option_map, option_and_then}
use Rattle.std.specs.FinMap as finite
use Rattle.std.below.core.specs.declared.int.u64.TheConstants.{MAX}
use Rattle.reg_tree_parts.specs.declared.value.Value.{Value}
use Rattle.reg_names.specs.Names.{folded_path}
use Rattle.reg_tree.specs.Maps.{TreeMap, row, subkeys, missing, weight}
use Rattle.reg_tree.specs.Reads.{value_at, value_index, subkey_index, info_of}
use Rattle.reg_tree.specs.declared.tree.Info.{Info}
use Rattle.reg_tree.specs.declared.op.Op.{Op}
use Rattle.reg_tree.specs.declared.op.Op.TheVariants.{CreateKey, DeleteKey, SetValue, DeleteValue}

-- the value of a name at a path of a hive
abbrev pub value_in : List TreeMap → ℕ → List (List ℕ) → List ℕ → Option Value
value_in trees hive path name = option_and_then (λ tree. value_at tree path name) (slice_get trees hive)

-- the value at an index
abbrev pub value_index_in : List TreeMap → ℕ → List (List ℕ) → ℕ → Option Value
value_index_in trees hive path index = option_and_then (λ tree. value_index tree path index) (slice_get trees hive)

-- the name of the subkey at an index
abbrev pub subkey_index_in : List TreeMap → ℕ → List (List ℕ) → ℕ → Option (List ℕ)
subkey_index_in trees hive path index = option_and_then (λ tree. subkey_index tree path index) (slice_get trees hive)

-- how many subkeys and values a key has, and the moment of its last write
abbrev pub info_in : List TreeMap → ℕ → List (List ℕ) → Option Info
info_in trees hive path = option_and_then (λ tree. info_of tree path) (slice_get trees hive)

-- the weight of a hive's tree, up to the greatest number of 64 bits
abbrev pub weight_in : List TreeMap → ℕ → Option ℕ
weight_in trees hive = option_map (λ tree. min (weight tree) MAX) (slice_get trees hive)

-- the names of a key's subkeys, in their order, if the key is there
abbrev pub subkeys_at : TreeMap → List (List ℕ) → Option (List (List ℕ))
subkeys_at tree path = option_map (λ key. subkeys tree path) (row tree path)

abbrev pub subkeys_in : List TreeMap → ℕ → List (List ℕ) → Option (List (List ℕ))
subkeys_in trees hive path = option_and_then (λ tree. subkeys_at tree path) (slice_get trees hive)

-- the names of a key's values, in their order, if the key is there
abbrev pub value_names_at : TreeMap → List (List ℕ) → Option (List (List ℕ))
value_names_at tree path = option_map (λ key. map (λ value. value.name) (finite.values key.values)) (row tree path)

abbrev pub value_names_in : List TreeMap → ℕ → List (List ℕ) → Option (List (List ℕ))
value_names_in trees hive path = option_and_then (λ tree. value_names_at tree path) (slice_get trees hive)

-- how many keys are missing on the way to a path, its own included: what its creation would make
abbrev pub levels_in : List TreeMap → ℕ → List (List ℕ) → Option ℕ
levels_in trees hive path = option_map (λ tree. length (missing tree path)) (slice_get trees hive)

-- how many keys an operation would make in a tree, if it is a creation
abbrev pub levels_of : TreeMap → Op → Option ℕ
levels_of tree (CreateKey hive path) = Some (length (missing tree (folded_path path)))
levels_of tree (DeleteKey hive path) = None
levels_of tree (SetValue hive path name kind bytes) = None
levels_of tree (DeleteValue hive path name) = None

-- how many keys an operation would make in the trees of all hives, if it is a creation in a hive that is there
abbrev pub levels_made : List TreeMap → Op → Option ℕ
levels_made trees (CreateKey hive path) = levels_in trees hive (folded_path path)
levels_made trees (DeleteKey hive path) = None
levels_made trees (SetValue hive path name kind bytes) = None
levels_made trees (DeleteValue hive path name) = None
