-- Trees that operations can make from new ones.
use Rattle.std.specs.Prelude.{◌≡◌, ℕ, ◌+◌, ◌*◌, ◌<◌, ◌≤◌, ◌^◌, true, List, [], ◌∷◌, length, Some, sum_by}
use Rattle.std.specs.List.{AllByRecursion}
use Rattle.std.specs.FinMap as finite
use Rattle.refusals.specs.declared.limits.TheConstants.{MOST_PATH_NAMES, MOST_VALUE_BYTES, MOST_WEIGHT}
use Rattle.reg_names.specs.Names.{folded, is_key_name, is_value_name}
use Rattle.reg_tree_parts.specs.declared.value.Value.{Value}
use Rattle.reg_tree_parts.specs.Rows.{Row}
use Rattle.reg_tree_parts.specs.Weights.{value_weight}
use Rattle.reg_tree.specs.Maps.{TreeMap, row, IsTree}

-- what a key at a path weighs that operations make in a new hive: 192, and 20 for its security descriptor, twice the units
-- of its name unless it is the root, and its values
abbrev pub made_weight : List (List ℕ) → Row → ℕ
made_weight [] key = 212 + sum_by value_weight (finite.values key.values)
made_weight (name ∷ path) key = 212 + 2 * length key.name + sum_by value_weight (finite.values key.values)

-- what a tree weighs that operations make in a new hive
abbrev pub made_tree_weight : TreeMap → ℕ
made_tree_weight tree = sum_by (λ e. made_weight e.0 e.1) (finite.entries tree)

-- a value that a call may write: it is under the fold of its name
pub record IsCallValue (name : List ℕ) (value : Value) : Type 0 where
  pub filed : folded value.name ≡ name
  pub named : is_value_name value.name ≡ true
  pub kind : value.kind < 2 ^ 32
  pub bytes : AllByRecursion (λ b. b < 256) value.«data»
  pub few : length value.«data» ≤ MOST_VALUE_BYTES

-- a key that calls may make: its path has at most 512 names, its name is one for calls unless it is the root, and so are
-- its values
pub record IsCallKey (path : List (List ℕ)) (key : Row) : Type 0 where
  pub shallow : length path ≤ MOST_PATH_NAMES
  pub named : 0 < length path → is_key_name key.name ≡ true
  pub values : (name : List ℕ) (value : Value) → finite.get key.values name ≡ Some value → IsCallValue name value

-- a tree that calls may make in a new hive: each of its keys, and its weight is within the limit
pub record IsCallTree (tree : TreeMap) : Type 0 where
  pub is_tree : IsTree tree
  pub keys : (path : List (List ℕ)) (key : Row) → row tree path ≡ Some key → IsCallKey path key
  pub light : made_tree_weight tree ≤ MOST_WEIGHT
