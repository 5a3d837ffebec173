-- What a tree may have: what a hive file can encode.
use Rattle.std.specs.Prelude.{◌≡◌, ◌≢◌, ℕ, ◌*◌, ◌<◌, ◌≤◌, ◌^◌, nat_lt, true, if◌then◌else◌, List, length, Some, bit_and}
use Rattle.std.specs.List.{list_all, AllByRecursion}
use Rattle.std.specs.FinMap as finite
use Rattle.reg_names.specs.Names.{folded, is_path, is_value_name}
use Rattle.refusals.specs.declared.limits.TheConstants.{MOST_PATH_NAMES}
use Rattle.reg_tree_parts.specs.declared.value.Value.{Value}
use Rattle.reg_tree_parts.specs.Rows.{Row}
use Rattle.reg_tree_parts.specs.Nodes.{Entries, IsNode}
use Rattle.reg_tree.specs.Maps.{TreeMap, row, IsTree}
use Rattle.reg_tree.specs.declared.op.Op.{Op}
use Rattle.reg_tree.specs.declared.op.Op.TheVariants.{CreateKey, DeleteKey, SetValue, DeleteValue}

-- how many bytes a name takes in a hive file: one for each unit if all are below 0x100, else two
abbrev pub stored_len : List ℕ → ℕ
stored_len name = if list_all (λ u. nat_lt u 0x100) name then length name else 2 * length name

-- a name has units of 16 bits, and takes at most 65,535 bytes
pub record IsEncodableName (name : List ℕ) : Type 0 where
  pub units : AllByRecursion (λ u. u < 2 ^ 16) name
  pub short : stored_len name ≤ 65535

-- a value is under the fold of its name
pub record IsEncodableValue (name : List ℕ) (value : Value) : Type 0 where
  pub filed : folded value.name ≡ name
  pub spelled : IsEncodableName value.name

-- a row: no unit of the key's name is a backslash, and a class has at most 65,535 bytes. Flags have 16 bits without
-- 0x0020 and 0x0040. These say how a file encodes the name, and that a handle is there in place of the values
pub record IsEncodableRow (key : Row) : Type 0 where
  pub name : IsEncodableName key.name
  pub no_backslash : AllByRecursion (λ u. u ≢ 0x5c) key.name
  pub flags : key.flags < 2 ^ 16
  pub unmarked : bit_and key.flags 0x60 ≡ 0
  pub class : length key.class ≤ 65535
  pub values : (name : List ℕ) (value : Value) → finite.get key.values name ≡ Some value → IsEncodableValue name value

-- a row at its path, which has at most 512 names: none but the root has an empty name
pub record IsEncodableAt (path : List (List ℕ)) (key : Row) : Type 0 where
  pub shallow : length path ≤ MOST_PATH_NAMES
  pub named : 0 < length path → 0 < length key.name
  pub spelled : IsEncodableRow key

-- a tree: each of its rows
pub record IsEncodable (tree : TreeMap) : Type 0 where
  pub rows : (path : List (List ℕ)) (key : Row) → row tree path ≡ Some key → IsEncodableAt path key

-- an operation names a key, and a value, by the rules of names for calls
abbrev pub NamesAreValid : Op → Type 0
NamesAreValid (CreateKey hive path) = is_path path ≡ true
NamesAreValid (DeleteKey hive path) = is_path path ≡ true
NamesAreValid (SetValue hive path name kind bytes) = (is_path path ≡ true) × (is_value_name name ≡ true)
NamesAreValid (DeleteValue hive path name) = (is_path path ≡ true) × (is_value_name name ≡ true)

-- what is so of the entries of a tree: they are those of a node, make a tree, and a hive file can encode them
pub record IsRooted (entries : Entries) : Type 0 where
  pub node : IsNode entries
  pub tree : IsTree (finite.from_sorted entries)
  pub encodable : IsEncodable (finite.from_sorted entries)
