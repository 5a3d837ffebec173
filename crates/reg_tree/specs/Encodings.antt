-- How long the encoding of an accepted change is.
use Rattle.std.specs.Prelude.{ℕ, ◌+◌, List, length, sum_by}
use Rattle.reg_tree.specs.declared.op.Op.{Op}
use Rattle.reg_tree.specs.declared.op.Op.TheVariants.{CreateKey, DeleteKey, SetValue, DeleteValue}
use Rattle.reg_tree.specs.declared.element.Element.{Element}

-- a path: the number of its names in two bytes, and for each name its length in one byte and its units, a byte each
abbrev pub path_encoded_len : List (List ℕ) → ℕ
path_encoded_len path = 2 + sum_by (λ name. 1 + length name) path

-- an operation: its kind and its hive in a byte each, and its path; for a value the length of its name in two bytes
-- and its units; for one that is written its type and the length of its data in four bytes each, and the data
abbrev pub op_encoded_len : Op → ℕ
op_encoded_len (CreateKey hive path) = 2 + path_encoded_len path
op_encoded_len (DeleteKey hive path) = 2 + path_encoded_len path
op_encoded_len (SetValue hive path name kind bytes) = 2 + path_encoded_len path + 2 + length name + 8 + length bytes
op_encoded_len (DeleteValue hive path name) = 2 + path_encoded_len path + 2 + length name

abbrev pub ops_encoded_len : List Op → ℕ
ops_encoded_len ops = sum_by op_encoded_len ops

-- an accepted change: its length in four bytes, its moment in eight, the number of its operations in four, and these
abbrev pub element_encoded_len : Element → ℕ
element_encoded_len element = 16 + ops_encoded_len element.ops
