-- The operations that make the keys and values of hives in new hives.
use Rattle.std.specs.Prelude.{ℕ, ◌+◌, List, [], ◌∷◌, ◌++◌, map}
use Rattle.std.specs.List.{flat_map}
use Rattle.std.specs.FinMap as finite
use Rattle.reg_tree_parts.specs.declared.value.Value.{Value}
use Rattle.reg_tree.specs.Maps.{TreeMap}
use Rattle.reg_tree.specs.Fresh.{fresh_tree}
use Rattle.reg_tree.specs.declared.op.Op.{Op}
use Rattle.reg_tree.specs.declared.op.Op.TheVariants.{CreateKey, SetValue}
use Rattle.key_walk.specs.KeyRows.{NamedRow, tree_rows}

-- a key is created, unless it is the root, which is there
abbrev pub creation : ℕ → List (List ℕ) → List Op
creation hive [] = []
creation hive (name ∷ names) = CreateKey hive (name ∷ names) ∷ []

-- a value is written
abbrev pub value_op : ℕ → List (List ℕ) → Value → Op
value_op hive names value = SetValue hive names value.name value.kind value.«data»

-- a key of a hive, and then its values in the order of their names
abbrev pub key_ops : ℕ → NamedRow → List Op
key_ops hive key = creation hive key.0 ++ map (value_op hive key.0) (finite.values (let row = key.1 in row.values))

-- the keys of a hive in the order of paths, a parent before its subkeys
abbrev pub tree_ops : ℕ → TreeMap → List Op
tree_ops hive tree = flat_map (key_ops hive) (tree_rows tree)

-- as many new hives
abbrev pub new_trees : List TreeMap → List TreeMap
new_trees trees = map (λ _. fresh_tree) trees

-- hives one after another, the first of which has this number
abbrev pub trees_ops : ℕ → List TreeMap → List Op
trees_ops hive [] = []
trees_ops hive (tree ∷ trees) = tree_ops hive tree ++ trees_ops (hive + 1) trees
