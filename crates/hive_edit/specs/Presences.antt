-- What of an operation's key and value is there.
use Rattle.std.specs.Prelude.{◌≡◌, ℕ, Bool, false, is_some, List, Option, Some, None}
use Rattle.std.specs.FinMap as finite
use Rattle.reg_names.specs.Names.{folded, folded_path}
use Rattle.reg_tree_parts.specs.Rows.{Row}
use Rattle.reg_tree.specs.Maps.{TreeMap, row}
use Rattle.reg_tree.specs.Operations.{depth_there, spelled_path}
use Rattle.reg_tree.specs.declared.op.Op.{Op}
use Rattle.reg_tree.specs.declared.op.Op.TheVariants.{CreateKey, DeleteKey, SetValue, DeleteValue}
use Rattle.hive_edit.specs.declared.presence.Presence.{Presence}

-- whether a row has a value of a name
abbrev pub row_has_value : Option Row → List ℕ → Bool
row_has_value None name = false
row_has_value (Some key) name = is_some (finite.get key.values (folded name))

-- whether the value of an operation is there
abbrev pub value_is_there : TreeMap → Op → Bool
value_is_there tree (CreateKey hive path) = false
value_is_there tree (DeleteKey hive path) = false
value_is_there tree (SetValue hive path name kind bytes) = row_has_value (row tree (folded_path path)) name
value_is_there tree (DeleteValue hive path name) = row_has_value (row tree (folded_path path)) name

-- how many names of the operation's path lead to the last key on its way that is there, and whether its value is there
pub record IsPresence (tree : TreeMap) (op : Op) (presence : Presence) : Type 0 where
  pub names : presence.names ≡ depth_there tree (folded_path (spelled_path op))
  pub value : presence.value ≡ value_is_there tree op
