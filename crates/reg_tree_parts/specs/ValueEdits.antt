-- Changes of the values of a key.
use Rattle.std.specs.Prelude.{ℕ, List, Option, Some, None}
use Rattle.std.specs.FinMap as finite
use Rattle.reg_names.specs.Names.{folded}
use Rattle.reg_tree_parts.specs.declared.value.Value.{Value}
use Rattle.reg_tree_parts.specs.Rows.{ValueMap}

-- the name as a value that is there spells it, else as given
abbrev pub spelled_name : Option Value → List ℕ → List ℕ
spelled_name None name = name
spelled_name (Some old) name = old.name

-- a value whose name is spelled as another's
abbrev pub spelled_as : Value → Value → Value
spelled_as old new = record new { name = old.name }

-- the values with one written: its type and data are new, and one that was there keeps the spelling of its name
abbrev pub values_with : ValueMap → List ℕ → ℕ → List ℕ → ValueMap
values_with values name kind bytes =
    finite.insert values (folded name) (record { name = spelled_name (finite.get values (folded name)) name; kind = kind; «data» = bytes })

-- the values without one
abbrev pub values_without : ValueMap → List ℕ → ValueMap
values_without values name = finite.remove values (folded name)
