-- What few keys have beside the rest.
use Rattle.std.specs.Prelude.{ℕ, List, [], Option, None, Some}
use Rattle.std.specs.Arc.{arc_value}
use Rattle.std.specs.declared.sync.Arc.{Arc}
use Rattle.std.specs.declared.alloc.Global.{Global}
use Rattle.reg_tree_parts.specs.declared.rare_fields.RareFields.{RareFields}

-- the class of a key that has just this beside the rest
abbrev pub class_in : Option (Arc RareFields Global) → List ℕ
class_in None = []
class_in (Some shared) = (arc_value shared).class

-- its flags
abbrev pub flags_in : Option (Arc RareFields Global) → ℕ
flags_in None = 0
flags_in (Some shared) = (arc_value shared).flags
