-- The subkeys and values of a key that may not be there.
use Rattle.std.specs.Prelude.{ℕ, List, [], Option, Some, None}
use Rattle.std.specs.FinMap as finite
use Rattle.reg_tree_parts.specs.declared.value.Value.{Value}
use Rattle.reg_tree_parts.specs.Rows.{Row}
use Rattle.reg_tree.specs.Maps.{TreeMap, row, subkeys}

-- the names of the subkeys of a key, in their order; none if it isn't there
abbrev pub names_of : List (List ℕ) → Option Row → List (List ℕ)
names_of names None = []
names_of names (Some key) = names

abbrev pub subkeys_at : TreeMap → List (List ℕ) → List (List ℕ)
subkeys_at tree path = names_of (subkeys tree path) (row tree path)

-- its values, in their order
abbrev pub values_of : Option Row → List Value
values_of None = []
values_of (Some key) = finite.values key.values

abbrev pub values_at : TreeMap → List (List ℕ) → List Value
values_at tree path = values_of (row tree path)
