-- What the map of a key's values models.
use Rattle.std.specs.Prelude.{ℕ, List, T}
use Rattle.std.specs.FinMap.Entries.{is_sorted}
use Rattle.reg_names.specs.Names.{folded}
use Rattle.persistent_map.specs.declared.map.SharedMap.{SharedMap}
use Rattle.persistent_map.specs.Listings.{entries}
use Rattle.persistent_map.specs.Children.{FitsMap}
use Rattle.reg_tree_parts.specs.declared.value.Value.{Value}
use Rattle.reg_tree_parts.specs.Orders.{name_order}
use Rattle.reg_tree_parts.specs.Weights.{value_weight}

-- the folded name of a value
abbrev pub value_key : Value → List ℕ
value_key value = folded value.name

-- the values in a map, under their folded names
abbrev pub value_entries : SharedMap Value → List (List ℕ × Value)
value_entries items = entries value_key items

-- the values are in the order of their folded names, and their counts and weights are kept
pub record ValuesFit (items : SharedMap Value) : Type 0 where
  pub sorted : T (is_sorted name_order (value_entries items))
  pub fits : FitsMap value_key value_weight items
