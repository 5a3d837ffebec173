-- What a key has: its row in the tree.
use Rattle.std.specs.Prelude.{ℕ, ◌+◌, ◌*◌, List, length, sum_by, refl}
use Rattle.std.specs.FinMap as map
use Rattle.std.specs.Coded.{Coded, code_by, coded×, coded_ℕ, coded_list}
use Rattle.reg_tree_parts.specs.declared.value.Value.{Value}
use Rattle.reg_tree_parts.specs.Orders.{name_order}
use Rattle.reg_tree_parts.specs.Weights.{value_weight}

-- the values of a key, by their folded names
abbrev pub ValueMap : Type 0
ValueMap = map.FinMap name_order Value

-- what a key has: its name as spelled, class, flags, security descriptor, last written time and values
pub record Row : Type 0 where
  pub name : List ℕ
  pub class : List ℕ
  pub flags : ℕ
  pub descriptor : List ℕ
  pub time : ℕ
  pub values : ValueMap

-- the weight of a row: 192, twice the units of its name, its class and descriptor bytes, and its values
abbrev pub row_weight : Row → ℕ
row_weight row = 192 + 2 * length row.name + length row.class + length row.descriptor + sum_by value_weight (map.values row.values)

-- a value is stored as the tuple of its fields, and so is a row
abbrev pub value_code : Coded Value
value_code = code_by (List ℕ × (ℕ × List ℕ)) (coded× (coded_list coded_ℕ) (coded× coded_ℕ (coded_list coded_ℕ))) (λ v. (v.name, (v.kind, v.data))) (λ p. record { name = p.0; kind = p.1.0; «data» = p.1.1 }) (λ _. refl)

abbrev pub values_code : Coded ValueMap
values_code = map.code (coded_list coded_ℕ) value_code

abbrev pub row_code : Coded Row
row_code = code_by (List ℕ × (List ℕ × (ℕ × (List ℕ × (ℕ × ValueMap))))) (coded× (coded_list coded_ℕ) (coded× (coded_list coded_ℕ) (coded× coded_ℕ (coded× (coded_list coded_ℕ) (coded× coded_ℕ (map.code (coded_list coded_ℕ) value_code)))))) (λ r. (r.name, (r.class, (r.flags, (r.descriptor, (r.time, r.values)))))) (λ p. record { name = p.0; class = p.1.0; flags = p.1.1.0; descriptor = p.1.1.1.0; time = p.1.1.1.1.0; values = p.1.1.1.1.1 }) (λ _. refl)
