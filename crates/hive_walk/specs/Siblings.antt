-- Subkeys of one key, by their names.
use Rattle.std.specs.Prelude.{◌⊎◌, ℕ, List, [], ◌∷◌, map}
use Rattle.reg_names.specs.Names.{folded}
use Rattle.reg_tree_parts.specs.Rows.{Row}
use Rattle.hive_tree_model.specs.Lists.{IsIn, Once}
use Rattle.hive_tree_model.specs.Keys.{Keys, none, key}
use Rattle.hive_walk.specs.declared.siblings.Sibling.{Sibling}

-- a subkey's offset under its folded name
abbrev pub offset_by_name : Sibling → List ℕ × ℕ
offset_by_name sibling = (folded sibling.name, sibling.at)

abbrev pub offsets_by_name : List Sibling → List (List ℕ × ℕ)
offsets_by_name siblings = map offset_by_name siblings

-- the folded names of subkeys
abbrev pub sibling_names : List Sibling → List (List ℕ)
sibling_names siblings = map (λ (sibling : Sibling). folded sibling.name) siblings

-- a name is missing, or there twice
abbrev pub LacksNames : List (List ℕ) → Type 0
LacksNames names = IsIn [] names ⊎ (Once names → ⊥)

-- keys beside one another as siblings, in their order
abbrev pub siblings_in : Keys Row → List Sibling
siblings_in none = []
siblings_in (key at parts below after) = (let row = parts.row in record { name = row.name; at = at }) ∷ siblings_in after
