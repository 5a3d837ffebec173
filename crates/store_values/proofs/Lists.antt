-- The subkeys and values of a key, one after another.
use Rattle.std.proofs.Common.{◌≡◌, ℕ, List, length, slice_get, Option, Some, None, refl, sym, ◌∙◌, ap}
use Rattle.std.specs.Option.{option_map, option_and_then}
use Rattle.std.specs.FinMap as finite
use Rattle.reg_tree_parts.specs.Rows.{Row}
use Rattle.tree_printer.proofs.ValueLists.{values_long}
use Rattle.reg_tree.specs.declared.tree.Info.{Info}
use Rattle.store_values.specs.Listed.{names_of, values_of}

-- what is told of a key with these subkeys
abbrev pub info_with : List (List ℕ) → Row → Info
info_with names row = record { subkeys = length names; values = finite.len row.values; time = row.time }

-- the name at an index, and the value at an index
pub name_index : (names : List (List ℕ)) (key : Option Row) (index : ℕ) → option_and_then (λ row. slice_get names index) key ≡ slice_get (names_of names key) index
name_index names None index = refl
name_index names (Some row) index = refl

pub value_index : (key : Option Row) (index : ℕ) → option_and_then (λ row. slice_get (finite.values row.values) index) key ≡ slice_get (values_of key) index
value_index None index = refl
value_index (Some row) index = refl

-- how many there are of them
pub names_long : (names : List (List ℕ)) (key : Option Row) (info : Info) → option_map (λ row. info_with names row) key ≡ Some info → info.subkeys ≡ length (names_of names key)
names_long names None info e = absurd (let no : ⊥ = cc in no)
names_long names (Some row) info e = let same : info_with names row ≡ info = cc in ap (λ (i : Info). i.subkeys) (sym same)

pub values_count : (names : List (List ℕ)) (key : Option Row) (info : Info) → option_map (λ row. info_with names row) key ≡ Some info → info.values ≡ length (values_of key)
values_count names None info e = absurd (let no : ⊥ = cc in no)
values_count names (Some row) info e = let same : info_with names row ≡ info = cc in ap (λ (i : Info). i.values) (sym same) ∙ values_long row.values
