-- A place in a tree: a key, and the way to it from the root by indexes. What a cursor has, and how it is stepped.
use Rattle.std.specs.Prelude.{ℕ, ◌+◌, Bool, false, List, [], ◌∷◌, ◌++◌, Option, Some, None, is_some, option_map, refl}
use Rattle.std.specs.Option.{option_and_then}
use Rattle.std.specs.Coded.{Coded, code_by, coded×, coded_ℕ, coded_list}
use Rattle.std.specs.FinMap as finite
use Rattle.reg_names.specs.Names.{folded}
use Rattle.reg_tree_parts.specs.declared.value.Value.{Value}
use Rattle.reg_tree_parts.specs.Rows.{Row, row_code}
use Rattle.reg_tree.specs.Maps.{TreeMap, row}
use Rattle.reg_tree.specs.Reads.{value_index, subkey_index, info_of}
use Rattle.reg_tree.specs.declared.tree.Info.{Info}

-- a tree, and a way from its root down: at each key the index of the subkey to which it goes, in the order of names
pub record TreePlace : Type 0 where
  pub tree : TreeMap
  pub way : List ℕ

-- a place is stored as the pair of its fields
abbrev pub place_code : Coded TreePlace
place_code = code_by (TreeMap × List ℕ) (coded× (finite.code (coded_list (coded_list coded_ℕ)) row_code) (coded_list coded_ℕ)) (λ place. (place.tree, place.way)) (λ pair. record { tree = pair.0; way = pair.1 }) (λ _. refl)

-- the path to which a way leads from another path on, if each key of it has a subkey of the index
abbrev pub path_along : TreeMap → List (List ℕ) → List ℕ → Option (List (List ℕ))
path_along tree from [] = Some from
path_along tree from (index ∷ way) = option_and_then (λ name. path_along tree (from ++ folded name ∷ []) way) (subkey_index tree from index)

-- the path of a place
abbrev pub path_of : TreePlace → Option (List (List ℕ))
path_of place = path_along place.tree [] place.way

-- the way to the first subkey of the key to which a way leads
abbrev pub way_down : List ℕ → Option (List ℕ)
way_down way = Some (way ++ 0 ∷ [])

-- a way whose last index is one more: that to the next subkey of the same key. The root has none
abbrev pub raised : ℕ → List ℕ → List ℕ
raised index [] = (index + 1) ∷ []
raised index (next ∷ way) = index ∷ raised next way

abbrev pub way_next : List ℕ → Option (List ℕ)
way_next [] = None
way_next (index ∷ way) = Some (raised index way)

-- a way without its last index: that to the key above. The root has none
abbrev pub shortened : ℕ → List ℕ → List ℕ
shortened index [] = []
shortened index (next ∷ way) = index ∷ shortened next way

abbrev pub way_up : List ℕ → Option (List ℕ)
way_up [] = None
way_up (index ∷ way) = Some (shortened index way)

-- whether there is such a way, and a key to which it leads
abbrev pub leads : TreeMap → Option (List ℕ) → Bool
leads tree None = false
leads tree (Some way) = is_some (path_along tree [] way)

-- the name, as spelled, and the counts of the key at a place
abbrev pub key_at : TreePlace → Option (Row × Info)
key_at place = option_and_then (λ path. option_and_then (λ key. option_map (λ info. (key, info)) (info_of place.tree path)) (row place.tree path)) (path_of place)

-- the value at an index of the key at a place, in the order of names
abbrev pub value_of : ℕ → TreePlace → Option Value
value_of index place = option_and_then (λ path. value_index place.tree path index) (path_of place)
