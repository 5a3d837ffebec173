-- A key gets a subkey, or loses one.
use Rattle.std.specs.Prelude.{◌≡◌, ◌≢◌, ◌⊎◌, ℕ, List, [], ◌∷◌, ◌++◌, Option, Some, None, IsSome, Ok}
use Rattle.hive_tree_model.specs.Lists.{IsIn, Once}
use Rattle.hive_tree_model.specs.Keys.{KeyParts, KeyReader, Keys, none, key, offsets, names, own_cells, lent_cells}
use Rattle.hive_tree_model.specs.Encodings.{Whole}
use Rattle.hive_edit_laws.specs.KeyPlaces.{KeyPlace, place_from}

-- keys, and others after them
abbrev pub beside : {R : Type 0} → Keys R → Keys R → Keys R
beside none others = others
beside (key at parts below after) others = key at parts below (beside after others)

-- Cells are changed so that the key at a path has one subkey more, between two runs of siblings, which stay. The new
-- one and all below it are in cells that were not there.
pub record Adds {D R C : Type 0} (read : (ℕ → Option D) → KeyReader R C) (old new : ℕ → Option D) (root : ℕ) (above : KeyParts R) (subkey_list : Keys R) (path : List (List ℕ)) (place : KeyPlace R) (parts : KeyParts R) (front back : Keys R) (at : ℕ) (subkey : KeyParts R) (sub : Keys R) : Type 0 where
  pub there : place_from root above subkey_list path ≡ Some place
  pub were : place.below ≡ beside front back
  pub stays : (cell : ℕ) → IsSome (old cell) → (IsIn cell place.parts.own → ⊥) → new cell ≡ old cell
  pub read_so : read new place.at ≡ Ok parts
  pub name_stays : parts.name ≡ place.parts.name
  pub lists : parts.subkey_list ≡ offsets front ++ at ∷ offsets back
  pub whole : Whole (read new) at subkey sub
  pub named : subkey.name ≢ []
  pub unlike : IsIn subkey.name (names place.below) → ⊥
  pub once : Once (parts.own ++ (subkey.own ++ own_cells sub))
  pub takes : (cell : ℕ) → IsIn cell parts.own → IsIn cell place.parts.own ⊎ (old cell ≡ None)
  pub fresh : (cell : ℕ) → IsIn cell (subkey.own ++ own_cells sub) → old cell ≡ None
  pub lends : (cell : ℕ) → IsIn cell (parts.lent ++ (subkey.lent ++ lent_cells sub)) → IsIn cell (above.lent ++ lent_cells subkey_list)

-- Cells are changed so that the key at a path has one subkey less. The cells of that one, and of the keys below it, may
-- be freed.
pub record Drops {D R C : Type 0} (read : (ℕ → Option D) → KeyReader R C) (old new : ℕ → Option D) (root : ℕ) (above : KeyParts R) (subkey_list : Keys R) (path : List (List ℕ)) (place : KeyPlace R) (parts : KeyParts R) (front back : Keys R) (at : ℕ) (subkey : KeyParts R) (sub : Keys R) : Type 0 where
  pub there : place_from root above subkey_list path ≡ Some place
  pub were : place.below ≡ beside front (key at subkey sub back)
  pub stays : (cell : ℕ) → IsSome (old cell) → (IsIn cell (place.parts.own ++ (subkey.own ++ own_cells sub)) → ⊥) → new cell ≡ old cell
  pub read_so : read new place.at ≡ Ok parts
  pub name_stays : parts.name ≡ place.parts.name
  pub lists : parts.subkey_list ≡ offsets front ++ offsets back
  pub once : Once parts.own
  pub takes : (cell : ℕ) → IsIn cell parts.own → IsIn cell place.parts.own ⊎ (old cell ≡ None)
  pub lends : (cell : ℕ) → IsIn cell parts.lent → IsIn cell place.parts.lent
