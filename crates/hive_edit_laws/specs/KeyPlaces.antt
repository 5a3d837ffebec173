-- An edit of one key and of what is below it. It may touch the cells that belong to that key and to the keys below it,
-- and cells that were not there.
use Rattle.std.specs.Prelude.{if◌then◌else◌, ◌≡◌, ◌⊎◌, ℕ, List, [], ◌∷◌, ◌++◌, Option, Some, None, IsSome, Ok}
use Rattle.hive_tree_model.specs.Lists.{IsIn, Once}
use Rattle.hive_tree_model.specs.Keys.{KeyParts, KeyReader, Keys, none, key, own_cells, lent_cells}
use Rattle.hive_tree_model.specs.Trees.{same}
use Rattle.hive_tree_model.specs.Encodings.{Whole}
use Rattle.hive_tree_model.specs.Changes.{with_key}

-- a key: its offset, what its cells say, and the keys below it
pub record KeyPlace (R : Type 0) : Type 0 where
  pub at : ℕ
  pub parts : KeyParts R
  pub below : Keys R

-- the key at a path below keys
abbrev pub place_in : {R : Type 0} → Keys R → List (List ℕ) → Option (KeyPlace R)
place_in none path = None
place_in (key at parts below after) [] = None
place_in (key at parts below after) (n ∷ []) = if same n parts.name then Some (record { at = at; parts = parts; below = below }) else place_in after (n ∷ [])
place_in (key at parts below after) (n ∷ m ∷ path) = if same n parts.name then place_in below (m ∷ path) else place_in after (n ∷ m ∷ path)

-- the key at a path from a root on, which is at the empty path
abbrev pub place_from : {R : Type 0} → ℕ → KeyParts R → Keys R → List (List ℕ) → Option (KeyPlace R)
place_from root above subkey_list [] = Some (record { at = root; parts = above; below = subkey_list })
place_from root above subkey_list (n ∷ path) = place_in subkey_list (n ∷ path)

-- the cells that belong to a key and to the keys below it
abbrev pub own_of : {R : Type 0} → KeyPlace R → List ℕ
own_of place = place.parts.own ++ own_cells place.below

-- the root, and the keys below it, after the key at a path has other parts and other keys below it
abbrev pub root_after : {R : Type 0} → KeyParts R → List (List ℕ) → KeyParts R → KeyParts R
root_after above [] parts = parts
root_after above (n ∷ path) parts = above

abbrev pub subkeys_after : {R : Type 0} → Keys R → List (List ℕ) → KeyParts R → Keys R → Keys R
subkeys_after subkey_list [] parts below = below
subkeys_after subkey_list (n ∷ path) parts below = with_key subkey_list (n ∷ path) parts below

-- Cells are changed so that the key at a path says something else, or has other keys below it.
--
-- `stays`: a cell that was there, and belongs neither to that key nor to a key below it, stays.
-- `takes`: what then belongs to them did so before, or was no cell.
-- `lends`: what is lent to them was lent to some key before.
pub record EditsAt {D R C : Type 0} (read : (ℕ → Option D) → KeyReader R C) (old new : ℕ → Option D) (root : ℕ) (above : KeyParts R) (subkey_list : Keys R) (path : List (List ℕ)) (parts : KeyParts R) (below : Keys R) : Type 0 where
  pub place : KeyPlace R
  pub there : place_from root above subkey_list path ≡ Some place
  pub stays : (cell : ℕ) → IsSome (old cell) → (IsIn cell (own_of place) → ⊥) → new cell ≡ old cell
  pub whole : Whole (read new) place.at parts below
  pub name_stays : parts.name ≡ place.parts.name
  pub takes : (cell : ℕ) → IsIn cell (parts.own ++ own_cells below) → IsIn cell (own_of place) ⊎ (old cell ≡ None)
  pub lends : (cell : ℕ) → IsIn cell (parts.lent ++ lent_cells below) → IsIn cell (above.lent ++ lent_cells subkey_list)

-- Cells are changed so that the key at a path says something else, while the keys below it stay. Its own cells may be
-- freed, written and taken anew.
pub record EditsRow {D R C : Type 0} (read : (ℕ → Option D) → KeyReader R C) (old new : ℕ → Option D) (root : ℕ) (above : KeyParts R) (subkey_list : Keys R) (path : List (List ℕ)) (place : KeyPlace R) (parts : KeyParts R) : Type 0 where
  pub there : place_from root above subkey_list path ≡ Some place
  pub stays : (cell : ℕ) → IsSome (old cell) → (IsIn cell place.parts.own → ⊥) → new cell ≡ old cell
  pub read_so : read new place.at ≡ Ok parts
  pub name_stays : parts.name ≡ place.parts.name
  pub subkeys_stay : parts.subkey_list ≡ place.parts.subkey_list
  pub once : Once parts.own
  pub takes : (cell : ℕ) → IsIn cell parts.own → IsIn cell place.parts.own ⊎ (old cell ≡ None)
  pub lends : (cell : ℕ) → IsIn cell parts.lent → IsIn cell place.parts.lent
