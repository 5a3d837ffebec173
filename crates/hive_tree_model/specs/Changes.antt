-- An image after a change of one key and of what is below it.
use Rattle.std.specs.Prelude.{if◌then◌else◌, ◌≡◌, ℕ, List, [], ◌∷◌, ◌++◌, Option, Some, None}
use Rattle.hive_tree_model.specs.Lists.{IsIn}
use Rattle.hive_tree_model.specs.Keys.{KeyParts, KeyReader, Keys, none, key, own_cells, all_cells}
use Rattle.hive_tree_model.specs.Trees.{same, row_from}
use Rattle.hive_tree_model.specs.Encodings.{Whole}

-- the offset of the key at a path below keys
abbrev pub offset_in : {R : Type 0} → Keys R → List (List ℕ) → Option ℕ
offset_in none path = None
offset_in (key at parts below after) [] = None
offset_in (key at parts below after) (n ∷ []) = if same n parts.name then Some at else offset_in after (n ∷ [])
offset_in (key at parts below after) (n ∷ m ∷ path) = if same n parts.name then offset_in below (m ∷ path) else offset_in after (n ∷ m ∷ path)

-- keys in which the one at a path has other parts and other keys below it
abbrev pub with_key : {R : Type 0} → Keys R → List (List ℕ) → KeyParts R → Keys R → Keys R
with_key none path parts below = none
with_key (key at old subkey_list after) [] parts below = key at old subkey_list after
with_key (key at old subkey_list after) (n ∷ []) parts below = if same n old.name then key at parts below after else key at old subkey_list (with_key after (n ∷ []) parts below)
with_key (key at old subkey_list after) (n ∷ m ∷ path) parts below = if same n old.name then key at old (with_key subkey_list (m ∷ path) parts below) after else key at old subkey_list (with_key after (n ∷ m ∷ path) parts below)

-- the cells of all keys but for the one at a path and those below it: those that belong to one key alone, and all
-- that are read
abbrev pub own_cells_but : {R : Type 0} → Keys R → List (List ℕ) → List ℕ
own_cells_but none path = []
own_cells_but (key at parts below after) [] = (parts.own ++ own_cells below) ++ own_cells after
own_cells_but (key at parts below after) (n ∷ []) = if same n parts.name then own_cells after else (parts.own ++ own_cells below) ++ own_cells_but after (n ∷ [])
own_cells_but (key at parts below after) (n ∷ m ∷ path) = if same n parts.name then (parts.own ++ own_cells_but below (m ∷ path)) ++ own_cells after else (parts.own ++ own_cells below) ++ own_cells_but after (n ∷ m ∷ path)

abbrev pub all_cells_but : {R : Type 0} → Keys R → List (List ℕ) → List ℕ
all_cells_but none path = []
all_cells_but (key at parts below after) [] = ((parts.own ++ parts.lent) ++ all_cells below) ++ all_cells after
all_cells_but (key at parts below after) (n ∷ []) = if same n parts.name then all_cells after else ((parts.own ++ parts.lent) ++ all_cells below) ++ all_cells_but after (n ∷ [])
all_cells_but (key at parts below after) (n ∷ m ∷ path) = if same n parts.name then ((parts.own ++ parts.lent) ++ all_cells_but below (m ∷ path)) ++ all_cells after else ((parts.own ++ parts.lent) ++ all_cells below) ++ all_cells_but after (n ∷ m ∷ path)

-- the last name of a path
abbrev pub last_name : List ℕ → List (List ℕ) → List ℕ
last_name n [] = n
last_name n (m ∷ path) = last_name m path

-- what is left of a path after another, if it goes on from it
abbrev pub rest_of : List (List ℕ) → List (List ℕ) → Option (List (List ℕ))
rest_of [] path = Some path
rest_of (n ∷ first) [] = None
rest_of (n ∷ first) (m ∷ path) = if same m n then rest_of first path else None

-- the row at a path after the change: at and below the changed key what is there now, elsewhere the old row
abbrev pub row_or : {R : Type 0} → Option (List (List ℕ)) → R → Keys R → Option R → Option R
row_or None row below old = old
row_or (Some rest) row below old = row_from row below rest

-- Cells are changed so that the key at a path below the root, whose offset and name stay, says something else, or has
-- other keys below it. The cells of the other keys stay, and it takes none that belongs to one of them.
pub record Edits {D R C : Type 0} (read : (ℕ → Option D) → KeyReader R C) (old new : ℕ → Option D) (above : KeyParts R) (subkey_list : Keys R) (n : List ℕ) (path : List (List ℕ)) (parts : KeyParts R) (below : Keys R) : Type 0 where
  pub at : ℕ
  pub there : offset_in subkey_list (n ∷ path) ≡ Some at
  pub root_stays : (cell : ℕ) → IsIn cell (above.own ++ above.lent) → new cell ≡ old cell
  pub others_stay : (cell : ℕ) → IsIn cell (all_cells_but subkey_list (n ∷ path)) → new cell ≡ old cell
  pub whole : Whole (read new) at parts below
  pub name_stays : parts.name ≡ last_name n path
  pub not_roots : (cell : ℕ) → IsIn cell (parts.own ++ own_cells below) → IsIn cell above.own → ⊥
  pub not_others : (cell : ℕ) → IsIn cell (parts.own ++ own_cells below) → IsIn cell (own_cells_but subkey_list (n ∷ path)) → ⊥

-- the keys below the one at a path
abbrev pub below_in : {R : Type 0} → Keys R → List (List ℕ) → Option (Keys R)
below_in none path = None
below_in (key at parts below after) [] = None
below_in (key at parts below after) (n ∷ []) = if same n parts.name then Some below else below_in after (n ∷ [])
below_in (key at parts below after) (n ∷ m ∷ path) = if same n parts.name then below_in below (m ∷ path) else below_in after (n ∷ m ∷ path)
