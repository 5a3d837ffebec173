-- Which tree an image encodes.
use Rattle.std.specs.Prelude.{◌≡◌, ◌≢◌, ℕ, List, [], ◌∷◌, ◌++◌, Ok, Some, IsSome}
use Rattle.std.specs.FinMap as finite
use Rattle.hive_tree_model.specs.Lists.{IsIn, Once}
use Rattle.hive_tree_model.specs.Keys.{KeyParts, KeyReader, Keys, none, key, offsets, names, own_cells, lent_cells}
use Rattle.hive_tree_model.specs.Trees.{TreeOf, tree_of}

-- the cells say it: each key is read so, and the keys below it are the subkeys that it lists, in the lists' order
abbrev pub CellsMatchKeys : {R C : Type 0} → KeyReader R C → Keys R → Type 0
CellsMatchKeys reads none = Unit {0}
CellsMatchKeys reads (key at parts below after) = (reads at ≡ Ok parts) × (offsets below ≡ parts.subkey_list) × CellsMatchKeys reads below × CellsMatchKeys reads after

-- keys beside one another have names, and no two of them the same
abbrev pub Named : {R : Type 0} → Keys R → Type 0
Named none = Unit {0}
Named (key at parts below after) = (parts.name ≢ []) × (IsIn parts.name (names after) → ⊥) × Named below × Named after

-- the key at an offset, with all keys below it. Each rule of one key and of the keys below it holds. No cell that
-- belongs to one key alone is reached twice
pub record Whole {R C : Type 0} (reads : KeyReader R C) (at : ℕ) (parts : KeyParts R) (below : Keys R) : Type 0 where
  pub read : reads at ≡ Ok parts
  pub listed : offsets below ≡ parts.subkey_list
  pub fits : CellsMatchKeys reads below
  pub named : Named below
  pub once : Once (parts.own ++ own_cells below)

-- a cell that several keys may name belongs to no key alone
abbrev pub LentApart : {R : Type 0} → KeyParts R → Keys R → Type 0
LentApart parts below = (cell : ℕ) → IsIn cell (parts.lent ++ lent_cells below) → IsIn cell (parts.own ++ own_cells below) → ⊥

-- the image encodes the tree, from the root at an offset on
abbrev pub CellsEncodeTree : {R C : Type 0} → KeyReader R C → ℕ → TreeOf R → Type 0
CellsEncodeTree {R} reads root tree = (parts : KeyParts R) × (below : Keys R) × Whole reads root parts below × (tree ≡ tree_of parts below) × LentApart parts below

-- what every tree keeps, if a row has a folded name: the root is there, with each key its parent is there, and each key
-- is under its name
pub record IsKeyTree {R : Type 0} (name_of : R → List ℕ) (tree : TreeOf R) : Type 0 where
  pub root : IsSome (finite.get tree [])
  pub parents : (path : List (List ℕ)) (name : List ℕ) → IsSome (finite.get tree (path ++ name ∷ [])) → IsSome (finite.get tree path)
  pub named : (path : List (List ℕ)) (name : List ℕ) (row : R) → finite.get tree (path ++ name ∷ []) ≡ Some row → name_of row ≡ name

-- a key's name is the name of its row
abbrev pub NamesBy : {R C : Type 0} → (R → List ℕ) → KeyReader R C → Type 0
NamesBy {R} name_of reads = (at : ℕ) (parts : KeyParts R) → reads at ≡ Ok parts → parts.name ≡ name_of parts.row
