-- How keys depend on cells. Cells are given by their data at each offset; what is no cell has none.
use Rattle.std.specs.Prelude.{◌≡◌, ℕ, List, ◌++◌, Option, None, IsSome, Ok}
use Rattle.hive_tree_model.specs.Lists.{IsIn, Once}
use Rattle.hive_tree_model.specs.Keys.{KeyParts, KeyReader, Keys, own_cells, lent_cells}
use Rattle.hive_tree_model.specs.Encodings.{CellsMatchKeys, Whole}
use Rattle.hive_tree_model.specs.Loads.{Inner}

-- what a key's cells say depends on no cells but those that it names as its own or as lent
abbrev pub IsLocal : {D R C : Type 0} → ((ℕ → Option D) → KeyReader R C) → Type 0
IsLocal {D} {R} read = (old new : ℕ → Option D) (at : ℕ) (parts : KeyParts R) → read old at ≡ Ok parts →
    ((cell : ℕ) → IsIn cell (parts.own ++ parts.lent) → new cell ≡ old cell) → read new at ≡ Ok parts

-- and these are there
abbrev pub IsThere : {D R C : Type 0} → ((ℕ → Option D) → KeyReader R C) → Type 0
IsThere {D} {R} read = (cells : ℕ → Option D) (at : ℕ) (parts : KeyParts R) → read cells at ≡ Ok parts → (cell : ℕ) → IsIn cell (parts.own ++ parts.lent) → IsSome (cells cell)

-- cells come beside those that are there, and these stay
abbrev pub Grows : {D : Type 0} → (ℕ → Option D) → (ℕ → Option D) → Type 0
Grows old new = (cell : ℕ) → IsSome (old cell) → new cell ≡ old cell

-- none of the cells was there
abbrev pub AreNew : {D : Type 0} → (ℕ → Option D) → List ℕ → Type 0
AreNew old cells = (cell : ℕ) → IsIn cell cells → old cell ≡ None

-- all cells but one are the same
abbrev pub SameBut : {D : Type 0} → ℕ → (ℕ → Option D) → (ℕ → Option D) → Type 0
SameBut at old new = (cell : ℕ) → (cell ≡ at → ⊥) → new cell ≡ old cell

-- the cells that keys name and that other keys may name too are there
abbrev pub LentThere : {D R : Type 0} → (ℕ → Option D) → Keys R → Type 0
LentThere cells keys = (cell : ℕ) → IsIn cell (lent_cells keys) → IsSome (cells cell)

-- the key at an offset and all below it were written, into new cells alone
pub record KeyIsWritten {D R C : Type 0} (read : (ℕ → Option D) → KeyReader R C) (old new : ℕ → Option D) (at : ℕ) (parts : KeyParts R) (below : Keys R) : Type 0 where
  pub whole : Whole (read new) at parts below
  pub grows : Grows old new
  pub fresh : AreNew old (parts.own ++ own_cells below)

-- so were the first of a key's subkeys
pub record SubkeysAreWritten {D R C : Type 0} (read : (ℕ → Option D) → KeyReader R C) (old new : ℕ → Option D) (subkey_list : Keys R) : Type 0 where
  pub fits : CellsMatchKeys (read new) subkey_list
  pub inner : Inner subkey_list
  pub once : Once (own_cells subkey_list)
  pub grows : Grows old new
  pub fresh : AreNew old (own_cells subkey_list)
