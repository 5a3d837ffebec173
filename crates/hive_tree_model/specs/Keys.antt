-- What is read of an image, key by key. How the cells of one key are read is left open. For an offset `reads` gives
-- what the cells of the key there say, or the cause for which they say nothing.
use Rattle.std.specs.Prelude.{ℕ, List, [], ◌∷◌, ◌++◌, Result}

-- what the cells of one key say: its folded name, its row, the offsets of its subkeys in the order of its lists. And
-- which cells these are: those that belong to it alone, and those that other keys may name too
pub record KeyParts (R : Type 0) : Type 0 where
  pub name : List ℕ
  pub row : R
  pub subkey_list : List ℕ
  pub own : List ℕ
  pub lent : List ℕ

abbrev pub KeyReader : Type 0 → Type 0 → Type 0
KeyReader R C = ℕ → Result (KeyParts R) C

-- keys beside one another, each with its offset, what its cells say, and the keys below it; then those after it
pub data Keys (R : Type 0) : Type 0 where
  none : Keys R
  key : ℕ → KeyParts R → Keys R → Keys R → Keys R

-- the offsets and the folded names of keys beside one another
abbrev pub offsets : {R : Type 0} → Keys R → List ℕ
offsets none = []
offsets (key at parts below after) = at ∷ offsets after

abbrev pub names : {R : Type 0} → Keys R → List (List ℕ)
names none = []
names (key at parts below after) = parts.name ∷ names after

-- the cells that belong to one key alone, of all of these keys and those below them
abbrev pub own_cells : {R : Type 0} → Keys R → List ℕ
own_cells none = []
own_cells (key at parts below after) = (parts.own ++ own_cells below) ++ own_cells after

-- all cells that are read of them
abbrev pub all_cells : {R : Type 0} → Keys R → List ℕ
all_cells none = []
all_cells (key at parts below after) = ((parts.own ++ parts.lent) ++ all_cells below) ++ all_cells after

-- the cells that they name and that other keys may name too
abbrev pub lent_cells : {R : Type 0} → Keys R → List ℕ
lent_cells none = []
lent_cells (key at parts below after) = (parts.lent ++ lent_cells below) ++ lent_cells after
