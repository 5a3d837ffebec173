-- What is known while the keys of an image are read, one after another, each cell marked as it is looked at.
use Rattle.std.specs.Prelude.{◌≡◌, ◌⊎◌, ◌↔◌, ℕ, Bool, true, false, List, ◌++◌}
use Rattle.hive_tree_model.specs.Lists.{IsIn, Once}
use Rattle.hive_tree_model.specs.Keys.{KeyParts, KeyReader, Keys, none, key, own_cells}
use Rattle.hive_tree_model.specs.Encodings.{CellsMatchKeys, Named, Whole}
use Rattle.hive_tree_model.specs.Chains.{WayLeadsTo}
use Rattle.hive_tree_model.specs.Faults.{KeyIsUnreadable, HasNamelessKey, HasSubkeysAlike, KeyRepeatsCell, Shared}

-- which cells have been looked at
abbrev pub CellMarks : Type 0
CellMarks = ℕ → Bool

-- cells that were not marked, and none of them twice, now are; other marks stay
pub record Marked (old new : CellMarks) (cells : List ℕ) : Type 0 where
  pub fresh : (cell : ℕ) → IsIn cell cells → old cell ≡ false
  pub once : Once cells
  pub now : (cell : ℕ) → (new cell ≡ true) ↔ ((old cell ≡ true) ⊎ IsIn cell cells)

-- the key at an offset and all below it were read, and their cells marked
abbrev pub Loaded : {R C : Type 0} → KeyReader R C → CellMarks → CellMarks → ℕ → KeyParts R → Keys R → Type 0
Loaded reads old new at parts below = Whole reads at parts below × Marked old new (parts.own ++ own_cells below)

-- keys beside one another whose names have not been compared yet, each with named keys below it
abbrev pub Inner : {R : Type 0} → Keys R → Type 0
Inner none = Unit {0}
Inner (key at parts below after) = Named below × Inner after

-- so were the first of a key's subkeys
pub record Loading {R C : Type 0} (reads : KeyReader R C) (old new : CellMarks) (subkey_list : Keys R) : Type 0 where
  pub fits : CellsMatchKeys reads subkey_list
  pub inner : Inner subkey_list
  pub marked : Marked old new (own_cells subkey_list)

-- keys with one more at the end
abbrev pub with_last : {R : Type 0} → Keys R → ℕ → KeyParts R → Keys R → Keys R
with_last none at parts below = key at parts below none
with_last (key to its subkey_list after) at parts below = key to its subkey_list (with_last after at parts below)

-- a way leads from the key at an offset to a key with a cell that was marked before
abbrev pub MeetsMarkedCell : {R C : Type 0} → (ℕ → List ℕ) → KeyReader R C → CellMarks → ℕ → Type 0
MeetsMarkedCell trail reads marks at = (way : List ℕ) × (to : ℕ) × (cell : ℕ) × WayLeadsTo reads at way to × IsIn cell (trail to) × (marks cell ≡ true)

-- A cause reported for the key at an offset and what is below it is true there. The key at the end of a way can't be
-- read for that cause; a name is missing or there twice; a cell is reached twice, or was marked before.
abbrev pub HasFault : {R C : Type 0} → (ℕ → List ℕ) → KeyReader R C → C → C → CellMarks → ℕ → C → Type 0
HasFault trail reads bad_name shared marks at cause =
    KeyIsUnreadable reads at cause
    ⊎ (((cause ≡ bad_name) × (HasNamelessKey reads at ⊎ HasSubkeysAlike reads at))
    ⊎ ((cause ≡ shared) × (KeyRepeatsCell trail reads at ⊎ (Shared trail reads at ⊎ MeetsMarkedCell trail reads marks at))))
