-- The cells that belong to a key alone, and how they are freed.
use Rattle.std.specs.Prelude.{◌≡◌, ℕ, true, List, ◌∷◌, flat_map}
use Rattle.base_block.specs.declared.block.TheConstants.{MINOR_VERSION}
use Rattle.reg_tree.specs.Maps.{TreeMap}
use Rattle.hive_cells.specs.Tiles.{u32_at, cell_data}
use Rattle.hive_cells.specs.Bins.{Cells}
use Rattle.hive_records.specs.Numbers.{u16_at, words_from}
use Rattle.hive_records.specs.KeyNodes.{trail_in}
use Rattle.hive_edit_laws.specs.Found.{KeyFound}
use Rattle.hive_edit_laws.specs.KeyCells.{record_cells}
use Rattle.hive_edit.specs.DataPlaces.{IsDataPlace, FreesCells}
use Rattle.hive_edit.specs.SegmentCells.{data_cells_at}
use Rattle.hive_edit.specs.declared.key_frees.KeyClass.{KeyClass}
use Rattle.hive_edit.specs.declared.value_data.DataPlace.{DataPlace}

-- a key node names this class
pub record IsClassOf (node : List ℕ) (class : KeyClass) : Type 0 where
  pub len_is : class.len ≡ u16_at node 74
  pub at_is : class.at ≡ u32_at node 48

-- of two images' cells only a value's record and the cells of its data differ
abbrev pub FreesRecord : List ℕ → List ℕ → ℕ → Type 0
FreesRecord old_bytes new_bytes at = (place : DataPlace) × IsDataPlace (cell_data old_bytes at) place × FreesCells old_bytes new_bytes (at ∷ data_cells_at old_bytes at place)

-- the records whose offsets are the first ones of the list of values at an offset, and the cells of their data
abbrev pub list_record_cells : List ℕ → Cells → ℕ → ℕ → List ℕ
list_record_cells bytes cells list count = flat_map (λ (at : ℕ). record_cells true bytes cells at) (words_from (cell_data bytes list) 0 4 count)

-- of two images' cells only those differ that belong alone to the key whose node is at an offset
abbrev pub FreesKey : List ℕ → List ℕ → ℕ → Type 0
FreesKey old_bytes new_bytes key = (root : ℕ) (tree : TreeMap) (path : List (List ℕ)) → (found : KeyFound old_bytes root MINOR_VERSION tree path key) → FreesCells old_bytes new_bytes (trail_in true found.cells key)
