-- Which cells belong to a key.
use Rattle.std.specs.Prelude.{ℕ, ◌==◌, Bool, if◌then◌else◌, List, [], ◌∷◌}
use Rattle.hive_cells.specs.Tiles.{u32_at, cell_data}
use Rattle.hive_cells.specs.Bins.{Cells}
use Rattle.hive_records.specs.Numbers.{u16_at}
use Rattle.hive_edit_laws.specs.ValueEdits.{data_cells}

-- the cell of the class that a key node names; none if it has none
abbrev pub class_cells : List ℕ → List ℕ
class_cells node = if u16_at node 74 == 0 then [] else u32_at node 48 ∷ []

-- the cells of the value whose record is at an offset: the record and the cells of its data
abbrev pub record_cells : Bool → List ℕ → Cells → ℕ → List ℕ
record_cells split bytes cells at = at ∷ data_cells split cells (cell_data bytes at)
