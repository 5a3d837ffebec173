-- New data of a value, in cells that were not there.
use Rattle.std.specs.Prelude.{ℕ, List}
use Rattle.hive_tree_model.specs.Cells.{Grows}
use Rattle.hive_cells.specs.Bins.{Cells, Shows}

-- Cells come beside those that are there, which stay. Something holds of the cells before and after.
abbrev pub Inserts : List ℕ → List ℕ → (Cells → Cells → Type 0) → Type 0
Inserts old_bytes new_bytes Made = (before : Cells) → Shows old_bytes before → (after : Cells) × Shows new_bytes after × Grows before after × Made before after
