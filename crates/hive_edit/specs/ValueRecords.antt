-- A new value's record and data, in new cells.
use Rattle.std.specs.Prelude.{◌≡◌, true, ℕ, List, [], None, IsSome}
use Rattle.hive_tree_model.specs.Lists.{IsIn, Once}
use Rattle.hive_cells.specs.Bins.{Cells, Shows}
use Rattle.hive_records.specs.Fields.{Gives}
use Rattle.hive_records.specs.Values.{value_at}
use Rattle.reg_tree_parts.specs.declared.value.Value.{Value}

-- Cells come, from which a value is read whose record is at an offset. All cells that were there stay.
pub record RecordIsAdded (before after : Cells) (at : ℕ) (value : Value) : Type 0 where
  pub own : List ℕ
  pub once : Once own
  pub fresh : (cell : ℕ) → IsIn cell own → before cell ≡ None
  pub there : (cell : ℕ) → IsIn cell own → IsSome (after cell)
  pub stays : (cell : ℕ) → IsSome (before cell) → after cell ≡ before cell
  pub reads : Gives (value_at true at) after own [] value

-- the same of two images
abbrev pub AddsRecord : List ℕ → List ℕ → Value → ℕ → Type 0
AddsRecord old_bytes new_bytes value at = (before : Cells) → Shows old_bytes before → (after : Cells) × Shows new_bytes after × RecordIsAdded before after at value
