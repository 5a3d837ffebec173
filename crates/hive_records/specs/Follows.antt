-- What a function answers that reads cells by a reader. It marks each cell of its own as it looks at it, so that none
-- is looked at twice.
use Rattle.std.specs.Prelude.{◌≡◌, ◌⊎◌, ℕ, true, List, Result, Ok, Err}
use Rattle.refusals.specs.declared.refusal.Refusal.{Refusal}
use Rattle.refusals.specs.declared.refusal.Refusal.TheVariants as refusal
use Rattle.refusals.specs.declared.refusal.Cause.TheVariants as cause
use Rattle.hive_tree_model.specs.Lists.{IsIn, Once}
use Rattle.hive_tree_model.specs.Loads.{CellMarks, Marked}
use Rattle.hive_records.specs.Readers.{Reader}
use Rattle.hive_cells.specs.Bins.{Cells}

-- one of the cells was marked before, or is twice among them
abbrev pub Meets : CellMarks → List ℕ → Type 0
Meets old cells = ((cell : ℕ) × IsIn cell cells × (old cell ≡ true)) ⊎ (Once cells → ⊥)

-- the answer is what is read, and its cells are marked. Or it is a refusal: the one that is read, or one that says that
-- a cell was met again, or that memory was refused
abbrev pub Follows : {A : Type 0} → Reader A → Cells → CellMarks → CellMarks → Result A Refusal → Type 0
Follows m cells old new (Ok x) = ((m cells).says ≡ Ok x) × Marked old new (m cells).own
Follows m cells old new (Err r) = (r ≡ refusal.NoMemory) ⊎ (((m cells).says ≡ Err r) ⊎ ((r ≡ refusal.HiveDamaged 0 cause.Shared) × Meets old (m cells).own))
