-- What is refused that was read with fresh marks.
use Rattle.std.proofs.Common.{◌≡◌, ◌⊎◌, inl, inr, ℕ, false, Err}
use Rattle.refusals.specs.declared.refusal.Refusal.{Refusal}
use Rattle.refusals.specs.declared.refusal.Refusal.TheVariants as refusal
use Rattle.hive_cells.specs.Bins.{Cells}
use Rattle.hive_tree_model.specs.Loads.{CellMarks}
use Rattle.hive_tree_model.proofs.Basics.{clash}
use Rattle.hive_records.specs.Readers.{Reader}
use Rattle.hive_records.specs.Follows.{Follows}
use Rattle.hive_lookup.specs.Lookups.{IsUnreadFor}

pub refused_unread : {A : Type 0} (m : Reader A) (cells : Cells) (old new : CellMarks) (why : Refusal) → ((at : ℕ) → old at ≡ false) → Follows m cells old new (Err why) → (why ≡ refusal.NoMemory) ⊎ IsUnreadFor (m cells) why
refused_unread m cells old new why unset (inl e) = inl e
refused_unread m cells old new why unset (inr (inl e)) = inr (inl e)
refused_unread m cells old new why unset (inr (inr h)) = inr (inr (h.0, elim h.1 [ inl met ↦ clash (old met.0) met.2 (unset met.0) | inr twice ↦ twice ]))
