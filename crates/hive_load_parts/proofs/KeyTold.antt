-- What the law of shapes makes of a key that was read, or refused.
use Rattle.std.proofs.Common.{◌≡◌, ◌⊎◌, inl, inr, ℕ, List, [], refl, ap, Bool, Ok, Err}
use Rattle.refusals.specs.declared.refusal.Refusal.{Refusal}
use Rattle.refusals.specs.declared.refusal.Refusal.TheVariants as refusal
use Rattle.refusals.specs.declared.refusal.Cause.TheVariants as cause
use Rattle.reg_tree_parts.specs.Rows.{Row}
use Rattle.hive_tree_model.specs.Loads.{CellMarks, Marked, HasFault}
use Rattle.hive_cells.specs.Bins.{Cells}
use Rattle.hive_records.specs.KeyNodes.{key_at, parts_if, keys_in, trail_in}
use Rattle.hive_records.specs.Follows.{Follows}
use Rattle.hive_load_parts.specs.PartsOfKey.{parts_at}

module _ (split : Bool) (cells : Cells) (at : ℕ) (old new : CellMarks) where
  pub key_parts : (row : Row) (subkey_list : List ℕ) → Follows (key_at split at) cells old new (Ok (row, subkey_list)) → (keys_in split cells at ≡ Ok (parts_at split cells at row subkey_list)) × Marked old new (trail_in split cells at)
  key_parts row subkey_list h = (ap (parts_if (key_at split at cells).own (key_at split at cells).lent) h.0, h.1)

  pub key_told : (r : Refusal) → Follows (key_at split at) cells old new (Err r) →
      (r ≡ refusal.NoMemory) ⊎ HasFault (trail_in split cells) (keys_in split cells) (refusal.HiveDamaged 0 cause.BadName) (refusal.HiveDamaged 0 cause.Shared) old at r
  key_told r (inl e) = inl e
  key_told r (inr (inl e)) = inr (inl ([], at, refl, ap (parts_if (key_at split at cells).own (key_at split at cells).lent) e))
  key_told r (inr (inr h)) = inr (inr (inr (
    h.0,
    elim h.1 [
      | inl m ↦ inr (inr ([], at, m.0, refl, m.1, m.2))
      | inr twice ↦ inl ([], at, refl, twice)
    ],
  )))
