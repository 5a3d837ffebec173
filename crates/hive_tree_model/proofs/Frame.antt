-- Cells that nothing read depends on may change.
use Rattle.std.proofs.Common.{◌≡◌, ℕ, ◌++◌, Option}
use Rattle.hive_tree_model.specs.Lists.{IsIn}
use Rattle.hive_tree_model.specs.Keys.{KeyParts, KeyReader, Keys, none, key, all_cells}
use Rattle.hive_tree_model.specs.Encodings.{CellsMatchKeys, Whole}
use Rattle.hive_tree_model.specs.Cells.{IsLocal}
use Rattle.hive_tree_model.proofs.Basics.{in_front, in_back}

module _ {D R C : Type 0} (read : (ℕ → Option D) → KeyReader R C) (local : IsLocal read) (old new : ℕ → Option D) where
  pub fits_still : (f : Keys R) → CellsMatchKeys (read old) f → ((cell : ℕ) → IsIn cell (all_cells f) → new cell ≡ old cell) → CellsMatchKeys (read new) f
  fits_still none fits stay = tt
  fits_still (key at p below after) fits stay = (
    local old new at p fits.0 (λ cell h. stay cell (in_front cell ((p.own ++ p.lent) ++ all_cells below) (all_cells after) (in_front cell (p.own ++ p.lent) (all_cells below) h))),
    fits.1,
    fits_still below fits.2 (λ cell h. stay cell (in_front cell ((p.own ++ p.lent) ++ all_cells below) (all_cells after) (in_back cell (p.own ++ p.lent) (all_cells below) h))),
    fits_still after fits.3 (λ cell h. stay cell (in_back cell ((p.own ++ p.lent) ++ all_cells below) (all_cells after) h)),
  )

  pub whole_still : (at : ℕ) (p : KeyParts R) (below : Keys R) → Whole (read old) at p below → ((cell : ℕ) → IsIn cell ((p.own ++ p.lent) ++ all_cells below) → new cell ≡ old cell) → Whole (read new) at p below
  whole_still at p below w stay = record {
    read = local old new at p w.read (λ cell h. stay cell (in_front cell (p.own ++ p.lent) (all_cells below) h));
    listed = w.listed;
    fits = fits_still below w.fits (λ cell h. stay cell (in_back cell (p.own ++ p.lent) (all_cells below) h));
    named = w.named;
    once = w.once;
  }
