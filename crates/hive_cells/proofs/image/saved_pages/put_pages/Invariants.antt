use Rattle.std.proofs.Common.{◌≡◌, ◌⊎◌, ◌<◌, ◌≤◌, ◌/◌, ℕ, List, length, slice_index}
use Rattle.hive_cells.specs.Restores.{IsSaved, IsAt}
use Rattle.hive_cells.proofs.image.saved_pages.put_pages.Given as goal

abbrev pub invariant-loop-index : goal.invariant-loop-index
invariant-loop-index l =
    (length l.bytes ≡ length l.fn.bytes)
    × ((old : List ℕ) → IsSaved old l.fn.bytes l.fn.order l.fn.saved → (i : ℕ) → i < length old → (slice_index l.bytes i ≡ slice_index old i) ⊎ ((k : ℕ) × (l.index ≤ k) × IsAt l.fn.order k (i / 512)))
