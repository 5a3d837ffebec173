-- What a file in memory keeps, as its state.
use Rattle.std.specs.Prelude.{◌≡◌, ℕ, ◌<◌, ◌≤◌, List, length, map, reverse, take, drop, slice_index}
use Rattle.disk_model.specs.FileState.{WrittenRange, FileState, IsWritten}
use Rattle.disk_model.specs.declared.pending_write.PendingWrite.{PendingWrite}

-- a write's bytes are those that the file had in its range once it was done
abbrev pub range_of : PendingWrite → WrittenRange
range_of written = record { from = written.offset; bytes = take written.len (drop written.offset written.after.value.items) }

-- the bytes at the last sync, those that a read gives, the writes since, the oldest first, and the least and the
-- greatest length
abbrev pub file_of : List ℕ → List ℕ → List PendingWrite → ℕ → ℕ → FileState
file_of synced seen written least greatest = record { synced = synced; seen = seen; ranges = reverse (map range_of written); least = least; greatest = greatest }

-- two contents of a file, each at least this long, that differ below that length only at offsets that were written
pub record IsApart (ranges : List WrittenRange) (least : ℕ) (synced seen : List ℕ) : Type 0 where
  pub in_synced : least ≤ length synced
  pub in_seen : least ≤ length seen
  pub same : (p : ℕ) → p < least → (IsWritten ranges p → ⊥) → slice_index seen p ≡ slice_index synced p
