use Rattle.std.proofs.Common.{◌≡◌, ℕ, ◌<◌, length, drop, map}
use Rattle.std.specs.Prelude.{slice_index}
use Rattle.disk_model.specs.FileState.{IsWritten}
use Rattle.disk_model.specs.PendingWrites.{range_of}
use Rattle.disk_model.proofs.mem_file.catch_up.Given as goal

-- what isn't in a write still to come is as a read gives it
abbrev pub invariant-loop-write : goal.invariant-loop-write
invariant-loop-write l = record {
  size : length l.synced.items ≡ length l.seen;
  same : (p : ℕ) → p < length l.seen → (IsWritten (map range_of (drop l.write-index l.written)) p → ⊥) → slice_index l.synced.items p ≡ slice_index l.seen p;
}
