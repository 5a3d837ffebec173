use Rattle.std.proofs.Common.{◌≡◌, ℕ, ◌<◌, length, take}
use Rattle.std.specs.Prelude.{slice_index, map, reverse}
use Rattle.disk_model.specs.Tear.{torn_byte}
use Rattle.disk_model.specs.PendingWrites.{range_of}
use Rattle.disk_model.proofs.tear.torn.Given as goal

abbrev pub invariant-loop-write : goal.invariant-loop-write
invariant-loop-write l = record {
  size : length l.bytes.items ≡ length l.seen;
  each : (p : ℕ) → p < length l.seen → slice_index l.bytes.items p ≡ torn_byte (reverse (map range_of (take l.write-index l.written))) l.seen p;
}
