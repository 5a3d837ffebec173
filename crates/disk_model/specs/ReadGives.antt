-- What a read gives if every write was done whole.
use Rattle.std.specs.Prelude.{◌≡◌, ℕ, ◌+◌, ◌-◌, ◌<◌, if◌then◌else◌, ◌&&◌, nat_le, nat_lt, List, [], ◌∷◌, length, slice_index}
use Rattle.disk_model.specs.FileState.{WrittenRange, FileState}

-- the byte that the newest range gives which has one at the offset; if none has, the synced one
abbrev pub shown : List WrittenRange → List ℕ → ℕ → ℕ
shown [] synced p = slice_index synced p
shown (range ∷ ranges) synced p = if nat_le range.from p && nat_lt p (range.from + length range.bytes) then slice_index range.bytes (p - range.from) else shown ranges synced p

-- Below the least length a read gives what was written last there, or else what was synced. It fails if a write was
-- done in part.
abbrev pub ReadGivesLastWrites : FileState → Type 0
ReadGivesLastWrites file = (p : ℕ) → p < file.least → slice_index file.seen p ≡ shown file.ranges file.synced p
