-- The three crashes that a disk in memory can show.
use Rattle.std.specs.Prelude.{◌≡◌, ⊤, ◌⊎◌, ℕ, ◌+◌, ◌-◌, ◌<◌, ◌≤◌, Bool, false, if◌then◌else◌, ◌==◌, ◌&&◌, nat_le, nat_lt, List, [], ◌∷◌, length, slice_index}
use Rattle.disk_model.specs.FileState.{WrittenRange, FileState, at_rest}
use Rattle.disk_model.specs.Sector.{HasRightSum}
use Rattle.disk_model.specs.declared.tear.Tear.{Tear}
use Rattle.disk_model.specs.declared.tear.Tear.TheVariants.{Old, New, Torn}

-- the newest range that has a byte at this offset ends with it
abbrev pub ends_newest : List WrittenRange → ℕ → Bool
ends_newest [] p = false
ends_newest (range ∷ ranges) p = if nat_le range.from p && nat_lt p (range.from + length range.bytes) then (p + 1 == range.from + length range.bytes) else ends_newest ranges p

-- the byte at an offset with the last of each range inverted, a newer range over an older one
abbrev pub torn_byte : List WrittenRange → List ℕ → ℕ → ℕ
torn_byte ranges seen p = if ends_newest ranges p then 255 - slice_index seen p else slice_index seen p

-- what a read gives, with the last byte of each range inverted that is written and not synced
pub record IsTorn (file : FileState) (bytes : List ℕ) : Type 0 where
  pub size : length bytes ≡ length file.seen
  pub each : (p : ℕ) → p < length file.seen → slice_index bytes p ≡ torn_byte file.ranges file.seen p

-- the bytes that such a crash leaves of a file
abbrev pub LeftBy : Tear → FileState → List ℕ → Type 0
LeftBy Old file bytes = bytes ≡ file.synced
LeftBy New file bytes = bytes ≡ file.seen
LeftBy Torn file bytes = IsTorn file bytes

-- a file after such a crash: all that is left counts as synced
abbrev pub IsCrashOf : Tear → FileState → FileState → Type 0
IsCrashOf tear old new = (bytes : List ℕ) × LeftBy tear old bytes × (new ≡ at_rest bytes)

-- Of the writes since the last sync each either is one whole first sector with the right sum, or begins after the first
-- sector; and the file was never shorter than it.
abbrev pub AllWholeSectors : List WrittenRange → Type 0
AllWholeSectors [] = ⊤
AllWholeSectors (range ∷ ranges) = ((512 ≤ range.from) ⊎ ((range.from ≡ 0) × (length range.bytes ≡ 512) × HasRightSum range.bytes)) × AllWholeSectors ranges

abbrev pub WritesWholeSectors : FileState → Type 0
WritesWholeSectors file = (512 ≤ file.least) × AllWholeSectors file.ranges
