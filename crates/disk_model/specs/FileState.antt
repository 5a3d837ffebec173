-- One file at one moment: what is on the disk for certain, what a read gives, and what is still on its way.
use Rattle.std.specs.Prelude.{◌≡◌, ◌⊎◌, ℕ, ◌+◌, ◌-◌, ◌<◌, ◌≤◌, min, max, List, [], ◌∷◌, ◌++◌, length, take, drop, replicate, slice_index}

-- the bytes of one write, and the offset of the first of them
pub record WrittenRange : Type 0 where
  pub from : ℕ
  pub bytes : List ℕ

pub record FileState : Type 0 where
  -- the bytes at the last sync
  pub synced : List ℕ
  -- what a read gives
  pub seen : List ℕ
  -- what has been written since that sync, also by writes that failed, the newest first
  pub ranges : List WrittenRange
  -- the least and the greatest length since that sync, also by cuts and writes that failed
  pub least : ℕ
  pub greatest : ℕ

-- all of the file is on the disk: it was just synced, or a crash left it, or it was never written
abbrev pub at_rest : List ℕ → FileState
at_rest bytes = record { synced = bytes; seen = bytes; ranges = []; least = length bytes; greatest = length bytes }

-- the range has a byte at this offset
abbrev pub Covers : WrittenRange → ℕ → Type 0
Covers range p = (range.from ≤ p) × (p < range.from + length range.bytes)

-- one of the ranges has a byte at this offset
abbrev pub IsWritten : List WrittenRange → ℕ → Type 0
IsWritten [] p = ⊥
IsWritten (range ∷ ranges) p = Covers range p ⊎ IsWritten ranges p

-- A crash at this moment may leave these bytes. They have some length that the file has had since the last sync. They
-- are as they were at that sync below the least length and outside what was written. All else is anything. Nothing here
-- says that what is left there are bytes, so a definition that reads what a crash left has to answer at lists of any
-- numbers.
pub record Leaves (file : FileState) (bytes : List ℕ) : Type 0 where
  pub no_shorter : file.least ≤ length bytes
  pub no_longer : length bytes ≤ file.greatest
  pub kept : (p : ℕ) → p < file.least → (IsWritten file.ranges p → ⊥) → slice_index bytes p ≡ slice_index file.synced p

-- the bytes made this long: cut at the end, or with zeros after them
abbrev pub resized : List ℕ → ℕ → List ℕ
resized bytes len = take len bytes ++ replicate (len - length bytes) 0

-- these bytes put at an offset; past the end the file gets longer, with zeros between; no bytes change nothing
abbrev pub put : List ℕ → ℕ → List ℕ → List ℕ
put file offset [] = file
put file offset (byte ∷ bytes) = resized file offset ++ byte ∷ bytes ++ drop (offset + length (byte ∷ bytes)) file

-- after a write of these bytes, done or failed, with what a read gives then
abbrev pub after_write : FileState → ℕ → List ℕ → List ℕ → FileState
after_write file offset bytes seen = record {
  synced = file.synced;
  seen = seen;
  ranges = record { from = offset; bytes = bytes } ∷ file.ranges;
  least = file.least;
  greatest = max file.greatest (length (put file.seen offset bytes));
}

-- a write that is done
abbrev pub Writes : ℕ → List ℕ → FileState → FileState → Type 0
Writes offset bytes old new = new ≡ after_write old offset bytes (put old.seen offset bytes)

-- What may be there after a write that failed: any bytes in its range, and the length before, after or between.
-- Elsewhere it is as if the write were done.
pub record PutsPart (offset : ℕ) (bytes old new : List ℕ) : Type 0 where
  pub no_shorter : length old ≤ length new
  pub no_longer : length new ≤ length (put old offset bytes)
  pub elsewhere : (p : ℕ) → p < length new → (Covers (record { from = offset; bytes = bytes }) p → ⊥) → slice_index new p ≡ slice_index (put old offset bytes) p

-- a write that failed: nothing was done, or any part of it
abbrev pub MayWrite : ℕ → List ℕ → FileState → FileState → Type 0
MayWrite offset bytes old new = (new ≡ old) ⊎ ((seen : List ℕ) × PutsPart offset bytes old.seen seen × (new ≡ after_write old offset bytes seen))

-- after a cut to this length, done or failed, with what a read gives then
abbrev pub after_cut : FileState → ℕ → List ℕ → FileState
after_cut file len seen = record {
  synced = file.synced;
  seen = seen;
  ranges = file.ranges;
  least = min file.least len;
  greatest = max file.greatest len;
}

-- a cut that is done; one past the end makes the file longer, by zeros
abbrev pub Cuts : ℕ → FileState → FileState → Type 0
Cuts len old new = new ≡ after_cut old len (resized old.seen len)

-- a cut that failed: nothing was done, or it is on its way, whether or not a read shows it
abbrev pub MayCut : ℕ → FileState → FileState → Type 0
MayCut len old new = (new ≡ old) ⊎ ((seen : List ℕ) × ((seen ≡ old.seen) ⊎ (seen ≡ resized old.seen len)) × (new ≡ after_cut old len seen))

-- a sync that is done: what a read gives is on the disk, and nothing is on its way
abbrev pub Syncs : FileState → FileState → Type 0
Syncs old new = new ≡ at_rest old.seen

-- what a read gives is one of the lists that a crash may leave, and each length was had
pub record IsSound (file : FileState) : Type 0 where
  pub left : Leaves file file.seen
  pub was_longer : file.least ≤ length file.synced
  pub was_no_longer : length file.synced ≤ file.greatest
