-- The first sector of a registry file, the base block (regf format, base block): 512 bytes, the last four of which are
-- the sum.
use Rattle.std.specs.Prelude.{◌≡◌, ◌⊎◌, ℕ, zero, suc, ◌+◌, ◌*◌, ◌≤◌, List, [], ◌∷◌, length, take, slice_index, bit_xor, if◌then◌else◌, ◌==◌, ◌&&◌, nat_le, Option, Some, None}
use Rattle.disk_model.specs.FileState.{WrittenRange, FileState}

-- the word of 32 bits at an offset, the lowest byte first
abbrev pub word_at : List ℕ → ℕ → ℕ
word_at bytes p = slice_index bytes p + 256 * (slice_index bytes (p + 1) + 256 * (slice_index bytes (p + 2) + 256 * slice_index bytes (p + 3)))

-- the XOR of the first n words
abbrev pub xor_of_words : ℕ → List ℕ → ℕ
xor_of_words zero bytes = 0
xor_of_words (suc n) bytes = bit_xor (xor_of_words n bytes) (word_at bytes (4 * n))

-- an XOR as a sum is stored: never 0, and never all ones
abbrev pub stored : ℕ → ℕ
stored sum = if sum == 0xffff_ffff then 0xffff_fffe else (if sum == 0 then 1 else sum)

-- the sum of a sector: of its first 127 words, which are 508 bytes
unfoldable pub sum_of : List ℕ → ℕ
sum_of sector = stored (xor_of_words 127 sector)

-- the sector is whole, and its last word is its sum
pub record HasRightSum (sector : List ℕ) : Type 0 where
  pub whole : 512 ≤ length sector
  pub sum : word_at sector 508 ≡ sum_of sector

-- the first sector that was handed to a write last, of ranges with the newest first
abbrev pub last_sector : List WrittenRange → Option (List ℕ)
last_sector [] = None
last_sector (range ∷ ranges) = if (range.from == 0) && nat_le 512 (length range.bytes) then Some (take 512 range.bytes) else last_sector ranges

-- A first sector is honest if its sum can tell whether it is torn. It is the one last synced, or the one that was last
-- handed to a write since, or its sum doesn't match.
abbrev pub IsHonest : FileState → List ℕ → Type 0
IsHonest file bytes = (take 512 bytes ≡ take 512 file.synced) ⊎ ((last_sector file.ranges ≡ Some (take 512 bytes)) ⊎ ¬ (HasRightSum (take 512 bytes)))
