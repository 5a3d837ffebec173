-- Marks of pages, as bits of words and as bits of bytes.
use Rattle.std.specs.Prelude.{◌≡◌, ◌≤◌, ◌<◌, ℕ, zero, suc, ◌+◌, ◌/◌, ◌%◌, ◌==◌, nat_le, ◌&&◌, not, Bool, if◌then◌else◌, List, slice_index, true, length, ◌*◌}
use Rattle.std.specs.Int.{bit_at}
use Rattle.std.specs.Ordering.{nat_cmp}
use Rattle.std.specs.FinSet as set

-- the mark of a page in words: bit page % 64 of word page / 64
abbrev pub is_marked : List ℕ → ℕ → Bool
is_marked words page = bit_at (slice_index words (page / 64)) (page % 64) == 1

-- the mark of a page in a bitmap, the least significant bit of a byte first: bit page % 8 of byte page / 8
abbrev pub is_marked_in_bitmap : List ℕ → ℕ → Bool
is_marked_in_bitmap bitmap page = bit_at (slice_index bitmap (page / 8)) (page % 8) == 1

-- how many pages below n are marked
abbrev pub marked_count : (ℕ → Bool) → ℕ → ℕ
marked_count mark zero = 0
marked_count mark (suc n) = marked_count mark n + (if mark n then 1 else 0)

-- the marked pages below n
unfoldable pub marked_below : (ℕ → Bool) → ℕ → set.FinSet nat_cmp
marked_below mark zero = set.empty
marked_below mark (suc n) = if mark n then set.insert (marked_below mark n) n else marked_below mark n

-- a word with just the bits from low to high
abbrev pub IsMask : ℕ → ℕ → ℕ → Type 0
IsMask word low high = (bit : ℕ) → bit < 64 → ((bit_at word bit == 1) ≡ ((nat_le low bit) && (nat_le bit high)))

-- the first bit from low on that is set, or that is not set if marked is false; 64 if there is none
pub record IsFirstBit (word : ℕ) (marked : Bool) (low result : ℕ) : Type 0 where
  pub after : low ≤ result
  pub within : result ≤ 64
  pub before : (bit : ℕ) → low ≤ bit → bit < result → (bit_at word bit == 1) ≡ not marked
  pub here : result < 64 → (bit_at word result == 1) ≡ marked

-- a marked page with n marked pages before it
abbrev pub IsNthMark : List ℕ → ℕ → ℕ → Type 0
IsNthMark words n page = (is_marked words page ≡ true) × (page < 64 * length words) × (marked_count (is_marked words) page ≡ n)
