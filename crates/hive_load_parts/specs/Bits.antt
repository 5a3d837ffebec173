-- Flags as bits of words: the flag of the k-th slot is bit k % 64 of word k / 64.
use Rattle.std.specs.Prelude.{ℕ, ◌*◌, ◌/◌, ◌%◌, ◌==◌, Bool, List, length, map, slice_index}
use Rattle.std.specs.List.{range_with_len}
use Rattle.std.specs.Int.{bit_at}

-- the flag of a slot
abbrev pub bit_of : List ℕ → ℕ → Bool
bit_of words slot = bit_at (slice_index words (slot / 64)) (slot % 64) == 1

-- the flags of all slots
abbrev pub bits_of : List ℕ → List Bool
bits_of words = map (λ slot. bit_of words slot) (range_with_len 0 (64 * length words))
