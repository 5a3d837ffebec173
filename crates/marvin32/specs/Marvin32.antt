-- Marvin32: a state of two halves takes the bytes word by word, and is mixed after each.
use Rattle.std.specs.Prelude.{ℕ, zero, suc, ◌+◌, ◌*◌, ◌/◌, ◌%◌, ◌^◌, bit_xor, List, [], ◌∷◌, ◌++◌, drop, length}
use Rattle.std.specs.Int.{w32, rotate_left}
use Rattle.byteorder.specs.Endian.{little_number}

-- the two halves of a state, mixed: by XOR, sums of 32 bits, and rotations by 20, 9, 27 and 19 bits
unfoldable pub mixed : ℕ → ℕ → ℕ × ℕ
mixed low high =
    let crossed = bit_xor high low in
    let first = (rotate_left w32 low 20 + crossed) % 2 ^ 32 in
    let turned = bit_xor (rotate_left w32 crossed 9) first in
    ((rotate_left w32 first 27 + turned) % 2 ^ 32, rotate_left w32 turned 19)

-- the state after a word: the word is added to the low half, and the halves are mixed
abbrev pub state_after : ℕ × ℕ → ℕ → ℕ × ℕ
state_after state word = mixed ((state.0 + word) % 2 ^ 32) state.1

-- the state after the first n words of the bytes, the lowest byte of a word first
abbrev pub state_after_words : ℕ × ℕ → ℕ → List ℕ → ℕ × ℕ
state_after_words seed zero bytes = seed
state_after_words seed (suc n) bytes = state_after (state_after_words seed n bytes) (little_number 4 (drop (4 * n) bytes))

-- the last word: the bytes that fill no word, then 0x80, then zeros
abbrev pub last_word_of : List ℕ → ℕ
last_word_of rest = little_number 4 (rest ++ 0x80 ∷ 0 ∷ 0 ∷ 0 ∷ [])

-- the state after all words and the last one
abbrev pub last_state : ℕ × ℕ → List ℕ → ℕ × ℕ
last_state seed bytes = state_after (state_after_words seed (length bytes / 4) bytes) (last_word_of (drop (4 * (length bytes / 4)) bytes))

-- the hash of bytes: the last state, mixed once more
abbrev pub hash_of : ℕ × ℕ → List ℕ → ℕ × ℕ
hash_of seed bytes = let state = last_state seed bytes in mixed state.0 state.1
