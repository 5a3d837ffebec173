-- The sum of a base block (regf format, base block: checksum).
use Rattle.std.specs.Prelude.{ℕ, zero, suc, ◌*◌, ◌==◌, if◌then◌else◌, bit_xor, List, [], ◌∷◌, drop}
use Rattle.std.specs.Int.{w32, from_le_bytes}
use Rattle.byteorder.specs.Endian.{little_number}

-- the i-th word of 32 bits, the lowest byte first
abbrev pub word_at : ℕ → List ℕ → ℕ
word_at i bytes = little_number 4 (drop (4 * i) bytes)

-- the XOR of the first n words
abbrev pub xor_of_words : ℕ → List ℕ → ℕ
xor_of_words zero bytes = 0
xor_of_words (suc n) bytes = bit_xor (xor_of_words n bytes) (word_at n bytes)

-- an XOR as it is stored: 0xfffffffe instead of 0xffffffff, and 1 instead of 0
abbrev pub stored_sum : ℕ → ℕ
stored_sum xor = if xor == 0xffff_ffff then 0xffff_fffe else (if xor == 0 then 1 else xor)

-- the sum of a sector: of its first 127 words
unfoldable pub sum_of : List ℕ → ℕ
sum_of bytes = stored_sum (xor_of_words 127 bytes)

-- the bytes as words of 32 bits, the lowest byte first
abbrev pub words : List ℕ → List ℕ
words (a ∷ b ∷ c ∷ d ∷ rest) = from_le_bytes w32 (a ∷ b ∷ c ∷ d ∷ []) ∷ words rest
words rest = []
