-- Sequence numbers (regf format, base block: primary and secondary sequence number).
use Rattle.std.specs.Prelude.{ℕ, ◌+◌, ◌%◌, ◌^◌}

-- the number that follows: 0 after the greatest of 32 bits
abbrev pub number_after : ℕ → ℕ
number_after n = (n + 1) % 2 ^ 32
