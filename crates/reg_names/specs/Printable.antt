-- Printable ASCII, which texts, prefixes and exports have as it is. What names may have is said in Names.
use Rattle.std.specs.Prelude.{ℕ, nat_le, Bool, ◌&&◌}

-- a unit of printable ASCII: 0x20 to 0x7e
abbrev pub is_printable : ℕ → Bool
is_printable u = nat_le 32 u && nat_le u 126
