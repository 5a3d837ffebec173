-- Numbers as they are written, and what it means that reading gives a value from cells with given bytes.
use Rattle.std.specs.Prelude.{◌≡◌, ℕ, List, ◌++◌, Some, Ok}
use Rattle.byteorder.specs.Endian.{little_bytes}
use Rattle.hive_records.specs.Readers.{Reader}
use Rattle.hive_cells.specs.Bins.{Cells}

-- a number in two bytes, in four, in eight, the lowest first
abbrev pub u16_bytes : ℕ → List ℕ
u16_bytes n = little_bytes 2 n

abbrev pub u32_bytes : ℕ → List ℕ
u32_bytes n = little_bytes 4 n

abbrev pub u64_bytes : ℕ → List ℕ
u64_bytes n = little_bytes 8 n

-- the cell at an offset is allocated, and its data begin with given bytes
abbrev pub CellHolds : Cells → ℕ → List ℕ → Type 0
CellHolds cells at encoding = (rest : List ℕ) × (cells at ≡ Some (encoding ++ rest))

-- reading gives a value, and this is the trail: the cells of the key's own that are looked at, and the lent ones
pub record Gives {A : Type 0} (m : Reader A) (cells : Cells) (own lent : List ℕ) (x : A) : Type 0 where
  pub reads : m cells ≡ record { own = own; lent = lent; says = Ok x }
