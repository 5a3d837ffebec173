-- Cells of a file: their data are bytes.
use Rattle.std.specs.Prelude.{◌≡◌, ℕ, ◌<◌, List, Some}
use Rattle.std.specs.List.{AllByRecursion}
use Rattle.hive_cells.specs.Bins.{Cells}

abbrev pub AreBytes : List ℕ → Type 0
AreBytes bytes = AllByRecursion (λ b. b < 0x100) bytes

abbrev pub HoldBytes : Cells → Type 0
HoldBytes cells = (at : ℕ) (bytes : List ℕ) → cells at ≡ Some bytes → AreBytes bytes
