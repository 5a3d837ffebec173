-- What contracts see of an image.
use Rattle.std.specs.Prelude.{◌≡◌, ℕ, List, Option, MatchOption, refl}
use Rattle.std.specs.Coded.{Coded, code_by, coded×, coded_ℕ, coded_list}
use Rattle.hive_cells.specs.Tiles.{IsAllocatedCell, cell_data}

-- hive bins data, and by how many bytes they may get longer without memory
pub record Bins : Type 0 where
  pub bytes : List ℕ
  pub spare : ℕ

abbrev pub bins_code : Coded Bins
bins_code = code_by (List ℕ × ℕ) (coded× (coded_list coded_ℕ) coded_ℕ) (λ b. (b.bytes, b.spare)) (λ p. record { bytes = p.0; spare = p.1 }) (λ _. refl)

-- the data of the allocated cell at each offset, and none if no allocated cell begins there
abbrev pub Cells : Type 0
Cells = ℕ → Option (List ℕ)

-- the cells are the allocated ones of hive bins data
abbrev pub Shows : List ℕ → Cells → Type 0
Shows bytes cells = (at : ℕ) → MatchOption (cells at) (¬ IsAllocatedCell bytes at) (λ its. IsAllocatedCell bytes at × (its ≡ cell_data bytes at))
