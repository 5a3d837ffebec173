-- A hive's two files as they are made.
use Rattle.std.specs.Prelude.{◌≡◌, ℕ, List, [], ◌++◌}
use Rattle.base_block.specs.declared.block.BaseBlock.{BaseBlock}
use Rattle.base_block.specs.Layout.{sector_of, zeros}
use Rattle.disk_model.specs.FileState.{FileState, at_rest}

-- a primary file with this block and these bins data: its first sector, zeros up to 4,096, and the bins data to its end
abbrev pub primary_bytes : BaseBlock → List ℕ → List ℕ
primary_bytes block bins = (sector_of block ++ zeros 3584) ++ bins

-- A hive's files are made: the primary file is this block and these bins data, the log is empty, and nothing of either
-- is on its way.
pub record FilesAreMade (block : BaseBlock) (bins : List ℕ) (primary log : FileState) : Type 0 where
  pub whole : primary ≡ at_rest (primary_bytes block bins)
  pub empty : log ≡ at_rest []
