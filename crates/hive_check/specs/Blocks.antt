-- What the first sector of a hive's file says.
use Rattle.std.specs.Prelude.{ℕ, nat_le, ◌==◌, ◌||◌, Bool, false, if◌then◌else◌, List, length, take, Option, Some, None}
use Rattle.base_block.specs.Layout.{block_at}
use Rattle.base_block.specs.declared.block.BaseBlock.{BaseBlock}
use Rattle.base_block.specs.Sums.{sum_of}
use Rattle.hive_cells.specs.Tiles.{u32_at}
use Rattle.hive_check.specs.declared.block_report.BlockReport.{BlockReport}

-- the fields of a sector, the sum at its end, and the sum of the bytes before that
abbrev pub sector_report : List ℕ → BlockReport
sector_report sector = record { block = block_at sector; sum = u32_at sector 508; right_sum = sum_of (take 508 sector) }

-- the report of a sector, if there is one and it is a hive's by its signature
abbrev pub block_in_sector : Option (List ℕ) → Option BlockReport
block_in_sector None = None
block_in_sector (Some sector) = if (block_at sector).signature.0 == 0x6667_6572 then Some (sector_report sector) else None

-- a block is a log's by its type: 1 and 2 of logs of pages, 6 of logs of entries
abbrev pub is_log_type : BaseBlock → Bool
is_log_type block = (block.file_type.0 == 1) || (block.file_type.0 == 2) || (block.file_type.0 == 6)

-- the same, if there is a block
abbrev pub is_log_block : Option BlockReport → Bool
is_log_block None = false
is_log_block (Some report) = is_log_type report.block

-- the first sector of a file
abbrev pub sector_in : List ℕ → Option (List ℕ)
sector_in file = if nat_le 512 (length file) then Some (take 512 file) else None

-- the report of a file's first sector
abbrev pub block_in : List ℕ → Option BlockReport
block_in file = block_in_sector (sector_in file)
