-- The file that a log of pages makes of a hive's.
use Rattle.std.specs.Prelude.{◌≡◌, ◌⊎◌, ◌≤◌, ◌<◌, ℕ, List, ◌++◌, length, take, drop}
use Rattle.refusals.specs.declared.refusal.Refusal.{Refusal}
use Rattle.refusals.specs.declared.refusal.Refusal.TheVariants.{HiveDamaged, NoMemory}
use Rattle.refusals.specs.declared.refusal.Cause.TheVariants.{BadLog, Truncated}
use Rattle.dirt_log.specs.WholeLog.{IsCovered, repaired}
use Rattle.hive_recovery.specs.Sectors.{recovered_sector}
use Rattle.hive_page_logs.specs.PageLogs.{PagesSeen}

-- these are all bytes of the recovered file: the log's first sector with this number, the file's bytes up to 4,096, and the
-- bins data with the log's pages. Each byte of the bins data is the file's or the log's.
pub record IsRecoveredByPages (file : List ℕ) (log : PagesSeen) (number : ℕ) (out : List ℕ) : Type 0 where
  pub long : 4096 ≤ length file
  pub covered : IsCovered (length (drop 4096 file)) log.marked
  pub bytes : out ≡ recovered_sector log.sector number log.block.bins_size ++ take 3584 (drop 512 file) ++ repaired (drop 4096 file) log.marked log.bytes

-- why there are none: the file ends early, a byte is neither the file's nor the log's, or there is no memory
abbrev pub IsRefusedByPages : List ℕ → PagesSeen → Refusal → Type 0
IsRefusedByPages file log why =
    (why ≡ NoMemory)
    ⊎ (((why ≡ HiveDamaged 0 Truncated) × (length file < 4096))
    ⊎ ((why ≡ HiveDamaged 0 BadLog) × (IsCovered (length (drop 4096 file)) log.marked → ⊥)))
