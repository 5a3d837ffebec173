-- What is found in a hive's two files: the base block and the bins data that are in use, and what a repair is to write.
use Rattle.std.specs.Prelude.{◌≡◌, ◌⊎◌, ℕ, ◌+◌, ◌≤◌, ◌<◌, true, false, List, length, take, drop, MatchBool}
use Rattle.refusals.specs.declared.refusal.Refusal.{Refusal}
use Rattle.refusals.specs.declared.refusal.Refusal.TheVariants as refusal
use Rattle.refusals.specs.declared.refusal.Cause.TheVariants.{Truncated}
use Rattle.base_block.specs.declared.block.BaseBlock.{BaseBlock}
use Rattle.base_block.specs.Judgements.{IsPrimary}
use Rattle.dirty_vector.specs.Pages.{clean_pages}
use Rattle.dirt_log.specs.WholeLog.{LogIsWhole, IsCovered, block_of, not_whole, pages_in, page_bytes_in}
use Rattle.dirt_log.specs.FileContents.{is_clean_file, PrimaryDecodesTo, LogRepairsTo, FilesDecodeTo, PrimaryFileRefused}
use Rattle.dirt_log.specs.declared.reader.DirtLog.{DirtLog}
use Rattle.hive_files.specs.declared.contents.HiveContents.{HiveContents}

-- a log's block as the block of a primary file
abbrev pub as_primary : BaseBlock → BaseBlock
as_primary block = record block { file_type = record { 0 = 0 } }

-- of a clean primary file: its own block, which may be used, and bins data, and no page to write
pub record CleanFileContains (primary : List ℕ) (found : HiveContents) : Type 0 where
  pub own : PrimaryDecodesTo primary found.block found.bins.items
  pub judged : IsPrimary found.block
  pub pages : found.pages ≡ clean_pages found.block.bins_size

-- bins data of a size are there, after the base block
pub record HasBinsData (primary : List ℕ) (size : ℕ) (bins : List ℕ) : Type 0 where
  pub long : 4096 + size ≤ length primary
  pub part : bins ≡ take size (drop 4096 primary)

-- a log is whole, and has each page that the primary file lacks
pub record LogCoversPrimary (primary log : List ℕ) : Type 0 where
  pub whole : LogIsWhole log
  pub covered : IsCovered (length (drop 4096 primary)) (pages_in log)

-- the file of a log is whole, and the log is what it says
pub record DecodesLog (file : List ℕ) (log : DirtLog) : Type 0 where
  pub whole : LogIsWhole file
  pub base : log.base ≡ block_of file
  pub marked : log.vector ≡ pages_in file
  pub pages : log.pages.now ≡ page_bytes_in file

-- by a log: its block, and the bins data that it repairs, with the pages that it marks
pub record LogContains (primary log : List ℕ) (found : HiveContents) : Type 0 where
  pub repaired : LogRepairsTo primary log (block_of log) found.bins.items
  pub block : found.block ≡ as_primary (block_of log)
  pub pages : found.pages ≡ pages_in log

-- of an unclean one, whose first sector is there: what its log repairs
pub record UncleanFilesContain (primary log : List ℕ) (found : HiveContents) : Type 0 where
  pub sector : 512 ≤ length primary
  pub by_log : LogContains primary log found

pub record FilesContain (primary log : List ℕ) (found : HiveContents) : Type 0 where
  pub clean : found.is_clean ≡ is_clean_file primary
  pub parts : MatchBool found.is_clean (CleanFileContains primary found) (UncleanFilesContain primary log found)

-- A primary file and its log have a block and bins data that may be used. If the primary file is clean, they are its
-- own, and the block is one of a primary file. Otherwise, if its first sector is there, they are those that the log
-- repairs.
pub record FilesHaveHive (primary log : List ℕ) : Type 0 where
  pub block : BaseBlock
  pub bins : List ℕ
  pub in_use : FilesDecodeTo primary log block bins
  pub own : is_clean_file primary ≡ true → IsPrimary block
  pub sector : is_clean_file primary ≡ false → 512 ≤ length primary

-- a refusal of a hive's bytes, by a cause of its own or by a limit or a version
abbrev pub IsHiveRefusal : Refusal → Type 0
IsHiveRefusal (refusal.HiveDamaged hive cause) = hive ≡ 0
IsHiveRefusal refusal.TooLarge = Unit {0}
IsHiveRefusal refusal.Unsupported = Unit {0}
IsHiveRefusal _ = ⊥

-- Why a primary file and its log have nothing that may be used, as a refusal names it. A clean primary file is refused
-- for its own block or its length, whatever its log is. An unclean one is reported as BadLog if its log isn't whole, or
-- lacks a page that the primary file lacks too; or as Truncated if it has no first sector.
abbrev pub FilesAreUnusable : List ℕ → List ℕ → Refusal → Type 0
FilesAreUnusable primary log why =
    MatchBool (is_clean_file primary) (PrimaryFileRefused (block_of primary) (length primary) why)
    (((why ≡ not_whole) × (LogCoversPrimary primary log → ⊥)) ⊎ ((why ≡ refusal.HiveDamaged 0 Truncated) × (length primary < 512)))

-- why two files are refused whose primary file has no first sector: for the log, or since the primary file ends too
-- early
abbrev pub ShortFileRefused : List ℕ → List ℕ → Refusal → Type 0
ShortFileRefused primary log why = ((why ≡ not_whole) × (LogCoversPrimary primary log → ⊥)) ⊎ (why ≡ refusal.HiveDamaged 0 Truncated)

-- two files have nothing that may be used, and a refusal says why
pub record FilesHaveNone (primary log : List ℕ) (why : Refusal) : Type 0 where
  pub none : FilesHaveHive primary log → ⊥
  pub tells : FilesAreUnusable primary log why

-- the same of a primary file by itself, with a clean block, which is this
pub record PrimaryHasNone (block : BaseBlock) (primary : List ℕ) (why : Refusal) : Type 0 where
  pub none : IsPrimary block → 4096 + block.bins_size ≤ length primary → ⊥
  pub tells : PrimaryFileRefused block (length primary) why

-- the refusal names the hive, in whose files nothing is that may be used, and says why, if the device has answered as
-- it should
abbrev pub RefusesFiles : Type 0 → List ℕ → List ℕ → Refusal → Type 0
RefusesFiles faithful primary log why = IsHiveRefusal why × (faithful → FilesHaveNone primary log why)
