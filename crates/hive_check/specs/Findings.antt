-- What is true of a hive's file if a check finds this.
use Rattle.std.specs.Prelude.{◌≡◌, ℕ, nat_le, if◌then◌else◌, List, Result, Ok, Err}
use Rattle.std.specs.Global.{Vec}
use Rattle.refusals.specs.declared.refusal.Refusal.{Refusal}
use Rattle.refusals.specs.declared.limits.TheConstants.{MOST_WEIGHT}
use Rattle.base_block.specs.declared.block.BaseBlock.{BaseBlock}
use Rattle.reply_lines.specs.declared.status.Status.{Status}
use Rattle.reply_lines.specs.declared.status.Status.TheVariants as status
use Rattle.reg_tree.specs.Maps.{TreeMap}
use Rattle.hive_records.specs.Images.{BinsEncodeTree}
use Rattle.hive_file_reader.specs.Hives.{FileHasBins}
use Rattle.hive_file_reader.specs.Readings.{FileBinsUnread}
use Rattle.hive_walk.specs.declared.errors.ImageError.TheVariants as image_error
use Rattle.hive_walk.specs.Judgements.{ImageRefused}
use Rattle.hive_walk.specs.Walks.{HasShortPaths}
use Rattle.refusals.specs.declared.refusal.Refusal.TheVariants as refusal
use Rattle.hive_check.specs.declared.finding.Finding.{Finding}
use Rattle.hive_check.specs.declared.finding.Finding.TheVariants as finding
use Rattle.hive_check.specs.declared.finding.HiveReport.{HiveReport}
use Rattle.hive_check.specs.declared.key_counts.KeyCounts.{KeyCounts}
use Rattle.hive_check.specs.Blocks.{block_in}
use Rattle.hive_check.specs.CellCounts.{CellsAreCounted, IsTileFault}
use Rattle.hive_check.specs.KeyCounts.{AreKeyCounts}

-- something is true of the bins data of a file, and of the block by which they are read
abbrev pub HasBinsSo : List ℕ → (BaseBlock → List ℕ → Type 0) → Type 0
HasBinsSo file so = (block : BaseBlock) × (bins : List ℕ) × FileHasBins file block bins × so block bins

-- the data encode a tree that has so many keys and values and so much weight, and no path in it is too long
abbrev pub EncodesCounted : KeyCounts → BaseBlock → List ℕ → Type 0
EncodesCounted keys block bins = (tree : TreeMap) × BinsEncodeTree bins block.root block.minor tree × HasShortPaths tree × AreKeyCounts tree keys

-- a finding is true of a file
abbrev pub IsFinding : List ℕ → Finding → Type 0
IsFinding file (finding.Refused why) = FileBinsUnread file why
IsFinding file (finding.Untiled fault) = HasBinsSo file (λ block bins. IsTileFault bins fault)
IsFinding file (finding.Unwalked cells error) = HasBinsSo file (λ block bins. CellsAreCounted bins cells × ImageRefused bins block.root block.minor error)
IsFinding file (finding.Walked cells keys) = HasBinsSo file (λ block bins. CellsAreCounted bins cells × EncodesCounted keys block bins)

-- a report is true of a file: of its base block, and of its bins data
abbrev pub IsReportOf : List ℕ → HiveReport → Type 0
IsReportOf file report = (report.block ≡ block_in file) × IsFinding file report.finding

-- the status of a check: clean if a tree within the weight is encoded
abbrev pub finding_status : Finding → Status
finding_status (finding.Walked cells keys) = if nat_le keys.weight MOST_WEIGHT then status.Clean else status.Refused
finding_status _ = status.Refused

abbrev pub status_of : HiveReport → Status
status_of report = finding_status report.finding

-- memory was wanting for the check
abbrev pub LacksMemory : Finding → Type 0
LacksMemory (finding.Refused why) = why ≡ refusal.NoMemory
LacksMemory (finding.Unwalked cells error) = error ≡ image_error.NoMemory
LacksMemory _ = ⊥

-- these bins data are a file's, or it has none for this reason
abbrev pub BinsAreOf : List ℕ → Result (BaseBlock × Vec ℕ) Refusal → Type 0
BinsAreOf file (Ok read) = FileHasBins file read.0 read.1.items
BinsAreOf file (Err why) = FileBinsUnread file why
