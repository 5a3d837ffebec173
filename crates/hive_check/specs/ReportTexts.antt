-- The text of what is found of a hive's file.
use Rattle.std.specs.Prelude.{◌≡◌, ℕ, ◌+◌, nat_le, if◌then◌else◌, List, [], ◌∷◌, ◌++◌, Option, codes, Bool}
use Rattle.std.specs.Fmt.{decimal}
use Rattle.std.specs.Io.KnownBytes.{Appends}
use Rattle.refusals.specs.Refusals.{refusal_text}
use Rattle.refusals.specs.declared.refusal.Refusal.{Refusal}
use Rattle.refusals.specs.declared.refusal.Refusal.TheVariants as refusal
use Rattle.refusals.specs.declared.refusal.Cause.TheVariants as cause
use Rattle.refusals.specs.declared.limits.TheConstants.{MOST_WEIGHT}
use Rattle.tree_printer.specs.TreeTexts.{path_text}
use Rattle.hive_walk.specs.declared.errors.ImageError.{ImageError}
use Rattle.hive_walk.specs.declared.errors.ImageError.TheVariants as image_error
use Rattle.hive_check.specs.declared.cell_counts.CellCounts.{CellCounts}
use Rattle.hive_check.specs.declared.cell_counts.TileFault.{TileFault}
use Rattle.hive_check.specs.declared.cell_counts.TileFault.TheVariants as tile_fault
use Rattle.hive_check.specs.declared.key_counts.KeyCounts.{KeyCounts}
use Rattle.hive_check.specs.declared.finding.Finding.{Finding}
use Rattle.hive_check.specs.declared.finding.Finding.TheVariants as finding
use Rattle.hive_check.specs.declared.finding.HiveReport.{HiveReport}
use Rattle.hive_check.specs.Advice.{advice, file_advice}
use Rattle.hive_check.specs.Blocks.{is_log_block}
use Rattle.hive_check.specs.BlockTexts.{IsBlockText, hex_text}

-- what to do, in a line of its own
abbrev pub advice_line : Refusal → List ℕ
advice_line why = advice why ++ codes "\n"

-- why a file isn't whole, where that stands, and what to do
abbrev pub refused_lines : Refusal → List ℕ → List ℕ
refused_lines why place = refusal_text why ++ place ++ codes "\n" ++ advice_line why

-- a place in the file
abbrev pub offset_text : ℕ → List ℕ
offset_text at = codes " at " ++ hex_text at

-- the key to which names lead
abbrev pub key_text : List (List ℕ) → List ℕ
key_text [] = codes " in the root"
key_text (name ∷ names) = codes " in " ++ path_text (name ∷ names)

-- where bins and cells don't tile
abbrev pub tile_lines : TileFault → List ℕ
tile_lines (tile_fault.Bin at) = refused_lines (refusal.HiveDamaged 0 cause.BadBin) (offset_text at)
tile_lines (tile_fault.Cell at) = refused_lines (refusal.HiveDamaged 0 cause.BadCell) (offset_text at)

-- why there is no tree
abbrev pub image_lines : ImageError → List ℕ
image_lines image_error.NoMemory = refused_lines refusal.NoMemory []
image_lines (image_error.Fault fault) = refused_lines fault.refusal (offset_text (4096 + fault.at) ++ key_text fault.path.items)

-- where bins and cells don't tile, without a line's end
abbrev pub tile_reason : TileFault → List ℕ
tile_reason (tile_fault.Bin at) = refusal_text (refusal.HiveDamaged 0 cause.BadBin) ++ offset_text at
tile_reason (tile_fault.Cell at) = refusal_text (refusal.HiveDamaged 0 cause.BadCell) ++ offset_text at

-- why there is no tree, and where, without a line's end
abbrev pub image_reason : ImageError → List ℕ
image_reason image_error.NoMemory = refusal_text refusal.NoMemory
image_reason (image_error.Fault fault) = refusal_text fault.refusal ++ (offset_text (4096 + fault.at) ++ key_text fault.path.items)

-- why a file holds no tree, and where; nothing if it holds one
abbrev pub reason_text : Finding → List ℕ
reason_text (finding.Refused why) = refusal_text why
reason_text (finding.Untiled fault) = tile_reason fault
reason_text (finding.Unwalked cells error) = image_reason error
reason_text (finding.Walked cells keys) = []

-- the free cells
abbrev pub free_text : ℕ → ℕ → List ℕ
free_text free free_bytes = (decimal free ++ codes " free with ") ++ (decimal free_bytes ++ codes " bytes\n")

-- the cells, and the free ones
abbrev pub cells_line : CellCounts → List ℕ
cells_line cells = decimal cells.all ++ codes " cells, " ++ free_text cells.free cells.free_bytes

-- the keys and values
abbrev pub keys_line : ℕ → ℕ → List ℕ
keys_line keys values = decimal keys ++ codes " keys, " ++ decimal values ++ codes " values\n"

-- the weight, and the greatest one that a store's hive may have
abbrev pub weight_line : ℕ → List ℕ
weight_line weight = codes "weight " ++ decimal weight ++ codes " of " ++ decimal MOST_WEIGHT ++ codes "\n"

abbrev pub keys_lines : KeyCounts → List ℕ
keys_lines keys = keys_line keys.keys keys.values ++ weight_line keys.weight

-- the last line, if there is a tree
abbrev pub weight_verdict : ℕ → List ℕ
weight_verdict weight = if nat_le weight MOST_WEIGHT then codes "whole\n" else codes "too large for a store: `export` prints it\n"

-- why a file has no bins data, which may be a log by its base block
abbrev pub unread_lines : Bool → Refusal → List ℕ
unread_lines is_log why = refusal_text why ++ (codes "\n" ++ (file_advice is_log why ++ codes "\n"))

-- the text of what is found of the bins data of a file, which may be a log by its base block
abbrev pub finding_text : Bool → Finding → List ℕ
finding_text is_log (finding.Refused why) = unread_lines is_log why
finding_text is_log (finding.Untiled fault) = tile_lines fault
finding_text is_log (finding.Unwalked cells error) = cells_line cells ++ image_lines error
finding_text is_log (finding.Walked cells keys) = cells_line cells ++ keys_lines keys ++ weight_verdict keys.weight

-- a text shows a report
abbrev pub IsReportText : HiveReport → List ℕ → Type 0
IsReportText report text = (block : List ℕ) × IsBlockText report.block block × (text ≡ block ++ finding_text (is_log_block report.block) report.finding)

-- known bytes grew by the text of a report
abbrev pub PrintsReport : HiveReport → Option (List ℕ) → Option (List ℕ) → Type 0
PrintsReport report before after = (text : List ℕ) × IsReportText report text × Appends before after text
