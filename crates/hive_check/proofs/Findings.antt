-- What is found is true of the file.
use Rattle.std.proofs.Common.{◌≡◌, ℕ, ◌<◌, ◌≤◌, List, length, take, Option, Some, None, IfSome, MatchOption, Result, Ok, Err, sym, ◌∙◌, ap}
use Rattle.std.specs.Prelude.{if◌then◌else◌}
use Rattle.std.specs.Global.{Vec}
use Rattle.std.proofs.lemmas.Bool.{le-leb, lt-leb}
use Rattle.refusals.specs.declared.refusal.Refusal.{Refusal}
use Rattle.base_block.specs.declared.block.BaseBlock.{BaseBlock}
use Rattle.hive_file_reader.specs.Readings.{BinsOrRefusal}
use Rattle.hive_check.specs.Blocks.{block_in_sector, sector_in}
use Rattle.hive_check.specs.declared.block_report.BlockReport.{BlockReport}
use Rattle.hive_check.specs.declared.finding.Finding.{Finding}
use Rattle.hive_check.specs.Findings.{BinsAreOf, IsFinding, IsReportOf}

-- the first sector of a file, as it was read
sector_is : (file : List ℕ) (sector : Option (List ℕ)) → MatchOption sector (length file < 512) (λ s. (s ≡ take 512 file) × (512 ≤ length file)) → sector ≡ sector_in file
sector_is file None short = ap (λ b. if b then Some (take 512 file) else None) (sym (lt-leb 512 (length file) short))
sector_is file (Some s) (same, long) = ap Some same ∙ ap (λ b. if b then Some (take 512 file) else None) (sym (le-leb 512 (length file) long))

-- the first sector of a file, if its bytes are known, was read
abbrev pub SectorRead : Option (List ℕ) → Option (List ℕ) → Type 0
SectorRead known sector = IfSome known (λ file. MatchOption sector (length file < 512) (λ s. (s ≡ take 512 file) × (512 ≤ length file)))

-- so its report is the file's
pub reported : (known : Option (List ℕ)) (sector : Option (List ℕ)) (block : Option BlockReport) (finding : Finding) → SectorRead known sector
    → block ≡ block_in_sector sector → IfSome known (λ file. IsFinding file finding) → IfSome known (λ file. IsReportOf file (record { block = block; finding = finding }))
reported None sector block finding read is found = tt
reported (Some file) sector block finding read is found = (is ∙ ap block_in_sector (sector_is file sector read), found)

-- what is found of bins data that were read is found of the file
pub found : (known : Option (List ℕ)) (bins : Result (BaseBlock × Vec ℕ) Refusal) (finding : Finding) → BinsOrRefusal known bins → ((file : List ℕ) → BinsAreOf file bins → IsFinding file finding) → IfSome known (λ file. IsFinding file finding)
found None bins finding read told = tt
found (Some file) (Ok read) finding has told = told file has
found (Some file) (Err why) finding refused told = told file refused
