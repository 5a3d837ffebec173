-- What a report of a damaged hive prints.
use Rattle.std.specs.Prelude.{◌≡◌, ℕ, List, [], ◌∷◌, Option, None, Some}
use Rattle.std.specs.List.{flat_map}
use Rattle.std.specs.Io.KnownBytes.{Appends}
use Rattle.hive_cells.specs.Bins.{Cells, Shows}
use Rattle.hive_records.specs.Images.{splits}
use Rattle.hive_salvage.specs.Events.{Event}
use Rattle.hive_salvage.specs.Salvage.{SalvageIs}
use Rattle.reg_export.specs.declared.encoding.Encoding.{Encoding}
use Rattle.reg_export.specs.Encodings.{PrintsFile}
use Rattle.reg_export.specs.RegTexts.{reg_units}
use Rattle.reg_export.specs.JsonTexts.{AreJsonLines}
use Rattle.reg_export.specs.TsvTexts.{tsv_key_lines}
use Rattle.salvage_report.specs.declared.damaged_hive.DamagedHive.{DamagedHive}
use Rattle.salvage_report.specs.declared.totals.Totals.{Totals}
use Rattle.salvage_report.specs.Told.{lines_told, no_totals, rows_shown, totals_after}

-- a salvage of the hive tells this
abbrev pub IsFoundIn : DamagedHive → List Event → Type 0
IsFoundIn hive events = (cells : Cells) → Shows hive.image.bytes cells → SalvageIs (splits hive.minor) cells hive.root events

-- it does, and the losses that are asked for are told, and all is counted
abbrev pub Reports : DamagedHive → Option Encoding → List (List ℕ) → Option (List ℕ) → Option (List ℕ) → Totals → List Event → Type 0
Reports hive encoding path before after totals events =
    IsFoundIn hive events × Appends before after (lines_told (encoding, path) events) × (totals ≡ totals_after (encoding, path) no_totals events)

-- and the keys that are asked for are printed: in a registration file, as lines of JSON, or as lines of fields
abbrev pub RegReported : DamagedHive → Encoding → List ℕ → List (List ℕ) → Option (List ℕ) → Option (List ℕ) → Option (List ℕ) → Option (List ℕ) → Totals → Type 0
RegReported hive encoding prefix path old new before after totals = (events : List Event) × Reports hive (Some encoding) path before after totals events
    × PrintsFile encoding old new (reg_units ((prefix, rows_shown (Some encoding, path) events) ∷ []))

abbrev pub JsonReported : DamagedHive → List (List ℕ) → Option (List ℕ) → Option (List ℕ) → Option (List ℕ) → Option (List ℕ) → Totals → Type 0
JsonReported hive path old new before after totals = (events : List Event) × Reports hive None path before after totals events
    × (text : List ℕ) × AreJsonLines 0 (rows_shown (None, path) events) text × Appends old new text

abbrev pub TsvReported : DamagedHive → List (List ℕ) → Option (List ℕ) → Option (List ℕ) → Option (List ℕ) → Option (List ℕ) → Totals → Type 0
TsvReported hive path old new before after totals = (events : List Event) × Reports hive None path before after totals events
    × Appends old new (flat_map (tsv_key_lines 0) (rows_shown (None, path) events))
