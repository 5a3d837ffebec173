-- The bytes of a registration file.
use Rattle.std.specs.Prelude.{ℕ, List, ◌++◌}
use Rattle.std.specs.List.{flat_map}
use Rattle.key_walk.specs.KeyRows.{NamedRow}
use Rattle.reg_export.specs.declared.encoding.Encoding.{Encoding}
use Rattle.reg_export.specs.Encodings.{encoded, mark}
use Rattle.reg_export.specs.RegTexts.{reg_units}
use Rattle.reg_export.specs.Scans.{shown_names}

-- the names that the file of these hives shows
abbrev pub file_names : List (List ℕ × List NamedRow) → List (List ℕ)
file_names hives = flat_map (λ hive. flat_map shown_names hive.1) hives

-- the bytes of the file of these hives, each of which is a prefix and keys
abbrev pub reg_text : Encoding → List (List ℕ × List NamedRow) → List ℕ
reg_text encoding hives = mark encoding ++ encoded encoding (reg_units hives)
