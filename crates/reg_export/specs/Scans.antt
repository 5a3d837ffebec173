-- What a scan of names has seen.
use Rattle.std.specs.Prelude.{ℕ, Bool, true, ◌&&◌, List, ◌++◌, map}
use Rattle.std.specs.List.{list_all}
use Rattle.std.specs.FinMap as finite
use Rattle.reg_tree_parts.specs.declared.value.Value.{Value}
use Rattle.key_walk.specs.KeyRows.{NamedRow}
use Rattle.reg_export.specs.declared.encoding.Encoding.{Encoding}
use Rattle.reg_export.specs.declared.encoding.Encoding.TheVariants.{Utf8, Utf16}
use Rattle.reg_export.specs.declared.name_scan.NameScan.{NameScan}
use Rattle.reg_export.specs.NameTests.{are_chars, fits_line}

-- the names that the lines of a key show: those on its path, and those of its values
abbrev pub shown_names : NamedRow → List (List ℕ)
shown_names key = key.0 ++ map (λ (value : Value). value.name) (finite.values (let row = key.1 in row.values))

-- a scan that has seen no names
abbrev pub new_scan : NameScan
new_scan = record { are_chars = true; fit_lines = true }

-- a scan that has also seen these names
abbrev pub scan_with : NameScan → List (List ℕ) → NameScan
scan_with scan names = record { are_chars = scan.are_chars && list_all are_chars names; fit_lines = scan.fit_lines && list_all fits_line names }

-- a file in this encoding can show all names that were seen
abbrev pub seen_can_show : Encoding → NameScan → Bool
seen_can_show Utf8 scan = scan.fit_lines && scan.are_chars
seen_can_show Utf16 scan = scan.fit_lines
