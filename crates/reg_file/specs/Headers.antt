-- The first line of a file, which says which form the file has.
use Rattle.std.specs.Prelude.{Bool, true, false, if◌then◌else◌, ℕ, List, Option, Some, None, codes}
use Rattle.reg_file.specs.Scanning.{skip_blanks, ends_line, strip}

abbrev pub ends_behind : Option (List ℕ) → Bool
ends_behind None = false
ends_behind (Some rest) = ends_line rest

-- a line is this text, but for blanks around it and the end of the line
abbrev pub is_header : List ℕ → List ℕ → Bool
is_header text line = ends_behind (strip text (skip_blanks line))

-- the header of the old form
abbrev pub is_old_header : List ℕ → Bool
is_old_header line = is_header (codes "REGEDIT4") line

-- whether a header is that of the old form
abbrev pub header_of : List ℕ → Option Bool
header_of line =
    if is_old_header line then Some true
    else if is_header (codes "Windows Registry Editor Version 5.00") line then Some false
    else None
