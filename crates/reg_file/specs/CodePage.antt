-- Text in Windows' code page 1252: which unit of UTF-16 each byte stands for.
use Rattle.std.specs.Prelude.{ℕ, ◌-◌, nat_le, ◌&&◌, if◌then◌else◌, List, flat_map, slice_index}
use Rattle.std.specs.Int.{w16, to_le_bytes}
use Rattle.reg_file.specs.declared.code_page.TheConstants.{UNITS_FROM_80}

-- a byte from 0x80 to 0x9f stands for the unit that the table has at its place, and any other one for itself
abbrev pub ansi_unit : ℕ → ℕ
ansi_unit byte = if nat_le 128 byte && nat_le byte 159 then slice_index UNITS_FROM_80 (byte - 128) else byte

-- a text as data of UTF-16: each unit as two bytes, the low one first
abbrev pub ansi_data : List ℕ → List ℕ
ansi_data bytes = flat_map (λ byte. to_le_bytes w16 (ansi_unit byte)) bytes
