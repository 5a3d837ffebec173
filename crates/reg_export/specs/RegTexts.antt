-- The text of a registration file, as UTF-16 units.
use Rattle.std.specs.Prelude.{ℕ, ◌+◌, ◌==◌, nat_lt, false, ◌&&◌, ◌||◌, if◌then◌else◌, List, [], ◌∷◌, ◌++◌, length, codes}
use Rattle.std.specs.List.{flat_map}
use Rattle.std.specs.Fmt.{digits}
use Rattle.std.specs.FinMap as finite
use Rattle.std.specs.Int.{w32, from_le_bytes, to_be_bytes}
use Rattle.hex.specs.Hex.{encode_lower}
use Rattle.reg_tree_parts.specs.declared.value.Value.{Value}
use Rattle.key_walk.specs.KeyRows.{NamedRow}
use Rattle.reg_export.specs.ByteUnits.{units_of, front_units, is_plain_text}

-- a text and the end of its line
abbrev pub line : List ℕ → List ℕ
line text = text ++ codes "\r\n"

-- a quote and a backslash get a backslash before them
abbrev pub escaped_unit : ℕ → List ℕ
escaped_unit u = if u == 34 || u == 92 then 92 ∷ u ∷ [] else u ∷ []

-- a text in quotes
abbrev pub quoted : List ℕ → List ℕ
quoted text = codes "\"" ++ flat_map escaped_unit text ++ codes "\""

-- the name of a value: the empty one, which is the default value's, is an at sign
abbrev pub value_name_text : List ℕ → List ℕ
value_name_text name = if length name == 0 then codes "@" else quoted name

-- the column of a byte in a list, if the byte before it stands at this one: three further, or 2 on a new line if that
-- is past 76
abbrev pub next_column : ℕ → ℕ
next_column column = if nat_lt 76 (column + 3) then 2 else column + 3

-- bytes, each with the column at which it stands, if the first stands at this one
abbrev pub at_columns : ℕ → List ℕ → List (ℕ × ℕ)
at_columns column [] = []
at_columns column (byte ∷ bytes) = (column, byte) ∷ at_columns (next_column column) bytes

-- what stands before a byte at this column and after another one: a comma; and if the byte begins a line, at column 2,
-- then also a backslash, the line's end and two blanks
abbrev pub separator : ℕ → List ℕ
separator column = if column == 2 then codes ",\\\r\n  " else codes ","

-- a byte after another one
abbrev pub next_byte : ℕ × ℕ → List ℕ
next_byte place = separator place.0 ++ encode_lower (place.1 ∷ [])

-- a list of bytes, two digits each, whose first stands at this column
abbrev pub byte_list : ℕ → List ℕ → List ℕ
byte_list column [] = []
byte_list column (byte ∷ bytes) = encode_lower (byte ∷ []) ++ flat_map next_byte (at_columns (next_column column) bytes)

-- what says that a list of bytes follows: of type 3, or of the type of this number
abbrev pub list_label : ℕ → List ℕ
list_label kind = if kind == 3 then codes "hex:" else codes "hex(" ++ digits 16 false kind ++ codes "):"

-- type and data as a list, which begins at this column
abbrev pub list_text : ℕ → ℕ → List ℕ → List ℕ
list_text column kind bytes = list_label kind ++ byte_list (column + length (list_label kind)) bytes

-- a number of 32 bits, in eight digits
abbrev pub number_text : ℕ → List ℕ
number_text number = codes "dword:" ++ encode_lower (to_be_bytes w32 number)

-- type and data of a value: a text in quotes, a number of 32 bits in eight digits, or a list of bytes, which begins at
-- this column
abbrev pub data_text : ℕ → ℕ → List ℕ → List ℕ
data_text column kind bytes = if kind == 1 && is_plain_text bytes then quoted (units_of (front_units bytes)) else (
    if kind == 4 && length bytes == 4 then number_text (from_le_bytes w32 bytes) else
    list_text column kind bytes)

-- what stands before the data of a value
abbrev pub value_head : List ℕ → List ℕ
value_head name = value_name_text name ++ codes "="

-- the line of a value; a list of bytes may run over lines
abbrev pub reg_value_line : Value → List ℕ
reg_value_line value = line (value_head value.name ++ data_text (length (value_head value.name)) value.kind value.«data»)

-- the names of a key behind its hive's prefix
abbrev pub reg_path : List ℕ → List (List ℕ) → List ℕ
reg_path prefix names = prefix ++ flat_map (λ name. codes "\\" ++ name) names

-- the lines of a key: its path in brackets, its values in the order of their names, and an empty line
abbrev pub reg_key_lines : List ℕ → NamedRow → List ℕ
reg_key_lines prefix key =
    line (codes "[" ++ reg_path prefix key.0 ++ codes "]") ++ flat_map reg_value_line (finite.values (let row = key.1 in row.values)) ++ line []

-- the lines of a hive's keys
abbrev pub reg_hive_lines : List ℕ × List NamedRow → List ℕ
reg_hive_lines hive = flat_map (reg_key_lines hive.0) hive.1

-- the first line of a file of version 5, and an empty one
abbrev pub reg_header : List ℕ
reg_header = line (codes "Windows Registry Editor Version 5.00") ++ line []

-- the units of a file: the header, and then the keys of each hive, which are shown behind its prefix
abbrev pub reg_units : List (List ℕ × List NamedRow) → List ℕ
reg_units hives = reg_header ++ flat_map reg_hive_lines hives
