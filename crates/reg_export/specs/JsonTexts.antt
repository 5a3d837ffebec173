-- Keys and values as lines of JSON.
use Rattle.std.specs.Prelude.{if◌then◌else◌, ◌≡◌, ◌==◌, ℕ, List, [], ◌∷◌, ◌++◌, length, map, codes}
use Rattle.std.specs.List.{flat_map, join_with_byte}
use Rattle.std.specs.Fmt.{decimal}
use Rattle.std.specs.FinMap as finite
use Rattle.hex.specs.Hex.{encode_lower}
use Rattle.reg_tree_parts.specs.declared.value.Value.{Value}
use Rattle.reg_tree_parts.specs.Rows.{Row}
use Rattle.key_walk.specs.KeyRows.{NamedRow}
use Rattle.reg_export.specs.ByteUnits.{are_whole, units_of}
use Rattle.reg_export.specs.TypeNames.{type_name}
use Rattle.reg_export.specs.Meanings.{DataMeaning, Text, Texts, Number, WideNumber, Unknown, meaning_of}
use Rattle.reg_export.specs.UnitForms.{json_unit}
use Rattle.reg_export.specs.Moments.{IsUtcField}

-- a string
abbrev pub json_string : List ℕ → List ℕ
json_string units = codes "\"" ++ flat_map json_unit units ++ codes "\""

-- the field of texts
abbrev pub json_texts : List (List ℕ) → List ℕ
json_texts texts = codes ",\"texts\":[" ++ join_with_byte 44 (map json_string texts) ++ codes "]"

-- the last field of a value, if its data have a meaning
abbrev pub json_meaning : DataMeaning → List ℕ
json_meaning (Text units) = codes ",\"text\":" ++ json_string units
json_meaning (Texts texts) = json_texts texts
json_meaning (Number n) = codes ",\"number\":" ++ decimal n
json_meaning (WideNumber n) = codes ",\"number\":\"" ++ decimal n ++ codes "\""
json_meaning Unknown = []

-- the fields of a key, with this field of its moment: the hive's number, the path's names with a backslash between each
-- two, and the moment
abbrev pub json_key_fields : ℕ → List ℕ → NamedRow → List ℕ
json_key_fields hive utc key =
    codes "{\"hive\":" ++ decimal hive ++ codes ",\"key\":" ++ json_string (join_with_byte 92 key.0) ++ codes ",\"time\":\"" ++ decimal (let row = key.1 in row.time) ++ codes "\"" ++ utc

-- the field of a class, if it has bytes: a text if they are whole units, and else hex digits
abbrev pub json_class : List ℕ → List ℕ
json_class bytes =
    if length bytes == 0 then []
    else if are_whole bytes then codes ",\"class\":" ++ json_string (units_of bytes)
    else codes ",\"class_hex\":\"" ++ encode_lower bytes ++ codes "\""

-- the field of a descriptor, if it has bytes
abbrev pub json_descriptor : List ℕ → List ℕ
json_descriptor bytes = if length bytes == 0 then [] else codes ",\"descriptor\":\"" ++ encode_lower bytes ++ codes "\""

-- the fields that the line of a key alone has: its flags, class and descriptor
abbrev pub json_own_fields : Row → List ℕ
json_own_fields row = codes ",\"flags\":" ++ decimal row.flags ++ json_class row.class ++ json_descriptor row.descriptor

-- the fields of a value
abbrev pub json_value_fields : Value → List ℕ
json_value_fields value =
    codes ",\"name\":" ++ json_string value.name ++ codes ",\"type\":\"" ++ type_name value.kind ++ codes "\",\"data\":\"" ++ encode_lower value.«data» ++ codes "\"" ++ json_meaning (meaning_of value.kind value.«data»)

-- the line of a value, which begins with the fields of its key
abbrev pub json_value_line : List ℕ → Value → List ℕ
json_value_line key_fields value = key_fields ++ json_value_fields value ++ codes "}\n"

-- the lines of a key with this field of its moment: its own, and then one for each of its values
abbrev pub json_key_lines : ℕ → List ℕ → NamedRow → List ℕ
json_key_lines hive utc key =
    json_key_fields hive utc key ++ json_own_fields key.1 ++ codes "}\n" ++ flat_map (json_value_line (json_key_fields hive utc key)) (finite.values (let row = key.1 in row.values))

-- a text is the lines of these keys, one key after the other
abbrev pub AreJsonLines : ℕ → List NamedRow → List ℕ → Type 0
AreJsonLines hive [] text = text ≡ []
AreJsonLines hive (key ∷ keys) text =
    (utc : List ℕ) × (rest : List ℕ) × IsUtcField (let row = key.1 in row.time) utc × AreJsonLines hive keys rest × (text ≡ json_key_lines hive utc key ++ rest)
