-- Keys and values as lines of six fields, with a tab between each two.
use Rattle.std.specs.Prelude.{ℕ, List, [], ◌∷◌, ◌++◌, codes}
use Rattle.std.specs.List.{flat_map}
use Rattle.std.specs.Fmt.{decimal}
use Rattle.std.specs.FinMap as finite
use Rattle.reg_tree_parts.specs.declared.value.Value.{Value}
use Rattle.reply_lines.specs.Replies.{data_text}
use Rattle.key_walk.specs.KeyRows.{NamedRow}
use Rattle.reg_export.specs.TypeNames.{type_name}
use Rattle.reg_export.specs.Meanings.{DataMeaning, Text, Texts, Number, WideNumber, Unknown, meaning_of}
use Rattle.reg_export.specs.UnitForms.{meaning_unit}
use Rattle.reg_export.specs.Fields.{name_field, path_field}

-- texts, parted by `%0000`
abbrev pub tsv_texts : List (List ℕ) → List ℕ
tsv_texts [] = []
tsv_texts (text ∷ []) = flat_map meaning_unit text
tsv_texts (text ∷ next ∷ texts) = flat_map meaning_unit text ++ codes "%0000" ++ tsv_texts (next ∷ texts)

-- the last field of a value
abbrev pub tsv_meaning : DataMeaning → List ℕ
tsv_meaning (Text units) = flat_map meaning_unit units
tsv_meaning (Texts texts) = tsv_texts texts
tsv_meaning (Number n) = decimal n
tsv_meaning (WideNumber n) = decimal n
tsv_meaning Unknown = []

-- the fields of a key: the hive's number with the path, and the moment
abbrev pub tsv_key_fields : ℕ → NamedRow → List ℕ
tsv_key_fields hive key = decimal hive ++ codes ":" ++ path_field key.0 ++ codes "\t" ++ decimal (let row = key.1 in row.time)

-- the fields of a value: its name, its type, its data and what they mean
abbrev pub tsv_value_fields : Value → List ℕ
tsv_value_fields value =
    codes "\t" ++ name_field value.name ++ codes "\t" ++ type_name value.kind ++ codes "\t" ++ data_text value.«data» ++ codes "\t" ++ tsv_meaning (meaning_of value.kind value.«data»)

-- the line of a value, which begins with the fields of its key
abbrev pub tsv_value_line : List ℕ → Value → List ℕ
tsv_value_line key_fields value = key_fields ++ tsv_value_fields value ++ codes "\n"

-- the lines of a key: its own, whose last four fields are empty, and then one for each of its values
abbrev pub tsv_key_lines : ℕ → NamedRow → List ℕ
tsv_key_lines hive key =
    tsv_key_fields hive key ++ codes "\t\t\t\t\n" ++ flat_map (tsv_value_line (tsv_key_fields hive key)) (finite.values (let row = key.1 in row.values))
