-- How a unit is written in JSON and in TSV.
use Rattle.std.specs.Prelude.{ℕ, ◌==◌, ◌||◌, if◌then◌else◌, List, [], ◌∷◌, ◌++◌, codes}
use Rattle.std.specs.Int.{w16, to_be_bytes}
use Rattle.hex.specs.Hex.{encode_lower}
use Rattle.reg_names.specs.Printable.{is_printable}
use Rattle.reply_lines.specs.Replies.{unit_text}
use Rattle.reg_export.specs.declared.unit_form.UnitForm.{UnitForm}
use Rattle.reg_export.specs.declared.unit_form.UnitForm.TheVariants.{Json, JsonTexts, Tsv}

-- a unit of a string of JSON: a quote and a backslash get a backslash before them; one outside 0x20 to 0x7e is `\u` and
-- four digits
abbrev pub json_unit : ℕ → List ℕ
json_unit u = if u == 34 || u == 92 then 92 ∷ u ∷ [] else (if is_printable u then u ∷ [] else codes "\\u" ++ encode_lower (to_be_bytes w16 u))

-- a unit of a meaning in TSV: as in a name, but a blank is a blank
abbrev pub meaning_unit : ℕ → List ℕ
meaning_unit u = if u == 32 then u ∷ [] else unit_text u

-- the bytes of a unit in each form; in one string of several texts a unit 0 ends a string of JSON and begins another
abbrev pub form_text : UnitForm → ℕ → List ℕ
form_text Json u = json_unit u
form_text JsonTexts u = if u == 0 then codes "\",\"" else json_unit u
form_text Tsv u = meaning_unit u
