-- What is printed of the trees of a store.
use Rattle.std.specs.Prelude.{◌≡◌, ◌⊎◌, ℕ, ◌+◌, if◌then◌else◌, List, [], ◌∷◌, ◌++◌, map, false, Option, Some, None, slice_get}
use Rattle.std.specs.List.{flat_map}
use Rattle.std.specs.Borrow.{Bor}
use Rattle.std.specs.Io.KnownBytes.{Appends, Keeps}
use Rattle.refusals.specs.declared.refusal.Refusal.{Refusal}
use Rattle.refusals.specs.declared.refusal.Refusal.TheVariants.{NoMemory, NotFound, BadName}
use Rattle.reg_names.specs.Names.{folded_path}
use Rattle.reg_tree.specs.Maps.{TreeMap, is_there}
use Rattle.key_walk.specs.KeyRows.{NamedRow, tree_rows}
use Rattle.key_walk.specs.SubtreeRows.{rows_below}
use Rattle.reg_prefixes.specs.declared.prefix.Prefix.{Prefix}
use Rattle.reg_prefixes.specs.Places.{shown_in}
use Rattle.reg_export.specs.declared.encoding.Encoding.{Encoding}
use Rattle.reg_export.specs.NameTests.{can_show}
use Rattle.reg_export.specs.RegFiles.{file_names, reg_text}
use Rattle.reg_export.specs.JsonTexts.{AreJsonLines}
use Rattle.reg_export.specs.TsvTexts.{tsv_key_lines}
use Rattle.store_export.specs.declared.request.Form.{Form}
use Rattle.store_export.specs.declared.request.Form.TheVariants.{Reg, Json, Tsv}
use Rattle.store_export.specs.declared.request.ExportRequest.{ExportRequest}
use Rattle.store_export.specs.declared.request.Selection.{Selection}
use Rattle.store_export.specs.declared.report.ExportError.{ExportError}
use Rattle.store_export.specs.declared.report.ExportError.TheVariants as error

-- the number of a hive, and keys of it
abbrev pub HiveRows : Type 0
HiveRows = ℕ × List NamedRow

-- all keys of all hives, the first of which has this number
abbrev pub all_rows : ℕ → List TreeMap → List HiveRows
all_rows hive [] = []
all_rows hive (tree ∷ trees) = (hive, tree_rows tree) ∷ all_rows (hive + 1) trees

-- a key of a hive and all below it, if it is there
abbrev pub part_rows : ℕ → List (List ℕ) → Option TreeMap → Option (List HiveRows)
part_rows hive path None = None
part_rows hive path (Some tree) = if is_there tree path then Some ((hive, rows_below tree path) ∷ []) else None

-- all keys, or those of a part that is named, if it is there
abbrev pub rows_in : Option (Bor Selection) → List TreeMap → Option (List HiveRows)
rows_in None trees = Some (all_rows 0 trees)
rows_in (Some part) trees = part_rows part.now.hive (folded_path part.now.path) (slice_get trees part.now.hive)

-- the keys that a request asks for
abbrev pub asked_rows : ExportRequest → List TreeMap → Option (List HiveRows)
asked_rows request trees = rows_in request.selection trees

-- the prefix by which a hive is shown
abbrev pub text_or_none : Option (List ℕ) → List ℕ
text_or_none None = []
text_or_none (Some text) = text

abbrev pub prefix_of : List Prefix → ℕ → List ℕ
prefix_of prefixes hive = text_or_none (shown_in prefixes hive)

-- keys of a hive, with the prefix by which it is shown
abbrev pub with_prefix : List Prefix → HiveRows → List ℕ × List NamedRow
with_prefix prefixes hive = (prefix_of prefixes hive.0, hive.1)

-- the lines of these keys as fields between tabs
abbrev pub tsv_text : List HiveRows → List ℕ
tsv_text hives = flat_map (λ hive. flat_map (tsv_key_lines hive.0) hive.1) hives

-- a text is these keys' lines of JSON, one hive after the other
abbrev pub AreJsonTexts : List HiveRows → List ℕ → Type 0
AreJsonTexts [] text = text ≡ []
AreJsonTexts (hive ∷ hives) text =
    (front : List ℕ) × (rest : List ℕ) × AreJsonLines hive.0 hive.1 front × AreJsonTexts hives rest × (text ≡ front ++ rest)

-- a text shows these keys in a form
abbrev pub IsExportText : Form → List Prefix → List HiveRows → List ℕ → Type 0
IsExportText (Reg encoding) prefixes hives text = text ≡ reg_text encoding (map (with_prefix prefixes) hives)
IsExportText Json prefixes hives text = AreJsonTexts hives text
IsExportText Tsv prefixes hives text = text ≡ tsv_text hives

-- known bytes grew by a text that shows these keys
abbrev pub ShowsHives : Form → List Prefix → List HiveRows → Option (List ℕ) → Option (List ℕ) → Type 0
ShowsHives form prefixes hives before after = (text : List ℕ) × IsExportText form prefixes hives text × Appends before after text

-- no registration file can show these keys in the encoding that is asked for: a name has the unit 0, 10 or 13, or in UTF-8
-- half of a pair of surrogates
abbrev pub HaveBadName : Form → List Prefix → List HiveRows → Type 0
HaveBadName form prefixes hives = (encoding : Encoding) × (form ≡ Reg encoding) × (can_show encoding (file_names (map (with_prefix prefixes) hives)) ≡ false)

-- why keys are not shown: memory is lacking, or a name is bad
abbrev pub CannotShow : ExportRequest → List HiveRows → Refusal → Type 0
CannotShow request hives why = (why ≡ NoMemory) ⊎ ((why ≡ BadName) × HaveBadName request.form request.prefixes.now hives)

-- why keys that were asked for are not shown: they are not there, or can't be shown
abbrev pub RowsRefused : ExportRequest → Option (List HiveRows) → Refusal → Type 0
RowsRefused request None why = why ≡ NotFound
RowsRefused request (Some hives) why = CannotShow request hives why

-- these keys are there, and are shown
abbrev pub ShowsRows : ExportRequest → Option (List HiveRows) → Option (List ℕ) → Option (List ℕ) → Type 0
ShowsRows request None before after = ⊥
ShowsRows request (Some hives) before after = ShowsHives request.form request.prefixes.now hives before after

-- the keys that a request asks for are shown, or refused
abbrev pub ShowsAsked : ExportRequest → List TreeMap → Option (List ℕ) → Option (List ℕ) → Type 0
ShowsAsked request trees before after = ShowsRows request (asked_rows request trees) before after

abbrev pub MayRefuse : ExportRequest → List TreeMap → Refusal → Type 0
MayRefuse request trees why = RowsRefused request (asked_rows request trees) why

-- known bytes grew by lines of JSON of these keys; and of those of a hive
abbrev pub PrintsJson : List HiveRows → Option (List ℕ) → Option (List ℕ) → Type 0
PrintsJson hives before after = (text : List ℕ) × AreJsonTexts hives text × Appends before after text

abbrev pub PrintsLines : ℕ → List NamedRow → Option (List ℕ) → Option (List ℕ) → Type 0
PrintsLines hive keys before after = (text : List ℕ) × AreJsonLines hive keys text × Appends before after text

-- a failed write, or a refusal for this reason before which nothing was printed
abbrev pub EndsEarly : (Refusal → Type 0) → Option (List ℕ) → Option (List ℕ) → ExportError → Type 0
EndsEarly reason before after (error.Refused why) = reason why × Keeps before after
EndsEarly reason before after error.CannotRead = ⊥
EndsEarly reason before after (error.Write fault) = Unit {0}
