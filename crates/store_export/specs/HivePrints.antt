-- Steps of an export of a hive's file.
use Rattle.std.specs.Prelude.{◌≡◌, ◌⊎◌, ℕ, false, List, [], ◌∷◌, Option, Some, None, IfSome, Result, Ok, Err}
use Rattle.std.specs.List.{flat_map}
use Rattle.std.specs.Io.KnownBytes.{Appends, Keeps}
use Rattle.std.specs.declared.io.Error.{Error}
use Rattle.refusals.specs.declared.refusal.Refusal.{Refusal}
use Rattle.refusals.specs.declared.refusal.Refusal.TheVariants.{BadName, NoMemory, NotFound}
use Rattle.hive_walk.specs.declared.errors.WalkError.{WalkError}
use Rattle.hive_walk.specs.declared.errors.WalkError.TheVariants as walk_error
use Rattle.hive_walk.specs.declared.errors.ImageError.{ImageError}
use Rattle.hive_walk.specs.declared.errors.ImageError.TheVariants as image_error
use Rattle.hive_file_reader.specs.Readings.{FileBinsRefusedAs}
use Rattle.reg_names.specs.Names.{folded_path}
use Rattle.key_walk.specs.KeyRows.{NamedRow}
use Rattle.reg_export.specs.declared.encoding.Encoding.{Encoding}
use Rattle.reg_export.specs.NameTests.{can_show}
use Rattle.reg_export.specs.RegFiles.{file_names, reg_text}
use Rattle.reg_export.specs.JsonTexts.{AreJsonLines}
use Rattle.reg_export.specs.TsvTexts.{tsv_key_lines}
use Rattle.store_export.specs.declared.request.Form.{Form}
use Rattle.store_export.specs.declared.request.Form.TheVariants.{Reg, Json, Tsv}
use Rattle.store_export.specs.declared.request.ExportRequest.{ExportRequest}
use Rattle.store_export.specs.declared.report.ExportError.{ExportError}
use Rattle.store_export.specs.declared.report.ExportError.TheVariants as error
use Rattle.store_export.specs.Exports.{prefix_of}
use Rattle.store_export.specs.HiveExports.{HasPart, HiveRefused, LacksPart, ShowsFile, StopsFile}

-- it is printed; or memory is lacking, or a write failed
abbrev pub IsPrinted : {T : Type 0} → Type 0 → Result T ExportError → Type 0
IsPrinted printed (Ok done) = printed
IsPrinted printed (Err (error.Refused why)) = why ≡ NoMemory
IsPrinted printed (Err error.CannotRead) = ⊥
IsPrinted printed (Err (error.Write fault)) = Unit {0}

-- how a walk ended, as the answer of an export
abbrev pub AnswersWalk : {T U : Type 0} → Result U (WalkError Error) → Result T ExportError → Type 0
AnswersWalk (Ok walked) (Ok done) = Unit {0}
AnswersWalk (Ok walked) (Err stopped) = ⊥
AnswersWalk (Err (walk_error.Image image)) (Ok done) = ⊥
AnswersWalk (Err (walk_error.Image image)) (Err stopped) = stopped ≡ error.Refused NoMemory
AnswersWalk (Err (walk_error.Sink fault)) (Ok done) = ⊥
AnswersWalk (Err (walk_error.Sink fault)) (Err stopped) = stopped ≡ error.Write fault

-- a text shows keys of hive 0 in a form, behind this prefix
abbrev pub IsKeysText : Form → List ℕ → List NamedRow → List ℕ → Type 0
IsKeysText (Reg encoding) prefix keys text = text ≡ reg_text encoding ((prefix, keys) ∷ [])
IsKeysText Json prefix keys text = AreJsonLines 0 keys text
IsKeysText Tsv prefix keys text = text ≡ flat_map (tsv_key_lines 0) keys

-- known bytes grew by such a text
abbrev pub ShowsKeys : Form → List ℕ → List NamedRow → Option (List ℕ) → Option (List ℕ) → Type 0
ShowsKeys form prefix keys before after = (text : List ℕ) × IsKeysText form prefix keys text × Appends before after text

-- a registration file in the encoding that is asked for can't show a name
abbrev pub HasBadName : Form → List ℕ → List NamedRow → Type 0
HasBadName form prefix keys = (encoding : Encoding) × (form ≡ Reg encoding) × (can_show encoding (file_names ((prefix, keys) ∷ [])) ≡ false)

-- keys are shown; or why not, before which nothing was printed unless memory is lacking
abbrev pub AnswersScanned : {T : Type 0} → Form → List ℕ → List NamedRow → Option (List ℕ) → Option (List ℕ) → Result T ExportError → Type 0
AnswersScanned form prefix keys before after (Ok done) = ShowsKeys form prefix keys before after
AnswersScanned form prefix keys before after (Err (error.Refused why)) =
    (why ≡ NoMemory) ⊎ ((why ≡ BadName) × HasBadName form prefix keys × Keeps before after)
AnswersScanned form prefix keys before after (Err error.CannotRead) = ⊥
AnswersScanned form prefix keys before after (Err (error.Write fault)) = Unit {0}

-- why keys of a part are not shown: there is no such part; or a registration file can't show a name
abbrev pub PartUnshown : ExportRequest → List ℕ → ℕ → ℕ → List (List ℕ) → List (List ℕ) → Refusal → Type 0
PartUnshown request bins minor key above path why =
    LacksPart bins minor key above path why
    ⊎ ((rows : List NamedRow) × HasPart bins minor key above path rows × (why ≡ BadName) × HasBadName request.form (prefix_of request.prefixes.now 0) rows)

-- bins data have a part, whose keys are shown; or why not, before which nothing was printed unless memory is lacking
abbrev pub AnswersPart : {T : Type 0} → ExportRequest → List ℕ → ℕ → ℕ → List (List ℕ) → List (List ℕ) → Option (List ℕ) → Option (List ℕ) → Result T ExportError → Type 0
AnswersPart request bins minor key above path before after (Ok done) =
    (rows : List NamedRow) × HasPart bins minor key above path rows × ShowsKeys request.form (prefix_of request.prefixes.now 0) rows before after
AnswersPart request bins minor key above path before after (Err (error.Refused why)) = (why ≡ NoMemory) ⊎ (PartUnshown request bins minor key above path why × Keeps before after)
AnswersPart request bins minor key above path before after (Err error.CannotRead) = ⊥
AnswersPart request bins minor key above path before after (Err (error.Write fault)) = Unit {0}

-- the part at the path that is asked for is answered; no path is one that isn't there
abbrev pub AnswersAsked : {T : Type 0} → ExportRequest → Option (List (List ℕ)) → List ℕ → ℕ → ℕ → Option (List ℕ) → Option (List ℕ) → Result T ExportError → Type 0
AnswersAsked request None bins minor root before after answer = (answer ≡ Err (error.Refused NotFound)) × Keeps before after
AnswersAsked request (Some path) bins minor root before after answer = AnswersPart request bins minor root [] (folded_path path) before after answer

-- why a file's bins data are not there
abbrev pub BinsStopped : List ℕ → ExportError → Type 0
BinsStopped file (error.Refused why) = FileBinsRefusedAs 0 file why
BinsStopped file error.CannotRead = Unit {0}
BinsStopped file (error.Write fault) = ⊥

-- why an image is refused, as an export's error
abbrev pub image_refusal : ImageError → ExportError
image_refusal image_error.NoMemory = error.Refused NoMemory
image_refusal (image_error.Fault fault) = error.Refused fault.refusal

-- a file's keys that are asked for are shown, or why not
abbrev pub AnswersFile : {T : Type 0} → Option (List ℕ) → ExportRequest → Option (List ℕ) → Option (List ℕ) → Result T ExportError → Type 0
AnswersFile known request before after (Ok done) = IfSome known (λ file. ShowsFile request file before after)
AnswersFile known request before after (Err stopped) = IfSome known (λ file. StopsFile (HiveRefused request file) before after stopped)
