-- What is answered of keys that a sink took.
use Rattle.std.proofs.Common.{◌≡◌, ◌⊎◌, inl, inr, ℕ, Bool, false, ◌&&◌, List, [], ◌∷◌, ◌++◌, Option, Some, None, Result, Ok, Err, OnOk, IfErr, MatchResult, IfSome, refl, sym, subst, ◌∙◌, ap, append_assoc}
use Rattle.std.specs.List.{flat_map, list_all}
use Rattle.std.specs.Io.KnownBytes.{Appends, Keeps}
use Rattle.std.specs.declared.io.Error.{Error}
use Rattle.std.proofs.lemmas.List.{append-nil}
use Rattle.refusals.specs.declared.refusal.Refusal.{Refusal}
use Rattle.refusals.specs.declared.refusal.Refusal.TheVariants.{BadName, NoMemory, NotFound}
use Rattle.refusals.specs.Refusals.{refusal_text}
use Rattle.base_block.specs.declared.block.BaseBlock.{BaseBlock}
use Rattle.reg_tree.specs.Maps.{TreeMap}
use Rattle.key_walk.specs.KeyRows.{NamedRow, tree_rows}
use Rattle.hive_records.specs.Images.{BinsEncodeTree}
use Rattle.hive_file_reader.specs.Hives.{FileHasBins}
use Rattle.hive_walk.specs.declared.errors.ImageError.{ImageError}
use Rattle.hive_walk.specs.declared.errors.ImageError.TheVariants as image_error
use Rattle.hive_walk.specs.Judgements.{PartRefused}
use Rattle.hive_walk.specs.declared.errors.WalkError.{WalkError}
use Rattle.hive_walk.specs.declared.errors.WalkError.TheVariants as walk_error
use Rattle.hive_walk.specs.Walks.{HasShortPathsBelow, IsNoFault, rows_under}
use Rattle.hive_lookup.specs.declared.errors.LookupError.{LookupError}
use Rattle.hive_lookup.specs.declared.list_kind.ListKind.TheVariants.{Subkeys}
use Rattle.hive_lookup.specs.Lookups.{ErrorTells, IsSpelled, ListsNone, ListsOne, SearchBreaks}
use Rattle.hive_cells.specs.Bins.{Cells, Shows}
use Rattle.reg_names.specs.Names.{folded_path}
use Rattle.reg_prefixes.specs.declared.prefix.Prefix.{Prefix}
use Rattle.reg_export.specs.declared.encoding.Encoding.{Encoding}
use Rattle.reg_export.specs.declared.name_scan.NameScan.{NameScan}
use Rattle.reg_export.specs.declared.encoding.Encoding.TheVariants.{Utf8, Utf16}
use Rattle.reg_export.specs.NameTests.{are_chars, can_show, fits_line}
use Rattle.reg_export.specs.Encodings.{PrintsFile}
use Rattle.reg_export.specs.RegTexts.{reg_units}
use Rattle.reg_export.specs.RegFiles.{file_names, reg_text}
use Rattle.reg_export.specs.Scans.{new_scan, scan_with, seen_can_show, shown_names}
use Rattle.reg_export.specs.TsvTexts.{tsv_key_lines}
use Rattle.store_export.specs.declared.request.Form.{Form}
use Rattle.store_export.specs.declared.request.Form.TheVariants.{Reg, Json, Tsv}
use Rattle.store_export.specs.declared.request.ExportRequest.{ExportRequest}
use Rattle.store_export.specs.declared.report.ExportError.{ExportError}
use Rattle.store_export.specs.declared.report.ExportError.TheVariants as error
use Rattle.store_export.specs.Exports.{IsExportText, RowsRefused, ShowsRows, prefix_of}
use Rattle.store_export.specs.Reports.{IsTold}
use Rattle.store_export.proofs.Told.{kept_appends, rows_kept}
use Rattle.store_export.specs.HiveExports.{AskedRefused, AskedShown, HasPart, HiveRefused, KeepsOrLacks, LacksPart, RefusalIsLast, ReportsFile, as_hive, lookup_refusal, path_asked}
use Rattle.store_export.specs.HivePrints.{AnswersAsked, AnswersFile, AnswersPart, AnswersScanned, AnswersWalk, BinsStopped, HasBadName, IsKeysText, IsPrinted, ShowsKeys, image_refusal}
use Rattle.reply_lines.specs.declared.status.Status.{Status}

-- the refusal of an error that is one
abbrev why_of : ExportError → Refusal
why_of (error.Refused why) = why
why_of error.CannotRead = NoMemory
why_of (error.Write fault) = NoMemory

-- keys that were taken are printed, and else the answer says why they aren't
pub printed_by : {T U P : Type 0} {Q : U → Type 0} (walked : Result U (WalkError Error)) (answer : Result T ExportError) → ((there : U) → Q there → P) → MatchResult walked Q IsNoFault → AnswersWalk walked answer → IsPrinted P answer
printed_by (Ok there) (Ok done) f took so = f there took
printed_by (Ok there) (Err stopped) f took so = absurd so
printed_by (Err (walk_error.Image image)) (Ok done) f took so = absurd so
printed_by (Err (walk_error.Image image)) (Err (error.Refused why)) f took so = ap why_of so
printed_by (Err (walk_error.Image image)) (Err error.CannotRead) f took so = absurd (let no : ⊥ = cc in no)
printed_by (Err (walk_error.Image image)) (Err (error.Write fault)) f took so = tt
printed_by (Err (walk_error.Sink fault)) (Ok done) f took so = absurd so
printed_by (Err (walk_error.Sink fault)) (Err (error.Refused why)) f took so = absurd (let no : ⊥ = cc in no)
printed_by (Err (walk_error.Sink fault)) (Err error.CannotRead) f took so = absurd (let no : ⊥ = cc in no)
printed_by (Err (walk_error.Sink fault)) (Err (error.Write other)) f took so = tt

-- what is printed says more
pub printed_so : {T P Q : Type 0} (answer : Result T ExportError) → (P → Q) → IsPrinted P answer → IsPrinted Q answer
printed_so (Ok done) f p = f p
printed_so (Err (error.Refused why)) f p = p
printed_so (Err error.CannotRead) f p = p
printed_so (Err (error.Write fault)) f p = tt

-- what a sink took of the keys of a tree, it took of those of the same tree
pub took_rows : {S X E : Type 0} (Took : S → S → List NamedRow → Type 0) (refused : E → Type 0) (before after : S) (walked : Result X E) (bins : List ℕ) (at minor : ℕ) (names : List (List ℕ)) (tree : TreeMap)
    → ((bytes : List ℕ) (root version : ℕ) (one other : TreeMap) → BinsEncodeTree bytes root version one → BinsEncodeTree bytes root version other → one ≡ other)
    → BinsEncodeTree bins at minor tree → OnOk walked ((t : TreeMap) × BinsEncodeTree bins at minor t × Took before after (rows_under names (tree_rows t))) → IfErr walked refused
    → MatchResult walked (λ _. Took before after (rows_under names (tree_rows tree))) refused
took_rows Took refused before after (Ok x) bins at minor names tree same encodes took stopped =
    subst (λ (t : TreeMap). Took before after (rows_under names (tree_rows t))) (same bins at minor took.0 tree took.1 encodes) took.2
took_rows Took refused before after (Err e) bins at minor names tree same encodes took stopped = stopped

-- nothing was printed
pub keeps_same : (known : Option (List ℕ)) → Keeps known known
keeps_same None = tt
keeps_same (Some bytes) = refl

-- what is printed shows keys whose names were looked at
pub scanned_by : {T P : Type 0} (answer : Result T ExportError) (form : Form) (prefix : List ℕ) (keys : List NamedRow) (before after : Option (List ℕ)) → (P → ShowsKeys form prefix keys before after) → IsPrinted P answer → AnswersScanned form prefix keys before after answer
scanned_by (Ok done) form prefix keys before after f p = f p
scanned_by (Err (error.Refused why)) form prefix keys before after f p = inl p
scanned_by (Err error.CannotRead) form prefix keys before after f p = p
scanned_by (Err (error.Write fault)) form prefix keys before after f p = tt

-- the names that a scan has seen of keys, in the file of these keys
seen_names : (prefix : List ℕ) (keys : List NamedRow) (test : List ℕ → Bool) (seen : Bool) → seen ≡ list_all test (flat_map shown_names keys) → list_all test (file_names ((prefix, keys) ∷ [])) ≡ seen
seen_names prefix keys test seen e = ap (list_all test) (append-nil (flat_map shown_names keys)) ∙ sym e

-- whether a file can show the names that were seen
seen_shown : (encoding : Encoding) (names : NameScan) (prefix : List ℕ) (keys : List NamedRow) → names ≡ scan_with new_scan (flat_map shown_names keys) → can_show encoding (file_names ((prefix, keys) ∷ [])) ≡ seen_can_show encoding names
seen_shown Utf8 names prefix keys seen =
    let lines = seen_names prefix keys fits_line names.fit_lines (ap (λ (scan : NameScan). scan.fit_lines) seen) in
    let whole = seen_names prefix keys are_chars names.are_chars (ap (λ (scan : NameScan). scan.are_chars) seen) in λ i. lines i && whole i
seen_shown Utf16 names prefix keys seen = seen_names prefix keys fits_line names.fit_lines (ap (λ (scan : NameScan). scan.fit_lines) seen)

-- a registration file can't show a name that was seen
pub bad_name : (T : Type 0) (encoding : Encoding) (names : NameScan) (prefix : List ℕ) (keys : List NamedRow) (known : Option (List ℕ)) → names ≡ scan_with new_scan (flat_map shown_names keys) → seen_can_show encoding names ≡ false
    → AnswersScanned {T = T} (Reg encoding) prefix keys known known (Err (error.Refused BadName))
bad_name T encoding names prefix keys known seen bad = inr (refl, (encoding, refl, seen_shown encoding names prefix keys seen ∙ bad), keeps_same known)

pub file_shown : (encoding : Encoding) (prefix : List ℕ) (keys : List NamedRow) (before after : Option (List ℕ)) → PrintsFile encoding before after (reg_units ((prefix, keys) ∷ [])) → ShowsKeys (Reg encoding) prefix keys before after
file_shown encoding prefix keys before after written = (reg_text encoding ((prefix, keys) ∷ []), refl, written.1)

pub tsv_shown : (prefix : List ℕ) (keys : List NamedRow) (before after : Option (List ℕ)) → Appends before after (flat_map (tsv_key_lines 0) keys) → ShowsKeys Tsv prefix keys before after
tsv_shown prefix keys before after written = (flat_map (tsv_key_lines 0) keys, refl, written)

-- what is answered of a form is answered of the same form
pub in_form : {T : Type 0} (answer : Result T ExportError) (form other : Form) (prefix : List ℕ) (keys : List NamedRow) (before after : Option (List ℕ)) → form ≡ other → AnswersScanned other prefix keys before after answer → AnswersScanned form prefix keys before after answer
in_form answer form other prefix keys before after same answers = subst (λ (it : Form). AnswersScanned it prefix keys before after answer) (sym same) answers

-- keys are not looked at for want of memory
pub unscanned : (T : Type 0) (form : Form) (prefix : List ℕ) (keys : List NamedRow) (before after : Option (List ℕ)) (stopped : ExportError) → stopped ≡ error.Refused NoMemory → AnswersScanned {T = T} form prefix keys before after (Err stopped)
unscanned T form prefix keys before after (error.Refused why) lacking = inl (ap why_of lacking)
unscanned T form prefix keys before after error.CannotRead lacking = let no : ⊥ = cc in no
unscanned T form prefix keys before after (error.Write fault) lacking = tt

-- ---- the keys that are asked for

-- a text of keys of hive 0 is one of hives
text_of_hives : (form : Form) (prefixes : List Prefix) (keys : List NamedRow) (text : List ℕ) → IsKeysText form (prefix_of prefixes 0) keys text → IsExportText form prefixes ((0, keys) ∷ []) text
text_of_hives (Reg encoding) prefixes keys text is = is
text_of_hives Json prefixes keys text is = (text, [], is, refl, sym (append-nil text))
text_of_hives Tsv prefixes keys text is = is ∙ sym (append-nil (flat_map (tsv_key_lines 0) keys))

rows_shown : (request : ExportRequest) (keys : List NamedRow) (before after : Option (List ℕ)) → ShowsKeys request.form (prefix_of request.prefixes.now 0) keys before after → ShowsRows request (as_hive keys) before after
rows_shown request keys before after shown = (shown.0, text_of_hives request.form request.prefixes.now keys shown.0 shown.1, shown.2)

rows_refused : (request : ExportRequest) (keys : List NamedRow) (why : Refusal) → why ≡ BadName → HasBadName request.form (prefix_of request.prefixes.now 0) keys → RowsRefused request (as_hive keys) why
rows_refused request keys why is bad = inr (is, bad)

-- ---- a part

module _ (request : ExportRequest) (bins : List ℕ) (minor : ℕ) (before after : Option (List ℕ)) where
  -- the key itself is a part, to which no name leads
  here_is : (at : ℕ) (above : List (List ℕ)) (tree : TreeMap) → BinsEncodeTree bins at minor tree → HasShortPathsBelow above tree → HasPart bins minor at above [] (rows_under above (tree_rows tree))
  here_is at above tree encodes short = (
    [],
    at,
    tree,
    (λ cells shows. refl),
    encodes,
    subst (λ (names : List (List ℕ)). HasShortPathsBelow names tree) (sym (append-nil above)) short,
    ap (λ (names : List (List ℕ)). rows_under names (tree_rows tree)) (sym (append-nil above)),
  )

  pub part_printed : {T : Type 0} (at : ℕ) (above : List (List ℕ)) (tree : TreeMap) (prefix : List ℕ) (answer : Result T ExportError) → BinsEncodeTree bins at minor tree → HasShortPathsBelow above tree → prefix ≡ prefix_of request.prefixes.now 0
      → AnswersScanned request.form prefix (rows_under above (tree_rows tree)) before after answer → AnswersPart request bins minor at above [] before after answer
  part_printed at above tree prefix (Ok done) encodes short same shown =
      (rows_under above (tree_rows tree), here_is at above tree encodes short, subst (λ p. ShowsKeys request.form p (rows_under above (tree_rows tree)) before after) same shown)
  part_printed at above tree prefix (Err (error.Refused why)) encodes short same (inl lacking) = inl lacking
  part_printed at above tree prefix (Err (error.Refused why)) encodes short same (inr bad) =
      inr (inr (rows_under above (tree_rows tree), here_is at above tree encodes short, bad.0, subst (λ p. HasBadName request.form p (rows_under above (tree_rows tree))) same bad.1), bad.2)
  part_printed at above tree prefix (Err error.CannotRead) encodes short same never = never
  part_printed at above tree prefix (Err (error.Write fault)) encodes short same never = tt

  -- what is below a subkey is below its parent, under its name
  has_below : (key : ℕ) (above : List (List ℕ)) (name : List ℕ) (path : List (List ℕ)) (subkey : ℕ) (spelled : List ℕ) → ((cells : Cells) → Shows bins cells → ListsOne Subkeys cells key name subkey × IsSpelled cells subkey spelled)
      → (rows : List NamedRow) → HasPart bins minor subkey (above ++ spelled ∷ []) path rows → HasPart bins minor key above (name ∷ path) rows
  has_below key above name path subkey spelled step rows part =
      let (names, at, tree, way, encodes, short, are) = part in (
        spelled ∷ names,
        at,
        tree,
        (λ cells shows. let one = step cells shows in (subkey, one.0, one.1, way cells shows)),
        encodes,
        subst (λ (all : List (List ℕ)). HasShortPathsBelow all tree) (append_assoc above (spelled ∷ []) names) short,
        are ∙ ap (λ (all : List (List ℕ)). rows_under all (tree_rows tree)) (append_assoc above (spelled ∷ []) names),
      )

  lacks_below : (key : ℕ) (above : List (List ℕ)) (name : List ℕ) (path : List (List ℕ)) (subkey : ℕ) (spelled : List ℕ) → ((cells : Cells) → Shows bins cells → ListsOne Subkeys cells key name subkey × IsSpelled cells subkey spelled)
      → (why : Refusal) → LacksPart bins minor subkey (above ++ spelled ∷ []) path why → LacksPart bins minor key above (name ∷ path) why
  lacks_below key above name path subkey spelled step why (inl breaks) = inl (λ cells shows. inr (subkey, (step cells shows).0, breaks cells shows))
  lacks_below key above name path subkey spelled step why (inr fault) =
      let (names, at, its, way, refused, is) = fault in inr (
        spelled ∷ names,
        at,
        its,
        (λ cells shows. let one = step cells shows in (subkey, one.0, one.1, way cells shows)),
        subst (λ (all : List (List ℕ)). PartRefused bins at minor all (image_error.Fault its)) (append_assoc above (spelled ∷ []) names) refused,
        is,
      )

  pub printed_below : {T : Type 0} (key : ℕ) (above : List (List ℕ)) (name : List ℕ) (path : List (List ℕ)) (subkey : ℕ) (spelled : List ℕ) (answer : Result T ExportError) → ((cells : Cells) → Shows bins cells → ListsOne Subkeys cells key name subkey × IsSpelled cells subkey spelled)
      → AnswersPart request bins minor subkey (above ++ spelled ∷ []) path before after answer → AnswersPart request bins minor key above (name ∷ path) before after answer
  printed_below key above name path subkey spelled (Ok done) step shown = (shown.0, has_below key above name path subkey spelled step shown.0 shown.1, shown.2)
  printed_below key above name path subkey spelled (Err (error.Refused why)) step (inl lacking) = inl lacking
  printed_below key above name path subkey spelled (Err (error.Refused why)) step (inr (inl lacks, kept)) = inr (inl (lacks_below key above name path subkey spelled step why lacks), kept)
  printed_below key above name path subkey spelled (Err (error.Refused why)) step (inr (inr bad, kept)) = inr (inr (bad.0, has_below key above name path subkey spelled step bad.0 bad.1, bad.2, bad.3), kept)
  printed_below key above name path subkey spelled (Err error.CannotRead) step never = never
  printed_below key above name path subkey spelled (Err (error.Write fault)) step never = tt

module _ (request : ExportRequest) (bins : List ℕ) (minor : ℕ) (known : Option (List ℕ)) (key : ℕ) (above : List (List ℕ)) where
  -- a name leads nowhere
  pub step_refused : (T : Type 0) (name : List ℕ) (path : List (List ℕ)) (looked : LookupError) (stopped : ExportError) → ((cells : Cells) → Shows bins cells → ErrorTells (ListsNone Subkeys cells key name) (SearchBreaks Subkeys cells key name) looked) → stopped ≡ error.Refused (lookup_refusal looked)
      → AnswersPart {T = T} request bins minor key above (name ∷ path) known known (Err stopped)
  step_refused T name path looked stopped tells is =
      subst (λ (it : ExportError). AnswersPart {T = T} request bins minor key above (name ∷ path) known known (Err it)) (sym is) (inr (inl (inl (λ cells shows. inl (looked, tells cells shows, refl))), keeps_same known))

  -- a fault stands in the part
  pub part_refused : (T : Type 0) (image : ImageError) (stopped : ExportError) → PartRefused bins key minor above image → stopped ≡ image_refusal image → AnswersPart {T = T} request bins minor key above [] known known (Err stopped)
  part_refused T image_error.NoMemory stopped refused is = subst (λ (it : ExportError). AnswersPart {T = T} request bins minor key above [] known known (Err it)) (sym is) (inl refl)
  part_refused T (image_error.Fault fault) stopped refused is =
      subst (λ (it : ExportError). AnswersPart {T = T} request bins minor key above [] known known (Err it)) (sym is)
      (inr (inl (inr ([], key, fault, (λ cells shows. refl), subst (λ (names : List (List ℕ)). PartRefused bins key minor names (image_error.Fault fault)) (sym (append-nil above)) refused, refl)), keeps_same known))

pub asked_some : {T : Type 0} (request : ExportRequest) (asked : Option (List (List ℕ))) (path : List (List ℕ)) (bins : List ℕ) (minor root : ℕ) (before after : Option (List ℕ)) (answer : Result T ExportError) → Some path ≡ asked
    → AnswersPart request bins minor root [] (folded_path path) before after answer → AnswersAsked request asked bins minor root before after answer
asked_some request asked path bins minor root before after answer is answers = subst (λ (it : Option (List (List ℕ))). AnswersAsked request it bins minor root before after answer) is answers

pub asked_none : (T : Type 0) (request : ExportRequest) (asked : Option (List (List ℕ))) (bins : List ℕ) (minor root : ℕ) (known : Option (List ℕ)) → None ≡ asked → AnswersAsked {T = T} request asked bins minor root known known (Err (error.Refused NotFound))
asked_none T request asked bins minor root known is = subst (λ (it : Option (List (List ℕ))). AnswersAsked {T = T} request it bins minor root known known (Err (error.Refused NotFound))) is (refl, keeps_same known)

-- ---- a file

if_some_all : {A : Type 0} {P Q : A → Type 0} (known : Option A) → ((x : A) → P x → Q x) → IfSome known P → IfSome known Q
if_some_all None f p = tt
if_some_all (Some x) f p = f x p

pub file_unread : (T : Type 0) (known : Option (List ℕ)) (request : ExportRequest) (before : Option (List ℕ)) (stopped : ExportError) → IfSome known (λ file. BinsStopped file stopped) → AnswersFile {T = T} known request before before (Err stopped)
file_unread T known request before (error.Refused why) refused = if_some_all known (λ file why_not. (inr (inl why_not), inr (keeps_same before))) refused
file_unread T known request before error.CannotRead refused = if_some_all known (λ file why_not. keeps_same before) refused
file_unread T known request before (error.Write fault) refused = if_some_all known (λ file why_not. absurd why_not) refused

abbrev why_in : {T : Type 0} → Result T ExportError → Refusal
why_in (Ok done) = NotFound
why_in (Err stopped) = why_of stopped

module _ (request : ExportRequest) (before after : Option (List ℕ)) (block : BaseBlock) (bins file : List ℕ) (its : FileHasBins file block bins) where
  asked_shown : {T : Type 0} (asked : Option (List (List ℕ))) (done : T) → AnswersAsked {T = T} request asked bins block.minor block.root before after (Ok done) → AskedShown request asked file before after
  asked_shown None done answers = absurd (let no : Ok done ≡ Err (error.Refused NotFound) = answers.0 in let it : ⊥ = cc in it)
  asked_shown (Some path) done answers = (answers.0, (block, bins, its, answers.1), rows_shown request answers.0 before after answers.2)

  asked_stopped : (T : Type 0) (asked : Option (List (List ℕ))) (why : Refusal) → AnswersAsked {T = T} request asked bins block.minor block.root before after (Err (error.Refused why))
      → ((why ≡ NoMemory) ⊎ AskedRefused request asked file why) × KeepsOrLacks before after why
  asked_stopped T None why answers = (inr (block, bins, its, ap why_in answers.0), inr answers.1)
  asked_stopped T (Some path) why (inl lacking) = (inl lacking, inl lacking)
  asked_stopped T (Some path) why (inr (inl lacks, kept)) = (inr (inl (block, bins, its, lacks)), inr kept)
  asked_stopped T (Some path) why (inr (inr bad, kept)) = (inr (inr (bad.0, (block, bins, its, bad.1), rows_refused request bad.0 why bad.2 bad.3)), inr kept)

  asked_read : (T : Type 0) (asked : Option (List (List ℕ))) → AnswersAsked {T = T} request asked bins block.minor block.root before after (Err error.CannotRead) → ⊥
  asked_read T None answers = let no = answers.0 in let it : ⊥ = cc in it
  asked_read T (Some path) answers = answers

  refused_for : (why : Refusal) → (why ≡ NoMemory) ⊎ AskedRefused request (path_asked request.selection) file why → HiveRefused request file why
  refused_for why (inl lacking) = inl lacking
  refused_for why (inr refused) = inr (inr refused)

  answers_in : {T : Type 0} (answer : Result T ExportError) → AnswersAsked request (path_asked request.selection) bins block.minor block.root before after answer → AnswersFile (Some file) request before after answer
  answers_in (Ok done) answers = asked_shown (path_asked request.selection) done answers
  answers_in {T} (Err (error.Refused why)) answers = let stopped = asked_stopped T (path_asked request.selection) why answers in (refused_for why stopped.0, stopped.1)
  answers_in {T} (Err error.CannotRead) answers = absurd (asked_read T (path_asked request.selection) answers)
  answers_in (Err (error.Write fault)) answers = tt

pub file_asked : {T : Type 0} (known : Option (List ℕ)) (request : ExportRequest) (before after : Option (List ℕ)) (block : BaseBlock) (bins : List ℕ) (answer : Result T ExportError) → IfSome known (λ file. FileHasBins file block bins)
    → AnswersAsked request (path_asked request.selection) bins block.minor block.root before after answer → AnswersFile known request before after answer
file_asked None request before after block bins (Ok done) has answers = tt
file_asked None request before after block bins (Err stopped) has answers = tt
file_asked (Some file) request before after block bins answer has answers = answers_in request before after block bins file has answer answers

-- what was printed of a file, and told, is a report of it
pub file_reported : {T : Type 0} (known : Option (List ℕ)) (request : ExportRequest) (printed : Result T ExportError) (old mid new : Option (List ℕ)) (its_status : Status) → AnswersFile known request old mid printed → IsTold printed mid new its_status
    → IfSome known (λ file. ReportsFile request file old new its_status)
file_reported known request (Ok done) old mid new its_status answers told =
    if_some_all known (λ file shown. inl (still_shown (path_asked request.selection) file shown, told.1)) answers
  where
    still_shown : (asked : Option (List (List ℕ))) (file : List ℕ) → AskedShown request asked file old mid → AskedShown request asked file old new
    still_shown None file shown = shown
    still_shown (Some path) file shown = (shown.0, shown.1, rows_kept request (as_hive shown.0) old mid new shown.2 told.0)
file_reported known request (Err (error.Refused why)) old mid new its_status answers told =
    if_some_all known (λ file stopped. inr (why, stopped.0, last stopped.1)) answers
  where
    last : KeepsOrLacks old mid why → RefusalIsLast old new why its_status
    last (inl lacking) = inr (lacking, (mid, told))
    last (inr kept) = inl (kept_appends old mid new (refusal_text why ++ 10 ∷ []) kept told.0, told.1)
file_reported known request (Err error.CannotRead) old mid new its_status answers told = absurd told
file_reported known request (Err (error.Write fault)) old mid new its_status answers told = absurd told
