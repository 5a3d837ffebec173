-- What an export of a hive's file prints and answers. Of the file's bins data only this counts: the names of the subkeys on
-- the way to the key that is asked for, and that key with all below it.
use Rattle.std.specs.Prelude.{◌≡◌, ◌⊎◌, ℕ, ◌==◌, if◌then◌else◌, List, [], ◌∷◌, ◌++◌, Option, Some, None}
use Rattle.std.specs.Borrow.{Bor}
use Rattle.std.specs.Io.KnownBytes.{Keeps}
use Rattle.refusals.specs.declared.refusal.Refusal.{Refusal}
use Rattle.refusals.specs.declared.refusal.Refusal.TheVariants as refusals
use Rattle.base_block.specs.declared.block.BaseBlock.{BaseBlock}
use Rattle.reg_names.specs.Names.{folded_path}
use Rattle.reg_tree.specs.Maps.{TreeMap}
use Rattle.key_walk.specs.KeyRows.{NamedRow, tree_rows}
use Rattle.hive_cells.specs.Bins.{Cells, Shows}
use Rattle.hive_records.specs.Images.{BinsEncodeTree}
use Rattle.hive_walk.specs.declared.errors.Fault.{Fault}
use Rattle.hive_walk.specs.declared.errors.ImageError.TheVariants as image_error
use Rattle.hive_walk.specs.Judgements.{PartRefused}
use Rattle.hive_walk.specs.Walks.{HasShortPathsBelow, rows_under}
use Rattle.hive_lookup.specs.declared.errors.LookupError.{LookupError}
use Rattle.hive_lookup.specs.declared.errors.LookupError.TheVariants as lookup
use Rattle.hive_lookup.specs.declared.list_kind.ListKind.TheVariants.{Subkeys}
use Rattle.hive_lookup.specs.Lookups.{ErrorTells, ListsNone, ListsOne, SearchBreaks, WayLeads}
use Rattle.hive_file_reader.specs.Hives.{FileHasBins}
use Rattle.hive_file_reader.specs.Readings.{FileBinsRefusedAs}
use Rattle.reply_lines.specs.declared.status.Status.{Status}
use Rattle.reply_lines.specs.declared.status.Status.TheVariants as status
use Rattle.store_export.specs.declared.request.ExportRequest.{ExportRequest}
use Rattle.store_export.specs.declared.request.Selection.{Selection}
use Rattle.store_export.specs.declared.report.ExportError.{ExportError}
use Rattle.store_export.specs.declared.report.ExportError.TheVariants as error
use Rattle.store_export.specs.Exports.{HiveRows, RowsRefused, ShowsRows}
use Rattle.reply_lines.specs.PrintedRefusals.{PrintsRefusal}

-- the path of the key that is asked for of hive 0: the root's, if all keys are
abbrev pub path_asked : Option (Bor Selection) → Option (List (List ℕ))
path_asked None = Some []
path_asked (Some part) = if part.now.hive == 0 then Some part.now.path else None

-- folded names lead in bins data from the key at one offset to another, and the keys on the way spell them so
abbrev pub WayInBins : List ℕ → ℕ → List (List ℕ) → List (List ℕ) → ℕ → Type 0
WayInBins bins key path names at = (cells : Cells) → Shows bins cells → WayLeads cells key path names at

-- Bins data have a part: folded names lead from a key to another, from whose offset on the data encode a tree. These are the
-- part's keys, if names above lead from the root to the first key. None of them has more than 512 names
abbrev pub HasPart : List ℕ → ℕ → ℕ → List (List ℕ) → List (List ℕ) → List NamedRow → Type 0
HasPart bins minor key above path rows =
    (names : List (List ℕ)) × (at : ℕ) × (tree : TreeMap) × WayInBins bins key path names at
    × BinsEncodeTree bins at minor tree × HasShortPathsBelow (above ++ names) tree × (rows ≡ rows_under (above ++ names) (tree_rows tree))

-- the refusal that a lookup's error is told by
abbrev pub lookup_refusal : LookupError → Refusal
lookup_refusal lookup.NoMemory = refusals.NoMemory
lookup_refusal lookup.NotFound = refusals.NotFound
lookup_refusal (lookup.Damaged why at) = why

-- why folded names don't lead on from a key: it has no subkey of the next name, or it isn't known whether it has
abbrev pub StepBreaks : Cells → ℕ → List ℕ → Refusal → Type 0
StepBreaks cells key name why =
    (error : LookupError) × ErrorTells (ListsNone Subkeys cells key name) (SearchBreaks Subkeys cells key name) error × (why ≡ lookup_refusal error)

abbrev pub WayBreaks : Cells → ℕ → List (List ℕ) → Refusal → Type 0
WayBreaks cells key [] why = ⊥
WayBreaks cells key (name ∷ path) why =
    StepBreaks cells key name why ⊎ ((subkey : ℕ) × ListsOne Subkeys cells key name subkey × WayBreaks cells subkey path why)

-- why bins data have no such part: the way to it breaks, or a fault stands in it
abbrev pub LacksPart : List ℕ → ℕ → ℕ → List (List ℕ) → List (List ℕ) → Refusal → Type 0
LacksPart bins minor key above path why =
    ((cells : Cells) → Shows bins cells → WayBreaks cells key path why)
    ⊎ ((names : List (List ℕ)) × (at : ℕ) × (fault : Fault) × WayInBins bins key path names at
    × PartRefused bins at minor (above ++ names) (image_error.Fault fault) × (why ≡ fault.refusal))

-- a file is clean, and of its bins data and their version and root this is so
abbrev pub InBinsOf : List ℕ → (List ℕ → ℕ → ℕ → Type 0) → Type 0
InBinsOf file says = (block : BaseBlock) × (bins : List ℕ) × FileHasBins file block bins × says bins block.minor block.root

-- these are a file's keys at a path and below it
abbrev pub FileHasPart : List ℕ → List (List ℕ) → List NamedRow → Type 0
FileHasPart file path rows = InBinsOf file (λ bins minor root. HasPart bins minor root [] (folded_path path) rows)

abbrev pub FileLacksPart : List ℕ → List (List ℕ) → Refusal → Type 0
FileLacksPart file path why = InBinsOf file (λ bins minor root. LacksPart bins minor root [] (folded_path path) why)

-- keys as those of hive 0
abbrev pub as_hive : List NamedRow → Option (List HiveRows)
as_hive rows = Some ((0, rows) ∷ [])

-- the keys at the path that is asked for are shown; no path is one of another hive
abbrev pub AskedShown : ExportRequest → Option (List (List ℕ)) → List ℕ → Option (List ℕ) → Option (List ℕ) → Type 0
AskedShown request None file before after = ⊥
AskedShown request (Some path) file before after = (rows : List NamedRow) × FileHasPart file path rows × ShowsRows request (as_hive rows) before after

-- why they aren't: they are not there, or it isn't known; or they can't be shown
abbrev pub AskedRefused : ExportRequest → Option (List (List ℕ)) → List ℕ → Refusal → Type 0
AskedRefused request None file why = InBinsOf file (λ bins minor root. why ≡ refusals.NotFound)
AskedRefused request (Some path) file why =
    FileLacksPart file path why ⊎ ((rows : List NamedRow) × FileHasPart file path rows × RowsRefused request (as_hive rows) why)

-- why a file's keys are not printed: memory is lacking; it is no clean hive; or this is so of the keys that are asked for
abbrev pub HiveRefused : ExportRequest → List ℕ → Refusal → Type 0
HiveRefused request file why =
    (why ≡ refusals.NoMemory) ⊎ (FileBinsRefusedAs 0 file why ⊎ AskedRefused request (path_asked request.selection) file why)

-- the file has the keys that are asked for, and they are shown
abbrev pub ShowsFile : ExportRequest → List ℕ → Option (List ℕ) → Option (List ℕ) → Type 0
ShowsFile request file before after = AskedShown request (path_asked request.selection) file before after

-- the line of a refusal was printed, and nothing else; only if memory is lacking, some keys may stand before it
abbrev pub RefusalIsLast : Option (List ℕ) → Option (List ℕ) → Refusal → Status → Type 0
RefusalIsLast before after why its_status =
    PrintsRefusal before after why its_status ⊎ ((why ≡ refusals.NoMemory) × ((mid : Option (List ℕ)) × PrintsRefusal mid after why its_status))

-- The file has the keys that are asked for, and they are printed; or why not is.
abbrev pub ReportsFile : ExportRequest → List ℕ → Option (List ℕ) → Option (List ℕ) → Status → Type 0
ReportsFile request file before after its_status =
    (ShowsFile request file before after × (its_status ≡ status.Clean))
    ⊎ ((why : Refusal) × HiveRefused request file why × RefusalIsLast before after why its_status)

-- a refusal came before anything was printed, or memory is lacking
abbrev pub KeepsOrLacks : Option (List ℕ) → Option (List ℕ) → Refusal → Type 0
KeepsOrLacks before after why = (why ≡ refusals.NoMemory) ⊎ Keeps before after

-- an export of keys ended early: refused for a reason, or a write failed
abbrev pub StopsEarly : (Refusal → Type 0) → Option (List ℕ) → Option (List ℕ) → ExportError → Type 0
StopsEarly reason before after (error.Refused why) = reason why × KeepsOrLacks before after why
StopsEarly reason before after error.CannotRead = ⊥
StopsEarly reason before after (error.Write fault) = Unit {0}

-- the same, if a file can't be read on either; nothing was printed then
abbrev pub StopsFile : (Refusal → Type 0) → Option (List ℕ) → Option (List ℕ) → ExportError → Type 0
StopsFile reason before after error.CannotRead = Keeps before after
StopsFile reason before after stopped = StopsEarly reason before after stopped
