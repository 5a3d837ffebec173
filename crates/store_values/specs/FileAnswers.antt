-- What is printed of a value and of a key of a hive's file: what is found by names, whatever else the file has.
use Rattle.std.specs.Prelude.{◌≡◌, ◌≢◌, ◌⊎◌, ℕ, Bool, List, Option, Ok}
use Rattle.std.specs.FinMap as finite
use Rattle.std.specs.Io.KnownBytes.{Appends}
use Rattle.refusals.specs.declared.refusal.Refusal.{Refusal}
use Rattle.refusals.specs.declared.refusal.Refusal.TheVariants as refusals
use Rattle.reg_names.specs.Names.{folded, folded_path}
use Rattle.reg_tree_parts.specs.declared.value.Value.{Value}
use Rattle.reg_tree_parts.specs.Rows.{Row}
use Rattle.base_block.specs.declared.block.BaseBlock.{BaseBlock}
use Rattle.hive_cells.specs.Bins.{Cells, Shows}
use Rattle.hive_records.specs.Images.{splits}
use Rattle.hive_records.specs.Values.{value_at}
use Rattle.hive_file_reader.specs.Hives.{FileHasBins}
use Rattle.hive_file_reader.specs.Readings.{FileBinsRefusedAs}
use Rattle.hive_lookup.specs.declared.errors.LookupError.{LookupError}
use Rattle.hive_lookup.specs.declared.errors.LookupError.TheVariants as lookup
use Rattle.hive_lookup.specs.declared.errors.PathError.{PathError}
use Rattle.hive_lookup.specs.declared.list_kind.ListKind.TheVariants.{Values}
use Rattle.hive_lookup.specs.Lookups.{ErrorTells, ListsNone, ListsOne, PathEnds, PathLeads, ValueBreaks}
use Rattle.hive_lookup.specs.Listings.{KeyBreaks, KeySays, ListsNames, NamesBreak}
use Rattle.reply_lines.specs.declared.status.Status.{Status}
use Rattle.reply_lines.specs.declared.status.Status.TheVariants as status
use Rattle.reply_lines.specs.PrintedRefusals.{PrintsRefusal}
use Rattle.store_values.specs.declared.value_form.ValueForm.{ValueForm}
use Rattle.store_values.specs.Answers.{key_lines, value_text}

-- the refusal that an error is told by
abbrev pub refusal_of : LookupError → Refusal
refusal_of lookup.NoMemory = refusals.NoMemory
refusal_of lookup.NotFound = refusals.NotFound
refusal_of (lookup.Damaged why at) = why

-- names lead to a key, which has this value under a name
abbrev pub HasValue : Bool → Cells → ℕ → List (List ℕ) → List ℕ → Value → Type 0
HasValue split cells root path name value = (key : ℕ) × PathLeads cells root path key × (at : ℕ) × ListsOne Values cells key name at × ((value_at split at cells).says ≡ Ok value)

-- why they lead to none: the path ends before; or the key hasn't such a value, or it isn't read
abbrev pub LacksValue : Bool → Cells → ℕ → List (List ℕ) → List ℕ → Refusal → Type 0
LacksValue split cells root path name why =
    ((end : PathError) × PathEnds cells root path end × (why ≡ refusal_of end.error))
    ⊎ ((key : ℕ) × PathLeads cells root path key × (error : LookupError)
    × ErrorTells (ListsNone Values cells key name) (ValueBreaks split cells key name) error × (why ≡ refusal_of error))

-- names lead to a key, whose subkeys have these names, in their order, and which has this row
abbrev pub HasKey : Bool → Cells → ℕ → List (List ℕ) → List (List ℕ) → Row → Type 0
HasKey split cells root path names row = (key : ℕ) × PathLeads cells root path key × ListsNames cells key names × KeySays split cells key row

-- why they lead to none: the path ends before; or the names of the subkeys aren't read, or the key isn't read whole
abbrev pub LacksKey : Bool → Cells → ℕ → List (List ℕ) → Refusal → Type 0
LacksKey split cells root path why =
    ((end : PathError) × PathEnds cells root path end × (why ≡ refusal_of end.error))
    ⊎ ((key : ℕ) × PathLeads cells root path key × (error : LookupError)
    × (ErrorTells ⊥ (NamesBreak cells key) error ⊎ ErrorTells ⊥ (KeyBreaks split cells key) error) × (why ≡ refusal_of error))

-- a file has bins data of a version with a root, of whose cells this is so. It is hive 0, and no other
abbrev pub InFile : List ℕ → ℕ → (Bool → Cells → ℕ → Type 0) → Type 0
InFile file hive says = (hive ≡ 0) × (block : BaseBlock) × (bins : List ℕ) × FileHasBins file block bins
    × ((cells : Cells) → Shows bins cells → says (splits block.minor) cells block.root)

-- why a file has none: it has no bins data, or it is another hive that is asked for, or this is so of its cells
abbrev pub NotInFile : List ℕ → ℕ → (Bool → Cells → ℕ → Refusal → Type 0) → Refusal → Type 0
NotInFile file hive lacks why =
    FileBinsRefusedAs 0 file why
    ⊎ (((hive ≢ 0) × (why ≡ refusals.NotFound)) ⊎ InFile file hive (λ split cells root. lacks split cells root why))

-- the value of a name is printed in a form; or why there is none
abbrev pub ReportsFileValue : ValueForm → ℕ → List (List ℕ) → List ℕ → List ℕ → Option (List ℕ) → Option (List ℕ) → Status → Type 0
ReportsFileValue form hive path name file before after its_status =
    ((value : Value) × InFile file hive (λ split cells root. HasValue split cells root (folded_path path) (folded name) value)
    × Appends before after (value_text form value) × (its_status ≡ status.Clean))
    ⊎ ((why : Refusal) × NotInFile file hive (λ split cells root. LacksValue split cells root (folded_path path) (folded name)) why
    × PrintsRefusal before after why its_status)

-- the lines of a key are printed; or why there is none
abbrev pub ReportsFileKey : ℕ → List (List ℕ) → List ℕ → Option (List ℕ) → Option (List ℕ) → Status → Type 0
ReportsFileKey hive path file before after its_status =
    ((names : List (List ℕ)) × (row : Row) × InFile file hive (λ split cells root. HasKey split cells root (folded_path path) names row)
    × Appends before after (key_lines names (finite.values row.values)) × (its_status ≡ status.Clean))
    ⊎ ((why : Refusal) × NotInFile file hive (λ split cells root. LacksKey split cells root (folded_path path)) why
    × PrintsRefusal before after why its_status)
