-- What is found in a hive's cells by names, and why something isn't. Nothing is said of the records beside the way.
use Rattle.std.specs.Prelude.{◌≡◌, ◌⊎◌, ◌<◌, ℕ, Bool, List, [], ◌∷◌, length, take, slice_get, Option, Some, None, Ok, Err}
use Rattle.refusals.specs.declared.refusal.Refusal.{Refusal}
use Rattle.refusals.specs.declared.refusal.Cause.TheVariants as cause
use Rattle.hive_cells.specs.Bins.{Cells}
use Rattle.hive_tree_model.specs.Lists.{IsIn, Once}
use Rattle.hive_records.specs.Readers.{Read}
use Rattle.hive_records.specs.Values.{value_at}
use Rattle.hive_records.specs.Heads.{hive_damage}
use Rattle.hive_lookup.specs.declared.errors.LookupError.{LookupError}
use Rattle.hive_lookup.specs.declared.errors.LookupError.TheVariants.{NoMemory, NotFound, Damaged}
use Rattle.hive_lookup.specs.declared.errors.PathError.{PathError}
use Rattle.hive_lookup.specs.declared.list_kind.ListKind.{ListKind}
use Rattle.hive_lookup.specs.declared.list_kind.ListKind.TheVariants.{Subkeys, Values}
use Rattle.hive_lookup.specs.Records.{record_at, AreRecords, name_in_record, offsets_named, list_in_node}

-- something isn't read from cells for this reason: its definition refuses it so, or it would look at a cell twice
abbrev pub IsUnreadFor : {A : Type 0} → Read A → Refusal → Type 0
IsUnreadFor read why = (read.says ≡ Err why) ⊎ ((why ≡ hive_damage cause.Shared) × (Once read.own → ⊥))

-- the key at an offset is read, and its list has these offsets
abbrev pub KeyLists : ListKind → Cells → ℕ → List ℕ → Type 0
KeyLists kind cells key listed = (bytes : List ℕ) × (record_at Subkeys cells key ≡ Ok bytes) × ((list_in_node kind bytes cells).says ≡ Ok listed)

-- its node isn't read, or its list
abbrev pub ListIsUnread : ListKind → Cells → ℕ → Refusal → Type 0
ListIsUnread kind cells key why = (record_at Subkeys cells key ≡ Err why) ⊎ ((bytes : List ℕ) × (record_at Subkeys cells key ≡ Ok bytes) × IsUnreadFor (list_in_node kind bytes cells) why)

-- each record that the key lists is read, and just one has the name: that at this offset
abbrev pub ListsOne : ListKind → Cells → ℕ → List ℕ → ℕ → Type 0
ListsOne kind cells key name at = (listed : List ℕ) × KeyLists kind cells key listed × AreRecords kind cells listed × (offsets_named kind cells name listed ≡ at ∷ [])

-- each is read, and none has the name
abbrev pub ListsNone : ListKind → Cells → ℕ → List ℕ → Type 0
ListsNone kind cells key name = (listed : List ℕ) × KeyLists kind cells key listed × AreRecords kind cells listed × (offsets_named kind cells name listed ≡ [])

-- a record that a key lists isn't read, or two have the name, which is told of the key
abbrev pub ListBreaks : ListKind → Cells → ℕ → List ℕ → List ℕ → ℕ → Refusal → Type 0
ListBreaks kind cells key name listed at why =
    (IsIn at listed × (record_at kind cells at ≡ Err why))
    ⊎ ((at ≡ key) × (why ≡ hive_damage cause.BadName) × (1 < length (offsets_named kind cells name listed)))

-- why the record of a name isn't found among those that a key lists, and at which offset that stands
abbrev pub SearchBreaks : ListKind → Cells → ℕ → List ℕ → ℕ → Refusal → Type 0
SearchBreaks kind cells key name at why =
    ((at ≡ key) × ListIsUnread kind cells key why)
    ⊎ ((listed : List ℕ) × KeyLists kind cells key listed × ListBreaks kind cells key name listed at why)

-- the same of a value, or its data aren't read
abbrev pub ValueBreaks : Bool → Cells → ℕ → List ℕ → ℕ → Refusal → Type 0
ValueBreaks split cells key name at why = SearchBreaks Values cells key name at why ⊎ (ListsOne Values cells key name at × IsUnreadFor (value_at split at cells) why)

-- the error tells what is so: nothing has the name, or this stands at that offset. Of memory nothing is said
abbrev pub ErrorTells : Type 0 → (ℕ → Refusal → Type 0) → LookupError → Type 0
ErrorTells absent breaks NoMemory = Unit {0}
ErrorTells absent breaks NotFound = absent
ErrorTells absent breaks (Damaged why at) = breaks at why

-- folded names lead from one key to another, each the only one of its name among the subkeys of the one before it
abbrev pub PathLeads : Cells → ℕ → List (List ℕ) → ℕ → Type 0
PathLeads cells key [] at = key ≡ at
PathLeads cells key (name ∷ names) at = (subkey : ℕ) × ListsOne Subkeys cells key name subkey × PathLeads cells subkey names at

-- the key at an offset is read, and spells its name so
abbrev pub IsSpelled : Cells → ℕ → List ℕ → Type 0
IsSpelled cells at name = (bytes : List ℕ) × (record_at Subkeys cells at ≡ Ok bytes) × (name ≡ name_in_record Subkeys bytes)

-- folded names lead from one key to another as by PathLeads, and the keys on the way spell them so
abbrev pub WayLeads : Cells → ℕ → List (List ℕ) → List (List ℕ) → ℕ → Type 0
WayLeads cells key [] [] at = key ≡ at
WayLeads cells key [] (spelled ∷ names) at = ⊥
WayLeads cells key (name ∷ path) [] at = ⊥
WayLeads cells key (name ∷ path) (spelled ∷ names) at = (subkey : ℕ) × ListsOne Subkeys cells key name subkey × IsSpelled cells subkey spelled × WayLeads cells subkey path names at

-- a key has no subkey of the next name, if there is one
abbrev pub LacksNext : Cells → ℕ → Option (List ℕ) → Type 0
LacksNext cells key None = ⊥
LacksNext cells key (Some name) = ListsNone Subkeys cells key name

-- why the next name leads nowhere; or why the key itself isn't read, if there is none
abbrev pub NextBreaks : Cells → ℕ → Option (List ℕ) → ℕ → Refusal → Type 0
NextBreaks cells key None at why = (at ≡ key) × (record_at Subkeys cells key ≡ Err why)
NextBreaks cells key (Some name) at why = SearchBreaks Subkeys cells key name at why

-- the first names of the path lead to a key, as many as the error says, and there it goes no further
abbrev pub PathEnds : Cells → ℕ → List (List ℕ) → PathError → Type 0
PathEnds cells root names end = (key : ℕ) × PathLeads cells root (take end.depth names) key × ErrorTells (LacksNext cells key (slice_get names end.depth)) (NextBreaks cells key (slice_get names end.depth)) end.error

-- the offset, if there is one
abbrev pub one_or_none : Option ℕ → List ℕ
one_or_none None = []
one_or_none (Some at) = at ∷ []
