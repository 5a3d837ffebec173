-- What is answered while the keys of an image are judged.
use Rattle.std.specs.Prelude.{◌≡◌, ◌≢◌, ◌⊎◌, ◌<◌, ◌-◌, ℕ, Bool, List, [], ◌∷◌, ◌++◌, length, Ok, Err}
use Rattle.refusals.specs.declared.refusal.Refusal.{Refusal}
use Rattle.refusals.specs.declared.refusal.Refusal.TheVariants as refusals
use Rattle.refusals.specs.declared.refusal.Cause.TheVariants as causes
use Rattle.refusals.specs.declared.limits.TheConstants.{MOST_PATH_NAMES}
use Rattle.reg_names.specs.Names.{folded}
use Rattle.reg_tree_parts.specs.Rows.{Row}
use Rattle.reg_tree_parts.specs.Nodes.{Entries, root_name}
use Rattle.hive_cells.specs.Bins.{Cells, Shows}
use Rattle.hive_tree_model.specs.Lists.{IsIn}
use Rattle.hive_tree_model.specs.Keys.{KeyParts, KeyReader, Keys, offsets, names}
use Rattle.hive_tree_model.specs.Encodings.{CellsMatchKeys}
use Rattle.hive_tree_model.specs.Loads.{CellMarks}
use Rattle.hive_tree_model.specs.Faults.{HasDeeperKey}
use Rattle.hive_records.specs.KeyNodes.{key_at, keys_in, lends_in}
use Rattle.hive_records.specs.Images.{splits, FaultIn}
use Rattle.hive_records.specs.Follows.{Follows}
use Rattle.hive_load_parts.specs.Descriptors.{KeepsDescriptors}
use Rattle.hive_load.specs.Answers.{LoadsKey, RefusesKey, LoadsKeys, RefusesKeys, Faults}
use Rattle.hive_load.specs.Nodes.{names_of}
use Rattle.hive_walk.specs.declared.errors.Fault.{Fault}
use Rattle.hive_walk.specs.declared.errors.ImageError.{ImageError}
use Rattle.hive_walk.specs.declared.errors.ImageError.TheVariants as image_error
use Rattle.hive_walk.specs.declared.siblings.Sibling.{Sibling}
use Rattle.hive_walk.specs.Siblings.{sibling_names, LacksNames}

-- the key at an offset is read, and lists the subkey
abbrev pub ListsSubkey : KeyReader Row Refusal → ℕ → ℕ → Type 0
ListsSubkey reads at subkey = (parts : KeyParts Row) × (reads at ≡ Ok parts) × IsIn subkey parts.subkey_list

-- names as spelled lead from one key on to another, or to the key that lists it
abbrev pub NamesLeadTo : KeyReader Row Refusal → ℕ → List (List ℕ) → ℕ → Type 0
NamesLeadTo reads at [] to = (at ≡ to) ⊎ ListsSubkey reads at to
NamesLeadTo reads at (name ∷ names) to = (subkey : ℕ) × (its : KeyParts Row) × ListsSubkey reads at subkey × (reads subkey ≡ Ok its) × (its.row.name ≡ name) × NamesLeadTo reads subkey names to

-- the same beginning with the name of the key itself, if it is read
abbrev pub NamesReach : KeyReader Row Refusal → ℕ → List (List ℕ) → ℕ → Type 0
NamesReach reads at [] to = at ≡ to
NamesReach reads at (name ∷ names) to = (its : KeyParts Row) × (reads at ≡ Ok its) × (its.row.name ≡ name) × NamesLeadTo reads at names to

-- the subkeys of a key can be read, and their names are not all there, or not apart
abbrev pub SubkeysLackNames : KeyReader Row Refusal → ℕ → Type 0
SubkeysLackNames reads at = (parts : KeyParts Row) × (subkeys : Keys Row) × (reads at ≡ Ok parts) × (offsets subkeys ≡ parts.subkey_list) × CellsMatchKeys reads subkeys × LacksNames (names subkeys)

-- a refusal is true of the key at an offset, to which names lead: it can't be read for this reason, it lies too deep, or
-- its subkeys lack names. Only of a cell that was met again it isn't said which of the keys that share it this is
abbrev pub IsTrueOfKey : KeyReader Row Refusal → List (List ℕ) → ℕ → Refusal → Type 0
IsTrueOfKey reads path at why =
    (reads at ≡ Err why)
    ⊎ (((why ≡ refusals.TooLarge) × (MOST_PATH_NAMES < length path))
    ⊎ (((why ≡ refusals.HiveDamaged 0 causes.BadName) × SubkeysLackNames reads at)
    ⊎ (why ≡ refusals.HiveDamaged 0 causes.Shared)))

-- the fault is true of the key that it names
abbrev pub IsTrueWhereMet : KeyReader Row Refusal → Fault → Type 0
IsTrueWhereMet reads fault = IsTrueOfKey reads fault.path.items fault.at fault.refusal

-- a fault stands in a key or below it: a key lies on more levels below it than a number, or a rule of records or of keys
-- is broken
abbrev pub StandsWithin : ℕ → Bool → Cells → ℕ → Refusal → Type 0
StandsWithin levels split cells at why = ((why ≡ refusals.TooLarge) × HasDeeperKey (keys_in split cells) at levels) ⊎ FaultIn split cells at why

-- a fault stands in the image
abbrev pub StandsIn : Bool → Cells → ℕ → Refusal → Type 0
StandsIn split cells root why = StandsWithin MOST_PATH_NAMES split cells root why

-- why an image gives no tree within the limit of depth: memory was not given, or a fault stands in it. The fault names
-- the key at which it was met, and the names that lead there
abbrev pub ImageRefused : List ℕ → ℕ → ℕ → ImageError → Type 0
ImageRefused bytes root minor image_error.NoMemory = Unit {0}
ImageRefused bytes root minor (image_error.Fault fault) = (cells : Cells) × Shows bytes cells × StandsIn (splits minor) cells root fault.refusal × NamesLeadTo (keys_in (splits minor) cells) root fault.path.items fault.at × IsTrueWhereMet (keys_in (splits minor) cells) fault

-- the same of a part: of the key at an offset and all below it, if the names of a path lead to it. Within the limit its
-- keys lie on as many levels as the path has names left
abbrev pub PartRefused : List ℕ → ℕ → ℕ → List (List ℕ) → ImageError → Type 0
PartRefused bytes at minor path image_error.NoMemory = Unit {0}
PartRefused bytes at minor path (image_error.Fault fault) = (cells : Cells) × Shows bytes cells × StandsWithin (MOST_PATH_NAMES - length path) (splits minor) cells at fault.refusal
    × (names : List (List ℕ)) × (fault.path.items ≡ path ++ names) × NamesLeadTo (keys_in (splits minor) cells) at names fault.at × IsTrueWhereMet (keys_in (splits minor) cells) fault

-- ---- one key, and the keys below it

-- they were read, under this name, and their cells marked
abbrev pub KeyIsJudged : Bool → Cells → CellMarks → CellMarks → List (ℕ × List ℕ) → List (ℕ × List ℕ) → ℕ → ℕ → List ℕ → Type 0
KeyIsJudged split cells old new had has levels at name = (node : Entries) × LoadsKey split cells old new had has levels at node × (root_name node ≡ folded name)

-- a fault stands in them, and these names lead from the first on to the key where it was met
abbrev pub KeyIsRefused : Bool → Cells → CellMarks → ℕ → ℕ → List (List ℕ) → ImageError → Type 0
KeyIsRefused split cells old levels at above image_error.NoMemory = Unit {0}
KeyIsRefused split cells old levels at above (image_error.Fault fault) = (fault.refusal ≢ refusals.NoMemory) × RefusesKey split cells old levels at fault.refusal
    × (names : List (List ℕ)) × (fault.path.items ≡ above ++ names) × NamesReach (keys_in split cells) at names fault.at × IsTrueWhereMet (keys_in split cells) fault

-- the same, if names lead to the first itself
abbrev pub BelowIsRefused : Bool → Cells → CellMarks → ℕ → ℕ → List (List ℕ) → ImageError → Type 0
BelowIsRefused split cells old levels at path image_error.NoMemory = Unit {0}
BelowIsRefused split cells old levels at path (image_error.Fault fault) = (fault.refusal ≢ refusals.NoMemory) × RefusesKey split cells old levels at fault.refusal
    × (names : List (List ℕ)) × (fault.path.items ≡ path ++ names) × NamesLeadTo (keys_in split cells) at names fault.at × IsTrueWhereMet (keys_in split cells) fault

-- ---- keys one after another

-- they were read, under the names of these siblings
abbrev pub KeysAreJudged : Bool → Cells → CellMarks → CellMarks → List (ℕ × List ℕ) → List (ℕ × List ℕ) → ℕ → List ℕ → List Sibling → Type 0
KeysAreJudged split cells old new had has levels listed siblings = (nodes : List (List ℕ × Entries)) × LoadsKeys split cells old new had has levels listed nodes × (names_of nodes ≡ sibling_names siblings)

-- one of them is refused after those before it
abbrev pub KeysAreRefused : Bool → Cells → CellMarks → ℕ → List ℕ → List (List ℕ) → ImageError → Type 0
KeysAreRefused split cells old levels listed above image_error.NoMemory = Unit {0}
KeysAreRefused split cells old levels listed above (image_error.Fault fault) = (fault.refusal ≢ refusals.NoMemory) × RefusesKeys split cells old levels listed fault.refusal
    × (names : List (List ℕ)) × (fault.path.items ≡ above ++ names) × (subkey : ℕ) × IsIn subkey listed × NamesReach (keys_in split cells) subkey names fault.at × IsTrueWhereMet (keys_in split cells) fault

-- ---- single steps

-- the key at an offset was read, with this name and these subkeys
abbrev pub KeyIsRead : Bool → Cells → CellMarks → CellMarks → List (ℕ × List ℕ) → List (ℕ × List ℕ) → ℕ → List ℕ → List ℕ → Type 0
KeyIsRead split cells old new had has at name subkey_list = (row : Row) × (row.name ≡ name) × Follows (key_at split at) cells old new (Ok (row, subkey_list)) × KeepsDescriptors had has (lends_in split cells at)

-- it can't be read, and these names lead to the key that lists it
abbrev pub KeyIsUnread : Bool → Cells → CellMarks → ℕ → List (List ℕ) → ImageError → Type 0
KeyIsUnread split cells old at above image_error.NoMemory = Unit {0}
KeyIsUnread split cells old at above (image_error.Fault fault) = (fault.refusal ≢ refusals.NoMemory) × Faults split cells old at fault.refusal × (fault.at ≡ at) × (fault.path.items ≡ above) × IsTrueWhereMet (keys_in split cells) fault

-- why a key and those below it, to which names lead, are refused if they may lie on a number of levels below it
abbrev pub PartIsRefused : Bool → Cells → ℕ → List (List ℕ) → ℕ → ImageError → Type 0
PartIsRefused split cells levels path at image_error.NoMemory = Unit {0}
PartIsRefused split cells levels path at (image_error.Fault fault) = StandsWithin levels split cells at fault.refusal
    × (names : List (List ℕ)) × (fault.path.items ≡ path ++ names) × NamesLeadTo (keys_in split cells) at names fault.at × IsTrueWhereMet (keys_in split cells) fault
