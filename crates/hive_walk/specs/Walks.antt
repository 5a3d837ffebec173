-- What is known of keys that were judged, and what a walk hands to its sink.
use Rattle.std.specs.Prelude.{◌≡◌, ◌⊎◌, ◌≤◌, ◌+◌, ℕ, Bool, true, false, List, [], ◌++◌, length, map, if◌then◌else◌, Some}
use Rattle.std.specs.FinMap as finite
use Rattle.refusals.specs.declared.limits.TheConstants.{MOST_PATH_NAMES}
use Rattle.reg_names.specs.Names.{folded}
use Rattle.reg_tree_parts.specs.Rows.{Row}
use Rattle.reg_tree_parts.specs.Nodes.{Entries}
use Rattle.reg_tree.specs.Maps.{TreeMap, row}
use Rattle.key_walk.specs.KeyRows.{NamedRow}
use Rattle.hive_cells.specs.Bins.{Cells, Shows}
use Rattle.hive_tree_model.specs.Lists.{IsIn, Once}
use Rattle.hive_tree_model.specs.Keys.{KeyParts, Keys, none, key, own_cells, lent_cells}
use Rattle.hive_tree_model.specs.Trees.{same, tree_of}
use Rattle.hive_tree_model.specs.Loads.{CellMarks}
use Rattle.hive_tree_model.specs.Encodings.{CellsMatchKeys, Named, Whole, LentApart}
use Rattle.hive_records.specs.KeyNodes.{keys_in}
use Rattle.hive_records.specs.Images.{splits, BinsEncodeTree}
use Rattle.hive_load.specs.Answers.{IsShallow}
use Rattle.hive_walk.specs.declared.errors.ImageError.TheVariants as image_error
use Rattle.hive_walk.specs.declared.errors.WalkError.{WalkError}
use Rattle.hive_walk.specs.declared.errors.WalkError.TheVariants as walk_error
use Rattle.hive_walk.specs.declared.siblings.Sibling.{Sibling}
use Rattle.hive_walk.specs.Judgements.{ImageRefused}

-- keys beside one another are what the cells say, each with a name of its own, on at most a number of levels. No cell of
-- one key alone is reached twice, or belongs to other keys too
pub record KeysAreSound (split : Bool) (cells : Cells) (levels : ℕ) (keys : Keys Row) : Type 0 where
  pub fits : CellsMatchKeys (keys_in split cells) keys
  pub named : Named keys
  pub once : Once (own_cells keys)
  pub apart : (cell : ℕ) → IsIn cell (lent_cells keys) → IsIn cell (own_cells keys) → ⊥
  pub shallow : IsShallow levels keys

-- so is the key at an offset, with the keys below it
pub record KeyIsSound (split : Bool) (cells : Cells) (levels at : ℕ) (parts : KeyParts Row) (below : Keys Row) : Type 0 where
  pub whole : Whole (keys_in split cells) at parts below
  pub apart : LentApart parts below
  pub shallow : IsShallow levels below

-- the cells say a key at an offset, with keys below it on at most a number of levels
abbrev pub PartIsSound : Bool → Cells → ℕ → ℕ → Type 0
PartIsSound split cells levels at = (parts : KeyParts Row) × (below : Keys Row) × KeyIsSound split cells levels at parts below

-- an image's keys from the root at an offset on are what its cells say, and it encodes a tree of these keys
abbrev pub IsSoundImage : List ℕ → ℕ → ℕ → Type 0
IsSoundImage bytes root minor = (cells : Cells) × Shows bytes cells × (parts : KeyParts Row) × (below : Keys Row) × KeyIsSound (splits minor) cells MOST_PATH_NAMES root parts below × BinsEncodeTree bytes root minor (tree_of parts below)

-- no cell of a list is marked
abbrev pub AreUnmarked : CellMarks → List ℕ → Type 0
AreUnmarked marks cells = (cell : ℕ) → IsIn cell cells → marks cell ≡ false

-- no other cells than these were marked
abbrev pub MarksOnly : CellMarks → CellMarks → List ℕ → Type 0
MarksOnly old new cells = (cell : ℕ) → new cell ≡ true → (old cell ≡ true) ⊎ IsIn cell cells

-- the entries of a key and of all keys below it, in the order of paths
abbrev pub entries_of_key : KeyParts Row → Keys Row → Entries
entries_of_key parts below = finite.entries (tree_of parts below)

-- the entries of the key with a folded name, of keys beside one another
abbrev pub entries_named : Keys Row → List ℕ → Entries
entries_named none name = []
entries_named (key at parts below after) name = if same name parts.name then entries_of_key parts below else entries_named after name

-- the cells of one key alone, of the key with a folded name and all keys below it
abbrev pub cells_named : Keys Row → List ℕ → List ℕ
cells_named none name = []
cells_named (key at parts below after) name = if same name parts.name then parts.own ++ own_cells below else cells_named after name

-- the entries of some of the keys, each under its folded name
abbrev pub nodes_of_siblings : Keys Row → List Sibling → List (List ℕ × Entries)
nodes_of_siblings keys siblings = map (λ (sibling : Sibling). (folded sibling.name, entries_named keys (folded sibling.name))) siblings

-- no key of the tree lies deeper than a path may have names
abbrev pub HasShortPaths : TreeMap → Type 0
HasShortPaths tree = (path : List (List ℕ)) (key : Row) → row tree path ≡ Some key → length path ≤ MOST_PATH_NAMES

-- the same of the tree of a part, if the names of a path lead to its first key
abbrev pub HasShortPathsBelow : List (List ℕ) → TreeMap → Type 0
HasShortPathsBelow names tree = (path : List (List ℕ)) (key : Row) → row tree path ≡ Some key → length names + length path ≤ MOST_PATH_NAMES

-- keys of a part as keys of the hive: the names of a path lead to its first
abbrev pub rows_under : List (List ℕ) → List NamedRow → List NamedRow
rows_under names rows = map (λ row. (names ++ row.0, row.1)) rows

-- a walk ended for want of memory, or since its sink refused a key
abbrev pub IsNoFault : {E : Type 0} → WalkError E → Type 0
IsNoFault (walk_error.Image image_error.NoMemory) = Unit {0}
IsNoFault (walk_error.Image (image_error.Fault fault)) = ⊥
IsNoFault (walk_error.Sink refusal) = Unit {0}

-- why a walk ended early: the image gives no keys, or the sink refused one of a tree that the image encodes
abbrev pub WalkRefused : {E : Type 0} → List ℕ → ℕ → ℕ → WalkError E → Type 0
WalkRefused bytes root minor (walk_error.Image error) = ImageRefused bytes root minor error
WalkRefused bytes root minor (walk_error.Sink refusal) = (tree : TreeMap) × BinsEncodeTree bytes root minor tree

-- a fault of the image was found before the sink took a key
abbrev pub LeavesSink : {S E : Type 0} → S → S → WalkError E → Type 0
LeavesSink old new (walk_error.Image image_error.NoMemory) = Unit {0}
LeavesSink old new (walk_error.Image (image_error.Fault fault)) = new ≡ old
LeavesSink old new (walk_error.Sink refusal) = Unit {0}
