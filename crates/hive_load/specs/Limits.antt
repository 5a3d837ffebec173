-- Trees within the limits of the project, trees of any weight, and why data are refused as either.
use Rattle.std.specs.Prelude.{◌≡◌, ◌⊎◌, ◌<◌, ◌≤◌, ℕ, List, length, Some}
use Rattle.refusals.specs.declared.refusal.Refusal.{Refusal}
use Rattle.refusals.specs.declared.refusal.Refusal.TheVariants as refusal
use Rattle.refusals.specs.declared.limits.TheConstants.{MOST_PATH_NAMES, MOST_WEIGHT}
use Rattle.reg_tree_parts.specs.Rows.{Row}
use Rattle.reg_tree.specs.Maps.{TreeMap, row, weight}
use Rattle.hive_cells.specs.Tiles.{IsAllocatedCell, DataRefused}
use Rattle.hive_cells.specs.Bins.{Cells, Shows}
use Rattle.hive_tree_model.specs.Lists.{IsIn}
use Rattle.hive_tree_model.specs.Faults.{HasDeeperKey}
use Rattle.hive_records.specs.KeyNodes.{keys_in}
use Rattle.hive_records.specs.Images.{splits, BinsEncodeTree, FaultFor}

-- no path in a tree has more names than one may have
abbrev pub IsShallowTree : TreeMap → Type 0
IsShallowTree tree = (path : List (List ℕ)) (key : Row) → row tree path ≡ Some key → length path ≤ MOST_PATH_NAMES

-- a tree of at most the greatest weight, in which no path has more names than one may have
pub record TreeIsInLimits (tree : TreeMap) : Type 0 where
  pub light : weight tree ≤ MOST_WEIGHT
  pub shallow : IsShallowTree tree

-- the data encode the tree, from the root's offset on, and it is within the limits
abbrev pub BinsEncodeTreeInLimits : List ℕ → ℕ → ℕ → TreeMap → Type 0
BinsEncodeTreeInLimits bytes root minor tree = BinsEncodeTree bytes root minor tree × TreeIsInLimits tree

-- the data encode the tree, from the root's offset on, and no path in it is too long, whatever it weighs
abbrev pub BinsEncodeShallowTree : List ℕ → ℕ → ℕ → TreeMap → Type 0
BinsEncodeShallowTree bytes root minor tree = BinsEncodeTree bytes root minor tree × IsShallowTree tree

-- the data encode a tree that weighs too much; a key that can be read lies too deep
abbrev pub IsTooHeavy : List ℕ → ℕ → ℕ → Type 0
IsTooHeavy bytes root minor = (tree : TreeMap) × BinsEncodeTree bytes root minor tree × (MOST_WEIGHT < weight tree)

abbrev pub IsTooDeep : List ℕ → ℕ → ℕ → Type 0
IsTooDeep bytes root minor = (cells : Cells) × Shows bytes cells × HasDeeperKey (keys_in (splits minor) cells) root MOST_PATH_NAMES

-- why data are refused: memory was not given, a limit is passed, or a fault is in them
abbrev pub LoadRefused : List ℕ → ℕ → ℕ → Refusal → Type 0
LoadRefused bytes root minor why =
    (why ≡ refusal.NoMemory)
    ⊎ (((why ≡ refusal.TooLarge) × (IsTooHeavy bytes root minor ⊎ IsTooDeep bytes root minor))
    ⊎ FaultFor bytes root minor why)

-- why data are refused, whatever a tree weighs: memory was not given, a key lies too deep, or a fault is in them
abbrev pub ShallowLoadRefused : List ℕ → ℕ → ℕ → Refusal → Type 0
ShallowLoadRefused bytes root minor why =
    (why ≡ refusal.NoMemory)
    ⊎ (((why ≡ refusal.TooLarge) × IsTooDeep bytes root minor)
    ⊎ FaultFor bytes root minor why)

-- the same of data whose bins and cells needn't tile
abbrev pub BinsRefused : List ℕ → ℕ → ℕ → Refusal → Type 0
BinsRefused bytes root minor why = DataRefused bytes why ⊎ LoadRefused bytes root minor why

abbrev pub ShallowBinsRefused : List ℕ → ℕ → ℕ → Refusal → Type 0
ShallowBinsRefused bytes root minor why = DataRefused bytes why ⊎ ShallowLoadRefused bytes root minor why

-- every allocated cell of the data is in the list
abbrev pub AreAllCells : List ℕ → List ℕ → Type 0
AreAllCells bytes cells = (at : ℕ) → IsAllocatedCell bytes at → IsIn at cells
