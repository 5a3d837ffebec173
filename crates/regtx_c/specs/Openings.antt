-- What opening a hive answers and leaves open.
use Rattle.std.specs.Prelude.{◌≡◌, ◌⊎◌, ℕ, List, [], Option, Some, codes}
use Rattle.std.specs.FinMap as finite
use Rattle.refusals.specs.declared.refusal.Refusal.{Refusal}
use Rattle.reg_tree.specs.Maps.{TreeMap}
use Rattle.reg_tree_parts.specs.Rows.{Row}
use Rattle.reg_tree.specs.Fresh.{fresh_row}
use Rattle.hive_file_reader.specs.Hives.{FileHoldsShallowTree}
use Rattle.hive_file_reader.specs.Readings.{ShallowFileRefusedAs}
use Rattle.regtx_c.specs.declared.codes.TheConstants.{OK, NO_MEMORY}
use Rattle.regtx_c.specs.Codes.{refusal_code}

-- the tree that a file holds is open, whatever it weighs
abbrev pub HoldsFile : List ℕ → Option TreeMap → Type 0
HoldsFile file open_now = (tree : TreeMap) × (open_now ≡ Some tree) × FileHoldsShallowTree file tree

-- why a file is refused as hive 0 has this number
abbrev pub IsRefusedBy : List ℕ → ℕ → Type 0
IsRefusedBy file code = (why : Refusal) × ShallowFileRefusedAs 0 file why × (code ≡ refusal_code why)

-- a file is opened: at OK the tree that it holds is open, at any other number the file is refused for what that says,
-- and what was open stays
abbrev pub IsOpened : List ℕ → Option TreeMap → Option TreeMap → ℕ → Type 0
IsOpened file before after code = ((code ≡ OK) × HoldsFile file after) ⊎ (IsRefusedBy file code × (after ≡ before))

-- the root of a new hive: that of a store's new hive, and it has a name
abbrev pub new_root : Row
new_root = record fresh_row { name = codes "ROOT" }

-- a tree with this root alone
abbrev pub new_tree : TreeMap
new_tree = finite.insert finite.empty [] new_root

-- a new hive is opened, or memory was not given and what was open stays
abbrev pub IsMade : Option TreeMap → Option TreeMap → ℕ → Type 0
IsMade before after code = ((code ≡ OK) × (after ≡ Some new_tree)) ⊎ ((code ≡ NO_MEMORY) × (after ≡ before))
