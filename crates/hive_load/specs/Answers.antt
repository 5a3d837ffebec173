-- What is answered while keys are loaded, one below the other and one after the other.
use Rattle.std.specs.Prelude.{◌≡◌, ◌⊎◌, ◌≤◌, ◌+◌, ◌*◌, ℕ, zero, suc, Bool, List, ◌∷◌, ◌++◌, length, Result, Ok, Err}
use Rattle.refusals.specs.declared.refusal.Refusal.{Refusal}
use Rattle.refusals.specs.declared.refusal.Refusal.TheVariants as refusal
use Rattle.refusals.specs.declared.refusal.Cause.TheVariants as cause
use Rattle.reg_tree_parts.specs.Rows.{Row}
use Rattle.reg_tree_parts.specs.Nodes.{Entries, root_name}
use Rattle.hive_tree_model.specs.Keys.{KeyParts, KeyReader, Keys, none, key, offsets, lent_cells}
use Rattle.hive_tree_model.specs.Chains.{WayLeadsTo}
use Rattle.hive_tree_model.specs.Loads.{CellMarks, Loaded, Loading, HasFault}
use Rattle.hive_cells.specs.Bins.{Cells}
use Rattle.hive_records.specs.KeyNodes.{keys_in, trail_in}
use Rattle.hive_records.specs.Nodes.{IsNodeOf}
use Rattle.hive_load_parts.specs.CellReads.{set_flags}
use Rattle.hive_load_parts.specs.Nodes.{AreListed}
use Rattle.hive_load_parts.specs.Descriptors.{KeepsDescriptors}

-- keys that lie on at most a number of levels
abbrev pub IsShallow : ℕ → Keys Row → Type 0
IsShallow levels none = Unit {0}
IsShallow zero (key at parts below after) = ⊥
IsShallow (suc levels) (key at parts below after) = IsShallow levels below × IsShallow (suc levels) after

-- a way of a number of steps or more leads from the key at an offset to a key that is read
abbrev pub Reaches : KeyReader Row Refusal → ℕ → ℕ → Type 0
Reaches reads at levels = (way : List ℕ) × (to : ℕ) × (parts : KeyParts Row) × WayLeadsTo reads at way to × (reads to ≡ Ok parts) × (levels ≤ length way)

-- a fault in or below the key at an offset, if cells were marked before
abbrev pub Faults : Bool → Cells → CellMarks → ℕ → Refusal → Type 0
Faults split cells marks at why = HasFault (trail_in split cells) (keys_in split cells) (refusal.HiveDamaged 0 cause.BadName) (refusal.HiveDamaged 0 cause.Shared) marks at why

-- the key at an offset and all below it on fewer levels were read into a node, and descriptors of just their security
-- cells are kept
pub record LoadsKey (split : Bool) (cells : Cells) (old new : CellMarks) (had has : List (ℕ × List ℕ)) (levels at : ℕ) (node : Entries) : Type 0 where
  pub parts : KeyParts Row
  pub below : Keys Row
  pub loaded : Loaded (keys_in split cells) old new at parts below
  pub is_node : IsNodeOf node parts below
  pub named : root_name node ≡ parts.name
  pub shallow : IsShallow levels (key at parts below none)
  pub keeps : KeepsDescriptors had has (parts.lent ++ lent_cells below)

-- what the key at an offset is refused for
abbrev pub RefusesKey : Bool → Cells → CellMarks → ℕ → ℕ → Refusal → Type 0
RefusesKey split cells old levels at why =
    (why ≡ refusal.NoMemory)
    ⊎ (((why ≡ refusal.TooLarge) × Reaches (keys_in split cells) at levels)
    ⊎ Faults split cells old at why)

-- keys that are listed one after another were read into nodes
pub record LoadsKeys (split : Bool) (cells : Cells) (old new : CellMarks) (had has : List (ℕ × List ℕ)) (levels : ℕ) (listed : List ℕ) (nodes : List (List ℕ × Entries)) : Type 0 where
  pub keys : Keys Row
  pub loading : Loading (keys_in split cells) old new keys
  pub are_listed : offsets keys ≡ listed
  pub are_nodes : AreListed nodes keys
  pub shallow : IsShallow levels keys
  pub keeps : KeepsDescriptors had has (lent_cells keys)

-- one of them is refused after those before it
abbrev pub RefusesKeys : Bool → Cells → CellMarks → ℕ → List ℕ → Refusal → Type 0
RefusesKeys split cells old levels listed why =
    (why ≡ refusal.NoMemory)
    ⊎ ((first : Keys Row) × (now : CellMarks) × (at : ℕ) × (rest : List ℕ) × Loading (keys_in split cells) old now first
    × (listed ≡ offsets first ++ at ∷ rest) × RefusesKey split cells now levels at why)

-- at most two looks for each flag that was set, and two more for a refusal
abbrev pub LooksAreBounded : {X : Type 0} → ℕ → ℕ → List Bool → List Bool → Result X Refusal → Type 0
LooksAreBounded before after old new (Ok x) = after + 2 * set_flags old ≤ before + 2 * set_flags new
LooksAreBounded before after old new (Err why) = after + 2 * set_flags old ≤ before + 2 * set_flags new + 2
