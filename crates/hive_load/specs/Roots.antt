-- What is answered for the root.
use Rattle.std.specs.Prelude.{◌≡◌, ◌⊎◌, ℕ, Bool}
use Rattle.refusals.specs.declared.refusal.Refusal.{Refusal}
use Rattle.refusals.specs.declared.refusal.Refusal.TheVariants as refusal
use Rattle.refusals.specs.declared.limits.TheConstants.{MOST_PATH_NAMES}
use Rattle.reg_tree_parts.specs.Rows.{Row}
use Rattle.reg_tree_parts.specs.Nodes.{Entries}
use Rattle.hive_cells.specs.Bins.{Cells}
use Rattle.hive_tree_model.specs.Keys.{KeyParts, Keys}
use Rattle.hive_tree_model.specs.Encodings.{Whole, LentApart}
use Rattle.hive_tree_model.specs.Faults.{HasDeeperKey}
use Rattle.hive_records.specs.KeyNodes.{keys_in}
use Rattle.hive_records.specs.Nodes.{IsNodeOf}
use Rattle.hive_records.specs.Images.{FaultIn}
use Rattle.hive_load.specs.Answers.{IsShallow}

-- the cells say the root and all below it, no deeper than paths may be, and the node has their rows
pub record LoadsRoot (split : Bool) (cells : Cells) (root : ℕ) (node : Entries) : Type 0 where
  pub parts : KeyParts Row
  pub below : Keys Row
  pub whole : Whole (keys_in split cells) root parts below
  pub apart : LentApart parts below
  pub is_node : IsNodeOf node parts below
  pub shallow : IsShallow MOST_PATH_NAMES below

-- why they don't
abbrev pub RefusesRoot : Bool → Cells → ℕ → Refusal → Type 0
RefusesRoot split cells root why =
    (why ≡ refusal.NoMemory)
    ⊎ (((why ≡ refusal.TooLarge) × HasDeeperKey (keys_in split cells) root MOST_PATH_NAMES)
    ⊎ FaultIn split cells root why)
