-- Which tree hive bins data encode.
use Rattle.std.specs.Prelude.{◌≡◌, ◌⊎◌, ℕ, nat_le, Bool, false, List}
use Rattle.refusals.specs.declared.refusal.Refusal.{Refusal}
use Rattle.refusals.specs.declared.refusal.Refusal.TheVariants as refusal
use Rattle.refusals.specs.declared.refusal.Cause.TheVariants as cause
use Rattle.reg_tree.specs.Maps.{TreeMap}
use Rattle.hive_cells.specs.Tiles.{Tiles}
use Rattle.hive_cells.specs.Bins.{Cells, Shows}
use Rattle.hive_tree_model.specs.Encodings.{CellsEncodeTree}
use Rattle.hive_tree_model.specs.Faults.{LendsOwnCell}
use Rattle.hive_tree_model.specs.Loads.{HasFault}
use Rattle.hive_records.specs.KeyNodes.{keys_in, trail_in, lends_in}

-- from minor version 4 on, big data lie in segments
abbrev pub splits : ℕ → Bool
splits minor = nat_le 4 minor

-- the data encode the tree, from the root's offset on
abbrev pub BinsEncodeTree : List ℕ → ℕ → ℕ → TreeMap → Type 0
BinsEncodeTree bytes root minor tree = Tiles bytes × (cells : Cells) × Shows bytes cells × CellsEncodeTree (keys_in (splits minor) cells) root tree

-- a rule of records or of keys is broken in cells, and the refusal names it
abbrev pub FaultIn : Bool → Cells → ℕ → Refusal → Type 0
FaultIn split cells root r =
    HasFault (trail_in split cells) (keys_in split cells) (refusal.HiveDamaged 0 cause.BadName) (refusal.HiveDamaged 0 cause.Shared) (λ cell. false) root r
    ⊎ ((r ≡ refusal.HiveDamaged 0 cause.Shared) × LendsOwnCell (trail_in split cells) (lends_in split cells) (keys_in split cells) root)

-- a rule is broken in the data, and the refusal names it. (A key deeper than the limit, or a tree over the weight, is
-- no such fault. Such data encode a tree, but none within the limits.)
abbrev pub FaultFor : List ℕ → ℕ → ℕ → Refusal → Type 0
FaultFor bytes root minor r = (cells : Cells) × Shows bytes cells × FaultIn (splits minor) cells root r
