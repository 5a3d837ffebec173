-- Changes of cells after which a key lists other subkeys, and the new keys of a path.
use Rattle.std.specs.Prelude.{◌≡◌, ◌≢◌, ◌⊎◌, ℕ, Bool, List, [], ◌∷◌, ◌++◌, Some, None, IsSome}
use Rattle.reg_tree_parts.specs.Rows.{Row}
use Rattle.reg_tree_parts.specs.NewRows.{new_row}
use Rattle.hive_tree_model.specs.Lists.{IsIn, Once}
use Rattle.hive_tree_model.specs.Keys.{KeyParts, Keys, none, key, own_cells, lent_cells}
use Rattle.hive_tree_model.specs.Encodings.{Whole}
use Rattle.hive_cells.specs.Tiles.{u32_at}
use Rattle.hive_cells.specs.Bins.{Cells}
use Rattle.hive_records.specs.Numbers.{u64_at}
use Rattle.hive_records.specs.Lists.{subkeys_at}
use Rattle.hive_records.specs.KeyNodes.{keys_in, trail_in}
use Rattle.hive_records.specs.Fields.{Gives}
use Rattle.hive_edit_laws.specs.RecordEdits.{NodeListsChange}

-- a list has one element more than another
pub record OneMore (x : ℕ) (fewer more : List ℕ) : Type 0 where
  pub first : List ℕ
  pub rest : List ℕ
  pub fewer_is : fewer ≡ first ++ rest
  pub more_is : more ≡ first ++ x ∷ rest

-- the cells of the lists that a key node names: its list of subkeys, or its list of lists and those lists
abbrev pub subkey_cells : Cells → List ℕ → List ℕ
subkey_cells cells node = (subkeys_at (u32_at node 20) (u32_at node 28) cells).own

-- Cells are changed so that a key lists other subkeys, and has a new time. Its values stay.
--
-- `takes`: a cell of the new lists was a cell of the old ones, or no cell.
-- `stays`: a cell that was there stays if it is neither the node nor a cell of the old lists nor given up.
pub record SubkeysChange (before after : Cells) (at : ℕ) (subkeys : List ℕ) (moment : ℕ) (given_up : List ℕ) : Type 0 where
  pub old_node : List ℕ
  pub old_is : before at ≡ Some old_node
  pub new_node : List ℕ
  pub new_is : after at ≡ Some new_node
  pub fields : NodeListsChange old_node new_node
  pub time_is : u64_at new_node 4 ≡ moment
  pub value_count : u32_at new_node 36 ≡ u32_at old_node 36
  pub value_list : u32_at new_node 40 ≡ u32_at old_node 40
  pub own : List ℕ
  pub reads : Gives (subkeys_at (u32_at new_node 20) (u32_at new_node 28)) after own [] subkeys
  pub once : Once own
  pub takes : (cell : ℕ) → IsIn cell own → IsIn cell (subkey_cells before old_node) ⊎ (before cell ≡ None)
  pub stays : (cell : ℕ) → IsSome (before cell) → cell ≢ at → (IsIn cell (subkey_cells before old_node) → ⊥) → (IsIn cell given_up → ⊥) → after cell ≡ before cell

-- a key and the keys below it are the new keys of these names, each below the one before it, of a descriptor and a time
abbrev pub AreNewKeys : List ℕ → List (List ℕ) → List ℕ → ℕ → KeyParts Row → Keys Row → Type 0
AreNewKeys name [] descriptor moment parts below = (parts.row ≡ new_row name descriptor moment) × (below ≡ none)
AreNewKeys name (next ∷ further) descriptor moment parts below = (parts.row ≡ new_row name descriptor moment) × (at : ℕ) × (its : KeyParts Row) × (sub : Keys Row) × (below ≡ key at its sub none) × AreNewKeys next further descriptor moment its sub

-- Cells are changed so that a key lists one subkey more. That one and all below it are in cells that were not there.
--
-- `apart`: they are none of the cells of the key's lists.
-- `lends`: the security cells that they name are lent to the key too.
pub record AddsSubkey (split : Bool) (before after : Cells) (home at : ℕ) (olds lent : List ℕ) (parts : KeyParts Row) (sub : Keys Row) (moment : ℕ) : Type 0 where
  pub subkeys : List ℕ
  pub change : SubkeysChange before after home subkeys moment []
  pub more : OneMore at olds subkeys
  pub whole : Whole (keys_in split after) at parts sub
  pub fresh : (cell : ℕ) → IsIn cell (parts.own ++ own_cells sub) → before cell ≡ None
  pub apart : (cell : ℕ) → IsIn cell change.own → IsIn cell (parts.own ++ own_cells sub) → ⊥
  pub lends : (cell : ℕ) → IsIn cell (parts.lent ++ lent_cells sub) → IsIn cell lent

-- Cells are changed so that a key lists one subkey less, which has no subkeys. All cells that belong to that one may have
-- been freed.
pub record DropsSubkey (split : Bool) (before after : Cells) (home at : ℕ) (olds : List ℕ) (moment : ℕ) : Type 0 where
  pub subkeys : List ℕ
  pub change : SubkeysChange before after home subkeys moment (trail_in split before at)
  pub more : OneMore at subkeys olds
