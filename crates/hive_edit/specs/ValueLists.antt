-- A key's list of values, as its node says, and lists with one value less or more.
use Rattle.std.specs.Prelude.{◌≡◌, ◌≢◌, ◌⊎◌, ◌<◌, ◌≤◌, ◌*◌, ℕ, suc, List, length, slice_index, None, Some, IsSome}
use Rattle.hive_tree_model.specs.Lists.{IsIn}
use Rattle.hive_cells.specs.Tiles.{u32_at, cell_data}
use Rattle.hive_cells.specs.Bins.{Cells, Shows}
use Rattle.hive_records.specs.Numbers.{u64_at, words_from}
use Rattle.hive_savepoint.specs.Puts.{HasData}
use Rattle.hive_edit_laws.specs.Found.{value_count, value_list}
use Rattle.hive_edit_laws.specs.RecordEdits.{NodeListsChange}
use Rattle.hive_edit_laws.specs.Shifts.{with_at, without_at, ShiftsIn}
use Rattle.hive_edit_laws.specs.ValueEdits.{list_cells}
use Rattle.hive_edit.specs.declared.node_edit.ValueList.{ValueList}

-- the list of the key whose node is at an offset: its cell is there, if there are values, and is not the node's
pub record IsListOf (bytes : List ℕ) (key : ℕ) (list : ValueList) : Type 0 where
  pub node : HasData bytes key 76
  pub count : list.count ≡ value_count bytes key
  pub at : list.at ≡ value_list bytes key
  pub full : 4 * list.count ≤ list.room
  pub there : list.count ≢ 0 → HasData bytes list.at list.room
  pub apart : list.at ≢ key

-- a key node has another count of values, another list of them, and another time; its subkeys stay
pub record ValuesArePut (count list moment : ℕ) (old now : List ℕ) : Type 0 where
  pub fields : NodeListsChange old now
  pub time_is : u64_at now 4 ≡ moment
  pub subkey_count : u32_at now 20 ≡ u32_at old 20
  pub subkeys : u32_at now 28 ≡ u32_at old 28
  pub count_is : u32_at now 36 ≡ count
  pub list_is : u32_at now 40 ≡ list

-- Cells are changed so that a key's list lacks what was at an index. Only the node and the list differ. The list may
-- have been freed if nothing is left in it.
pub record ListLess (before after : Cells) (key : ℕ) (node : List ℕ) (index moment : ℕ) : Type 0 where
  pub count : ℕ
  pub list : ℕ
  pub new_node : List ℕ
  pub new_is : after key ≡ Some new_node
  pub put : ValuesArePut count list moment node new_node
  pub count_was : u32_at node 36 ≡ suc count
  pub old_list : List ℕ
  pub old_list_is : before (u32_at node 40) ≡ Some old_list
  pub new_list : List ℕ
  pub new_list_is : count ≢ 0 → after list ≡ Some new_list
  pub long : count ≢ 0 → 4 * count ≤ length new_list
  pub listed : words_from new_list 0 4 count ≡ without_at index (words_from old_list 0 4 (suc count))
  pub list_same : count ≢ 0 → list ≡ u32_at node 40
  pub stays : (cell : ℕ) → cell ≢ key → cell ≢ u32_at node 40 → after cell ≡ before cell

-- the same of two images
abbrev pub TakesFromList : List ℕ → List ℕ → ℕ → ℕ → ℕ → Type 0
TakesFromList old_bytes new_bytes key index moment = (before : Cells) → Shows old_bytes before → (after : Cells) × Shows new_bytes after × ListLess before after key (cell_data old_bytes key) index moment

-- A cell begins with a list's offsets: the list's own, or one that was none. All cells that were there stay.
pub record RoomIsGiven (before after : Cells) (list : ValueList) (words : List ℕ) (at : ℕ) : Type 0 where
  pub its : List ℕ
  pub here : after at ≡ Some its
  pub same : (i : ℕ) → i < 4 * list.count → slice_index its i ≡ slice_index words i
  pub takes : ((list.count ≢ 0) × (at ≡ list.at)) ⊎ (before at ≡ None)
  pub stays : (cell : ℕ) → IsSome (before cell) → after cell ≡ before cell

-- the same of two images
abbrev pub GivesRoom : List ℕ → List ℕ → ValueList → ℕ → Type 0
GivesRoom old_bytes new_bytes list at = (before : Cells) → Shows old_bytes before → (after : Cells) × Shows new_bytes after × RoomIsGiven before after list (cell_data old_bytes list.at) at

-- an offset is put into a list's data, at an index of so many
abbrev pub TakesWord : ℕ → ℕ → ℕ → List ℕ → List ℕ → Type 0
TakesWord count index word old now = ShiftsIn old now 0 4 count index word × (length now ≡ length old)

-- of two images' cells only a list's differs, if there is one and it is elsewhere now
abbrev pub FreesList : List ℕ → List ℕ → ValueList → ℕ → Type 0
FreesList old_bytes new_bytes list at = (before : Cells) → Shows old_bytes before → (after : Cells) × Shows new_bytes after × ((cell : ℕ) → (list.count ≢ 0 → list.at ≢ at → cell ≢ list.at) → after cell ≡ before cell)

-- Cells are changed so that a key's list has an offset more, at an index. Only the node and the list differ. The list is
-- in its old cell, or in one that was none.
pub record ListMore (before after : Cells) (key index word moment : ℕ) : Type 0 where
  pub node : List ℕ
  pub node_is : before key ≡ Some node
  pub list : ℕ
  pub new_node : List ℕ
  pub new_is : after key ≡ Some new_node
  pub put : ValuesArePut (suc (u32_at node 36)) list moment node new_node
  pub old_list : List ℕ
  pub old_list_is : u32_at node 36 ≢ 0 → before (u32_at node 40) ≡ Some old_list
  pub new_list : List ℕ
  pub new_list_is : after list ≡ Some new_list
  pub long : 4 * suc (u32_at node 36) ≤ length new_list
  pub listed : words_from new_list 0 4 (suc (u32_at node 36)) ≡ with_at index word (words_from old_list 0 4 (u32_at node 36))
  pub takes : IsIn list (list_cells node) ⊎ (before list ≡ None)
  pub stays : (cell : ℕ) → IsSome (before cell) → cell ≢ key → (IsIn cell (list_cells node) → ⊥) → after cell ≡ before cell

-- the same of two images
abbrev pub AddsToList : List ℕ → List ℕ → ℕ → ℕ → ℕ → ℕ → Type 0
AddsToList old_bytes new_bytes key index word moment = (before : Cells) → Shows old_bytes before → (after : Cells) × Shows new_bytes after × ListMore before after key index word moment
