-- Changes of cells after which a key has other values.
use Rattle.std.specs.Prelude.{◌≡◌, ◌≢◌, ◌⊎◌, ◌≤◌, ◌*◌, ◌==◌, ℕ, suc, Bool, if◌then◌else◌, List, [], ◌∷◌, length, Some, None, IsSome}
use Rattle.hive_tree_model.specs.Lists.{IsIn, Once}
use Rattle.hive_cells.specs.Tiles.{u32_at}
use Rattle.hive_cells.specs.Bins.{Cells}
use Rattle.hive_records.specs.Numbers.{u64_at, words_from}
use Rattle.hive_records.specs.Values.{data_of, value_at, values_at}
use Rattle.hive_records.specs.Fields.{Gives}
use Rattle.reg_tree_parts.specs.declared.value.Value.{Value}
use Rattle.reg_tree_parts.specs.Rows.{ValueMap}
use Rattle.hive_edit_laws.specs.Shifts.{with_at, without_at}
use Rattle.hive_edit_laws.specs.RecordEdits.{NodeTimeChanges, NodeListsChange, ValueFieldsChange}

-- the cells of the values that a key node names: their list, their records, and the cells of their data
abbrev pub value_cells : Bool → Cells → List ℕ → List ℕ
value_cells split cells node = (values_at split (u32_at node 36) (u32_at node 40) cells).own

-- the cells of the data that a value's record names; none if the data are in the record
abbrev pub data_cells : Bool → Cells → List ℕ → List ℕ
data_cells split cells fields = (data_of split (u32_at fields 4) fields cells).own

-- Cells are changed so that a key has other values and a new time. Its subkeys stay.
--
-- `takes`: a cell of the new values was a cell of the old ones, or no cell.
-- `stays`: a cell that was there, and is neither the node nor a cell of the old values, stays.
pub record ValuesChange (split : Bool) (before after : Cells) (key : ℕ) (values : ValueMap) (moment : ℕ) : Type 0 where
  pub old_node : List ℕ
  pub old_is : before key ≡ Some old_node
  pub new_node : List ℕ
  pub new_is : after key ≡ Some new_node
  pub fields : NodeListsChange old_node new_node
  pub time_is : u64_at new_node 4 ≡ moment
  pub subkey_count : u32_at new_node 20 ≡ u32_at old_node 20
  pub subkeys : u32_at new_node 28 ≡ u32_at old_node 28
  pub own : List ℕ
  pub reads : Gives (values_at split (u32_at new_node 36) (u32_at new_node 40)) after own [] values
  pub once : Once own
  pub takes : (cell : ℕ) → IsIn cell own → IsIn cell (value_cells split before old_node) ⊎ (before cell ≡ None)
  pub stays : (cell : ℕ) → IsSome (before cell) → cell ≢ key → (IsIn cell (value_cells split before old_node) → ⊥) → after cell ≡ before cell

-- Cells are changed so that one value of a key has a type and data, and the key a new time. The value's record stays at
-- its offset.
--
-- `takes`: a cell of the new data was a cell of the old data, or no cell.
-- `stays`: a cell that was there, and is neither node nor record nor a cell of the old data, stays. The cells of the old
-- data that are none of the new may have been freed.
pub record ValueChanges (split : Bool) (before after : Cells) (key at kind : ℕ) (value_bytes : List ℕ) (moment : ℕ) : Type 0 where
  pub old_node : List ℕ
  pub old_node_is : before key ≡ Some old_node
  pub new_node : List ℕ
  pub new_node_is : after key ≡ Some new_node
  pub node_fields : NodeTimeChanges old_node new_node moment
  pub old_record : List ℕ
  pub old_record_is : before at ≡ Some old_record
  pub new_record : List ℕ
  pub new_record_is : after at ≡ Some new_record
  pub record_fields : ValueFieldsChange old_record new_record kind
  pub own : List ℕ
  pub reads : Gives (data_of split (u32_at new_record 4) new_record) after own [] value_bytes
  pub once : Once own
  pub takes : (cell : ℕ) → IsIn cell own → IsIn cell (data_cells split before old_record) ⊎ (before cell ≡ None)
  pub stays : (cell : ℕ) → IsSome (before cell) → cell ≢ key → cell ≢ at → (IsIn cell (data_cells split before old_record) → ⊥) → after cell ≡ before cell

-- the cell of the list that a key node names; none if it has no values
abbrev pub list_cells : List ℕ → List ℕ
list_cells node = if u32_at node 36 == 0 then [] else u32_at node 40 ∷ []

-- Cells are changed so that a key has one value more, and a new time. The new record's offset is at an index of the list.
-- The list is in its old cell, or in one that was none; then the old cell may have been freed.
--
-- `fresh`: the new value's record and data are in cells that were not there.
-- `stays`: a cell that was there, and is neither the node nor the old list, stays.
pub record AddsValue (split : Bool) (before after : Cells) (key at index : ℕ) (value : Value) (moment : ℕ) : Type 0 where
  pub old_node : List ℕ
  pub old_is : before key ≡ Some old_node
  pub new_node : List ℕ
  pub new_is : after key ≡ Some new_node
  pub fields : NodeListsChange old_node new_node
  pub time_is : u64_at new_node 4 ≡ moment
  pub subkey_count : u32_at new_node 20 ≡ u32_at old_node 20
  pub subkeys : u32_at new_node 28 ≡ u32_at old_node 28
  pub count : u32_at new_node 36 ≡ suc (u32_at old_node 36)
  pub old_list : List ℕ
  pub old_list_is : u32_at old_node 36 ≢ 0 → before (u32_at old_node 40) ≡ Some old_list
  pub new_list : List ℕ
  pub new_list_is : after (u32_at new_node 40) ≡ Some new_list
  pub long : 4 * suc (u32_at old_node 36) ≤ length new_list
  pub listed : words_from new_list 0 4 (suc (u32_at old_node 36)) ≡ with_at index at (words_from old_list 0 4 (u32_at old_node 36))
  pub list_takes : IsIn (u32_at new_node 40) (list_cells old_node) ⊎ (before (u32_at new_node 40) ≡ None)
  pub own : List ℕ
  pub reads : Gives (value_at split at) after own [] value
  pub once : Once own
  pub fresh : (cell : ℕ) → IsIn cell own → before cell ≡ None
  pub apart : IsIn (u32_at new_node 40) own → ⊥
  pub stays : (cell : ℕ) → IsSome (before cell) → cell ≢ key → (IsIn cell (list_cells old_node) → ⊥) → after cell ≡ before cell

-- Cells are changed so that a key has one value less, and a new time: that whose record's offset was at an index of the
-- list. The list is in its old cell, or in one that was none, or there is none. The old list, the record and the cells
-- of its data may have been freed.
pub record DropsValue (split : Bool) (before after : Cells) (key at index moment : ℕ) : Type 0 where
  pub old_node : List ℕ
  pub old_is : before key ≡ Some old_node
  pub new_node : List ℕ
  pub new_is : after key ≡ Some new_node
  pub fields : NodeListsChange old_node new_node
  pub time_is : u64_at new_node 4 ≡ moment
  pub subkey_count : u32_at new_node 20 ≡ u32_at old_node 20
  pub subkeys : u32_at new_node 28 ≡ u32_at old_node 28
  pub count : u32_at old_node 36 ≡ suc (u32_at new_node 36)
  pub old_list : List ℕ
  pub old_list_is : before (u32_at old_node 40) ≡ Some old_list
  pub new_list : List ℕ
  pub new_list_is : u32_at new_node 36 ≢ 0 → after (u32_at new_node 40) ≡ Some new_list
  pub long : u32_at new_node 36 ≢ 0 → 4 * u32_at new_node 36 ≤ length new_list
  pub listed : words_from new_list 0 4 (u32_at new_node 36) ≡ without_at index (words_from old_list 0 4 (u32_at old_node 36))
  pub list_takes : u32_at new_node 36 ≢ 0 → (u32_at new_node 40 ≡ u32_at old_node 40) ⊎ (before (u32_at new_node 40) ≡ None)
  pub old_record : List ℕ
  pub old_record_is : before at ≡ Some old_record
  pub stays : (cell : ℕ) → IsSome (before cell) → cell ≢ key → cell ≢ u32_at old_node 40 → cell ≢ at → (IsIn cell (data_cells split before old_record) → ⊥) → after cell ≡ before cell
