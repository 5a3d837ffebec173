-- A key's list of subkeys by its node, a leaf by its first bytes, and how both change.
use Rattle.std.specs.Prelude.{◌≡◌, ◌⊎◌, ℕ, suc, ◌+◌, ◌*◌, ◌≤◌, ◌<◌, ◌==◌, false, List, [], length, None, IsSome}
use Rattle.std.specs.List.{list_any}
use Rattle.hive_tree_model.specs.Lists.{IsIn, Once}
use Rattle.hive_cells.specs.Bins.{Cells, Shows}
use Rattle.hive_edit_laws.specs.SubkeyLists.{OneMore}
use Rattle.hive_records.specs.NameEncodings.{AreUnits}
use Rattle.hive_records.specs.declared.key_node_fields.KeyNodeFields.{KeyNodeFields}
use Rattle.hive_records.specs.Numbers.{nil_offset}
use Rattle.hive_cells.specs.Tiles.{u32_at, cell_data}
use Rattle.hive_records.specs.Numbers.{u16_at, u64_at}
use Rattle.hive_records.specs.Lists.{is_indirect, subkeys_at}
use Rattle.hive_records.specs.Fields.{Gives}
use Rattle.hive_records.specs.Heads.{stride_of}
use Rattle.hive_savepoint.specs.Puts.{HasData}
use Rattle.hive_edit_laws.specs.Found.{HoldsNode, HoldsList}
use Rattle.hive_edit_laws.specs.RecordEdits.{NodeListsChange}
use Rattle.hive_edit_laws.specs.Shifts.{ShiftsIn, ShiftsOut}
use Rattle.hive_edit.specs.declared.key_lists.KeyList.{KeyList}
use Rattle.hive_edit.specs.declared.leaf_edit.LeafShape.{LeafShape}

-- the node at an offset names this list of subkeys
pub record IsListOfKey (bytes : List ℕ) (key : ℕ) (list : KeyList) : Type 0 where
  pub holds : HoldsNode bytes key
  pub long : HasData bytes key 76
  pub count_is : list.count ≡ u32_at (cell_data bytes key) 20
  pub at_is : list.at ≡ u32_at (cell_data bytes key) 28

-- the list at an offset has elements of this many bytes, and so many of them
pub record IsShapeOf (bytes : List ℕ) (leaf : ℕ) (shape : LeafShape) : Type 0 where
  pub holds : HoldsList bytes leaf
  pub long : HasData bytes leaf (4 + shape.stride * shape.count)
  pub stride_is : shape.stride ≡ stride_of (cell_data bytes leaf)
  pub count_is : shape.count ≡ u16_at (cell_data bytes leaf) 2
  pub wide : 4 ≤ shape.stride
  pub narrow : shape.stride ≤ 8
  pub indirect_is : shape.is_indirect ≡ is_indirect (cell_data bytes leaf)
  pub room_is : HasData bytes leaf shape.room

-- a leaf is without its element at an index: those after it are one element further back
pub record LeafLoses (old new : List ℕ) (stride count index : ℕ) : Type 0 where
  pub len : length new ≡ length old
  pub letters : u16_at new 0 ≡ u16_at old 0
  pub count_is : u16_at new 2 ≡ count
  pub shifts : ShiftsOut old new 4 stride count index

-- a leaf has one element more, at an index: those after it are one element further on
pub record LeafGains (old new : List ℕ) (stride count index subkey : ℕ) : Type 0 where
  pub len : length new ≡ length old
  pub letters : u16_at new 0 ≡ u16_at old 0
  pub count_is : u16_at new 2 ≡ suc count
  pub shifts : ShiftsIn old new 4 stride count index subkey

-- a key node names another list of subkeys, and has a new time; its values stay
pub record NodeGetsList (old new : List ℕ) (count list moment : ℕ) : Type 0 where
  pub fields : NodeListsChange old new
  pub time_is : u64_at new 4 ≡ moment
  pub count_is : u32_at new 20 ≡ count
  pub list_is : u32_at new 28 ≡ list
  pub value_count : u32_at new 36 ≡ u32_at old 36
  pub value_list : u32_at new 40 ≡ u32_at old 40

-- A key's list of subkeys has one more, in cells that were the list's or none. All other cells stay.
pub record ListGrown (before after : Cells) (count at made subkey : ℕ) (own its : List ℕ) : Type 0 where
  pub subkeys : List ℕ
  pub more : OneMore subkey its subkeys
  pub own_now : List ℕ
  pub reads : Gives (subkeys_at (suc count) made) after own_now [] subkeys
  pub once : Once own_now
  pub takes : (cell : ℕ) → IsIn cell own_now → IsIn cell own ⊎ (before cell ≡ None)
  pub stays : (cell : ℕ) → IsSome (before cell) → (IsIn cell own → ⊥) → after cell ≡ before cell

-- the same of the lists of two images, if no cell of the list is named twice
abbrev pub GrowsList : List ℕ → List ℕ → KeyList → ℕ → ℕ → Type 0
GrowsList old_bytes new_bytes list subkey made = (before : Cells) → Shows old_bytes before → (own lent its : List ℕ) → Gives (subkeys_at list.count list.at) before own lent its → Once own
    → (after : Cells) × Shows new_bytes after × ListGrown before after list.count list.at made subkey own its

-- a name that a new key may have
pub record IsNewName (name : List ℕ) : Type 0 where
  pub some : 0 < length name
  pub few : length name ≤ 255
  pub units : AreUnits name
  pub no_backslash : list_any (λ u. u == 0x5c) name ≡ false

-- what the node of a new key says beside its row
abbrev pub new_fields : ℕ → ℕ → KeyNodeFields
new_fields home security = record { parent = home; subkey_total = 0; subkey_list = nil_offset; value_count = 0; values = nil_offset; security = security; class = nil_offset; longest_subkey = 0; longest_class = 0; longest_value = 0; largest_data = 0 }
