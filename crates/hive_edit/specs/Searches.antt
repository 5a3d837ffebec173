-- What a search for a record of a name finds.
use Rattle.std.specs.Prelude.{◌≡◌, ℕ, ◌<◌, true, false, List, slice_get, Option, None, Some}
use Rattle.reg_names.specs.Names.{folded}
use Rattle.hive_cells.specs.Tiles.{IsAllocatedCell, cell_data}
use Rattle.hive_records.specs.Heads.{IsSubkeyList, key_node_fault, value_fault}
use Rattle.hive_records.specs.RecordReaders.{elements_of}
use Rattle.hive_records.specs.declared.list_record.SubkeyList.{SubkeyList}
use Rattle.hive_edit_laws.specs.Found.{HoldsList, node_name, value_name}
use Rattle.hive_edit.specs.declared.search.RecordKind.{RecordKind}
use Rattle.hive_edit.specs.declared.search.RecordKind.TheVariants.{Key, Value}
use Rattle.hive_edit.specs.Lists.{offset_at}
use Rattle.hive_edit.specs.declared.offsets.Offsets.{Offsets}
use Rattle.hive_edit.specs.declared.subkeys.SubkeySlot.{SubkeySlot}

-- data of a cell are a record of a kind, which breaks none of its own rules, and its name folds to this one
abbrev pub IsNamed : RecordKind → List ℕ → List ℕ → Type 0
IsNamed Key bytes name = (key_node_fault bytes ≡ None) × (folded (node_name bytes) ≡ name)
IsNamed Value bytes name = (value_fault bytes ≡ None) × (folded (value_name bytes) ≡ name)

-- the allocated cell at an offset is a record of a kind, and its name folds to this one
abbrev pub IsNamedAt : RecordKind → List ℕ → ℕ → List ℕ → Type 0
IsNamedAt kind bytes at name = IsAllocatedCell bytes at × IsNamed kind (cell_data bytes at) name

-- the record of a name is at this index of a list
abbrev pub IsFoundAt : RecordKind → List ℕ → Offsets → List ℕ → ℕ → Type 0
IsFoundAt kind bytes offsets name index = (index < offsets.count) × IsNamedAt kind bytes (offset_at offsets index) name

-- a leaf has the offset of a subkey at an index
pub record IsLeafSlot (bytes : List ℕ) (leaf index subkey : ℕ) : Type 0 where
  pub holds : HoldsList bytes leaf
  pub list : SubkeyList
  pub is : IsSubkeyList list (cell_data bytes leaf)
  pub direct : list.is_indirect ≡ false
  pub here : slice_get (elements_of list) index ≡ Some subkey

-- a list of lists has the offset of a leaf at an index
pub record IsLeafAt (bytes : List ℕ) (at index leaf : ℕ) : Type 0 where
  pub holds : HoldsList bytes at
  pub list : SubkeyList
  pub is : IsSubkeyList list (cell_data bytes at)
  pub indirect : list.is_indirect ≡ true
  pub here : slice_get (elements_of list) index ≡ Some leaf

-- the leaf is the list itself, or the list is a list of lists, and has the leaf at an index
abbrev pub IsLeafOf : List ℕ → ℕ → Option ℕ → ℕ → Type 0
IsLeafOf bytes at None leaf = leaf ≡ at
IsLeafOf bytes at (Some index) leaf = IsLeafAt bytes at index leaf

-- a key's list of subkeys has a subkey in a slot
abbrev pub IsSlotOf : List ℕ → ℕ → SubkeySlot → Type 0
IsSlotOf bytes at slot = IsLeafOf bytes at slot.leaf_index slot.leaf × IsLeafSlot bytes slot.leaf slot.index slot.subkey
