-- Where a key of a tree, and a value of it, are in hive bins data that encode the tree.
use Rattle.std.specs.Prelude.{◌≡◌, ◌≤◌, ℕ, ◌+◌, ◌*◌, ◌||◌, true, List, length, Some, None, slice_get, slice_range}
use Rattle.reg_names.specs.Names.{folded}
use Rattle.reg_tree_parts.specs.declared.value.Value.{Value}
use Rattle.reg_tree_parts.specs.Rows.{Row}
use Rattle.reg_tree.specs.Maps.{TreeMap}
use Rattle.hive_tree_model.specs.Keys.{KeyParts, Keys}
use Rattle.hive_tree_model.specs.Trees.{tree_of}
use Rattle.hive_tree_model.specs.Encodings.{Whole, LentApart}
use Rattle.hive_cells.specs.Tiles.{u32_at, IsAllocatedCell, cell_data}
use Rattle.hive_cells.specs.Bins.{Cells, Shows}
use Rattle.hive_records.specs.Numbers.{u16_at, words_from}
use Rattle.hive_records.specs.Names.{has_flag}
use Rattle.hive_records.specs.Heads.{key_name_bytes, units_in, key_node_fault, value_fault, list_fault, stride_of}
use Rattle.hive_records.specs.Lists.{is_plain, is_hinted, is_indirect, leaf_at}
use Rattle.hive_records.specs.Readers.{each}
use Rattle.hive_records.specs.Fields.{Gives}
use Rattle.hive_records.specs.Values.{value_at}
use Rattle.hive_records.specs.KeyNodes.{keys_in}
use Rattle.hive_records.specs.Images.{splits}
use Rattle.hive_edit_laws.specs.KeyPlaces.{KeyPlace, place_from}

-- The data encode the tree from the root's offset on, and the key at a folded path has its node at an offset.
pub record KeyFound (bytes : List ℕ) (root minor : ℕ) (tree : TreeMap) (path : List (List ℕ)) (at : ℕ) : Type 0 where
  pub cells : Cells
  pub shows : Shows bytes cells
  pub above : KeyParts Row
  pub subkey_list : Keys Row
  pub whole : Whole (keys_in (splits minor) cells) root above subkey_list
  pub apart : LentApart above subkey_list
  pub is : tree ≡ tree_of above subkey_list
  pub place : KeyPlace Row
  pub there : place_from root above subkey_list path ≡ Some place
  pub at_is : place.at ≡ at

-- That key's value of a folded name has its record at an offset, which is at an index of the key's list of values.
pub record ValueFound (bytes : List ℕ) (root minor : ℕ) (tree : TreeMap) (path : List (List ℕ)) (name : List ℕ) (key index at : ℕ) : Type 0 where
  pub in_key : KeyFound bytes root minor tree path key
  pub node : List ℕ
  pub node_is : in_key.cells key ≡ Some node
  pub list : List ℕ
  pub list_is : in_key.cells (u32_at node 40) ≡ Some list
  pub listed : slice_get (words_from list 0 4 (u32_at node 36)) index ≡ Some at
  pub own : List ℕ
  pub lent : List ℕ
  pub value : Value
  pub reads : Gives (value_at (splits minor) at) in_key.cells own lent value
  pub named : folded value.name ≡ name

-- the name in the data of a key node, and in those of a value's record
abbrev pub node_name : List ℕ → List ℕ
node_name node = units_in (has_flag 0x20 (u16_at node 2)) (key_name_bytes node)

abbrev pub value_name : List ℕ → List ℕ
value_name fields = units_in (has_flag 1 (u16_at fields 16)) (slice_range fields 20 (20 + u16_at fields 2))

-- an allocated cell whose data keep the rules of a key node by itself, of a value's record, of a list of subkeys
abbrev pub HoldsNode : List ℕ → ℕ → Type 0
HoldsNode bytes at = IsAllocatedCell bytes at × (key_node_fault (cell_data bytes at) ≡ None)

abbrev pub HoldsValue : List ℕ → ℕ → Type 0
HoldsValue bytes at = IsAllocatedCell bytes at × (value_fault (cell_data bytes at) ≡ None)

abbrev pub HoldsList : List ℕ → ℕ → Type 0
HoldsList bytes at = IsAllocatedCell bytes at × (list_fault (cell_data bytes at) ≡ None)

-- how many values the key node at an offset has, and the offset of the value's record at an index of its list
abbrev pub value_count : List ℕ → ℕ → ℕ
value_count bytes at = u32_at (cell_data bytes at) 36

abbrev pub value_list : List ℕ → ℕ → ℕ
value_list bytes at = u32_at (cell_data bytes at) 40

abbrev pub value_offset : List ℕ → ℕ → ℕ → ℕ
value_offset bytes at index = u32_at (cell_data bytes (value_list bytes at)) (4 * index)

-- the list at an offset, which is no list of lists, has these subkeys
abbrev pub LeafHas : Cells → ℕ → List ℕ → Type 0
LeafHas cells leaf subkeys = (own : List ℕ) × (lent : List ℕ) × Gives (leaf_at leaf) cells own lent subkeys

-- the lists at some offsets, none of which is a list of lists, have these subkeys
abbrev pub LeavesHave : Cells → List ℕ → List (List ℕ) → Type 0
LeavesHave cells leaves lists = (own : List ℕ) × (lent : List ℕ) × Gives (each leaf_at leaves) cells own lent lists

-- data that are a list, and no list of lists: it has its elements whole
abbrev pub IsLeaf : List ℕ → Type 0
IsLeaf bytes = ((is_plain bytes || is_hinted bytes) ≡ true) × (4 + stride_of bytes * u16_at bytes 2 ≤ length bytes)

-- data that are a list of lists
abbrev pub IsListOfLists : List ℕ → Type 0
IsListOfLists bytes = (is_indirect bytes ≡ true) × (4 + 4 * u16_at bytes 2 ≤ length bytes)

-- the offsets in such data
abbrev pub leaf_words : List ℕ → List ℕ
leaf_words bytes = words_from bytes 4 (stride_of bytes) (u16_at bytes 2)

abbrev pub list_words : List ℕ → List ℕ
list_words bytes = words_from bytes 4 4 (u16_at bytes 2)
