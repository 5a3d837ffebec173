-- Key nodes and security cells as they are written.
use Rattle.std.specs.Prelude.{◌≡◌, ℕ, ◌<◌, ◌+◌, ◌==◌, ◌^◌, false, List, ◌++◌, length}
use Rattle.std.specs.List.{list_any}
use Rattle.reg_tree_parts.specs.declared.value.Value.{Value}
use Rattle.reg_tree_parts.specs.Rows.{Row}
use Rattle.hive_records.specs.declared.key_node_fields.KeyNodeFields.{KeyNodeFields}
use Rattle.hive_records.specs.Numbers.{nil_offset}
use Rattle.hive_records.specs.Names.{has_flag}
use Rattle.hive_records.specs.Fields.{u16_bytes, u32_bytes, u64_bytes}
use Rattle.hive_records.specs.NameEncodings.{name_bytes, latin_flag, AreUnits}

-- a security cell: its links in the ring, the number of keys that name it, and the descriptor
abbrev pub security_bytes : ℕ → ℕ → ℕ → List ℕ → List ℕ
security_bytes next previous count descriptor = u16_bytes 0x6b73 ++ u16_bytes 0 ++ u32_bytes next ++ u32_bytes previous ++ u32_bytes count ++ u32_bytes (length descriptor) ++ descriptor

-- a key's record up to the offset of its class, and the upper bounds after it
abbrev pub node_head : ℕ → ℕ → KeyNodeFields → List ℕ
node_head flags time its =
    u16_bytes 0x6b6e ++ u16_bytes flags ++ u64_bytes time ++ u32_bytes 0 ++ u32_bytes its.parent ++ u32_bytes its.subkey_total ++ u32_bytes 0 ++ u32_bytes its.subkey_list ++ u32_bytes nil_offset
    ++ u32_bytes its.value_count ++ u32_bytes its.values ++ u32_bytes its.security ++ u32_bytes its.class

abbrev pub node_bounds : KeyNodeFields → List ℕ
node_bounds its = u16_bytes its.longest_subkey ++ u16_bytes 0 ++ u32_bytes its.longest_class ++ u32_bytes its.longest_value ++ u32_bytes its.largest_data ++ u32_bytes 0

-- a key's record: of its name, flags, last written time, the length of its class, and what the record says beside these
abbrev pub node_bytes : List ℕ → ℕ → ℕ → ℕ → KeyNodeFields → List ℕ
node_bytes name flags time class_len its =
    node_head (flags + latin_flag 0x20 name) time its ++ node_bounds its ++ u16_bytes (length (name_bytes name)) ++ u16_bytes class_len ++ name_bytes name

abbrev pub key_node_bytes : Row → KeyNodeFields → List ℕ
key_node_bytes row its = node_bytes row.name row.flags row.time (length row.class) its

-- what can be written: the row, and where its cells are
pub record RowFits (row : Row) : Type 0 where
  pub units : AreUnits row.name
  pub no_backslash : list_any (λ u. u == 0x5c) row.name ≡ false
  pub name : length (name_bytes row.name) < 2 ^ 16
  pub class : length row.class < 2 ^ 16
  pub flags : row.flags < 2 ^ 16
  pub not_spelling : has_flag 0x20 row.flags ≡ false
  pub not_predefined : has_flag 0x40 row.flags ≡ false
  pub time : row.time < 2 ^ 64

pub record KeyNodeFieldsFit (its : KeyNodeFields) : Type 0 where
  pub subkey_total : its.subkey_total < 2 ^ 32
  pub subkey_list : its.subkey_list < 2 ^ 32
  pub value_count : its.value_count < 2 ^ 32
  pub values : its.values < 2 ^ 32
  pub security : its.security < 2 ^ 32
  pub class : its.class < 2 ^ 32

-- values of a key: where each is written, which cells are its own, and what it is
pub record ValueCells : Type 0 where
  pub at : ℕ
  pub own : List ℕ
  pub value : Value

-- leaves below a list of lists: where each is written, and the offsets in it
pub record Leaf : Type 0 where
  pub at : ℕ
  pub subkey_list : List ℕ
