-- Values as they are written: the record, with data in the offset field if they have at most four bytes, else in a
-- cell.
use Rattle.std.specs.Prelude.{ℕ, ◌<◌, ◌+◌, ◌^◌, List, ◌++◌, length, take, replicate}
use Rattle.reg_tree_parts.specs.declared.value.Value.{Value}
use Rattle.hive_records.specs.Fields.{u16_bytes, u32_bytes}
use Rattle.hive_records.specs.NameEncodings.{name_bytes, latin_flag, AreUnits}

-- the record, with a size field and the four bytes of the offset field
abbrev pub value_record : Value → ℕ → List ℕ → List ℕ
value_record value size field =
    u16_bytes 0x6b76 ++ u16_bytes (length (name_bytes value.name)) ++ u32_bytes size ++ field ++ u32_bytes value.kind ++ u16_bytes (latin_flag 1 value.name) ++ u16_bytes 0 ++ name_bytes value.name

-- with data in the record; with data elsewhere
abbrev pub small_value : Value → List ℕ
small_value value = value_record value (2 ^ 31 + length value.«data») (take 4 (value.«data» ++ replicate 4 0))

abbrev pub large_value : Value → ℕ → List ℕ
large_value value at = value_record value (length value.«data») (u32_bytes at)

-- what can be written
pub record ValueIsEncodable (value : Value) : Type 0 where
  pub units : AreUnits value.name
  pub name : length (name_bytes value.name) < 2 ^ 16
  pub kind : value.kind < 2 ^ 32
