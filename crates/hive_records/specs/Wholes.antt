-- A value with all its cells as they are written; and the offsets of the records of an image that was written by hand.
use Rattle.std.specs.Prelude.{◌≡◌, ◌⊎◌, ℕ, ◌<◌, ◌≤◌, ◌^◌, Bool, true, List, [], ◌∷◌, length}
use Rattle.std.specs.List.{AllByRecursion}
use Rattle.hive_cells.specs.Bins.{Cells}
use Rattle.hive_records.specs.Numbers.{nil_offset}
use Rattle.hive_records.specs.Fields.{CellHolds}
use Rattle.hive_records.specs.ListEncodings.{offsets_bytes, AreOffsets}
use Rattle.hive_records.specs.ValueEncodings.{small_value, large_value, ValueIsEncodable}
use Rattle.hive_records.specs.BigDataEncodings.{Segment, big_data_bytes, segment_offsets, joined_segments, AreFull}
use Rattle.hive_records.specs.declared.key_node_fields.KeyNodeFields.{KeyNodeFields}
use Rattle.hive_records.specs.KeyEncodings.{ValueCells}

-- with data in the record
pub record IsSmall (cells : Cells) (v : ValueCells) : Type 0 where
  pub few : length v.value.«data» ≤ 4
  pub own : v.own ≡ v.at ∷ []
  pub encoding : CellHolds cells v.at (small_value v.value)

-- with data in a cell
pub record IsLarge (split : Bool) (cells : Cells) (v : ValueCells) : Type 0 where
  pub to : ℕ
  pub near : to < 2 ^ 32
  pub some : 4 < length v.value.«data»
  pub few : length v.value.«data» < 2 ^ 31
  pub one : split ≡ true → length v.value.«data» ≤ 16_344
  pub own : v.own ≡ v.at ∷ to ∷ []
  pub encoding : CellHolds cells v.at (large_value v.value to)
  pub its : CellHolds cells to v.value.«data»

-- with data in segments
pub record IsBig (split : Bool) (cells : Cells) (v : ValueCells) : Type 0 where
  pub splits : split ≡ true
  pub to : ℕ
  pub list : ℕ
  pub segments : List Segment
  pub near : to < 2 ^ 32
  pub near_list : list < 2 ^ 32
  pub many : 16_344 < length v.value.«data»
  pub few : length v.value.«data» < 2 ^ 31
  pub its : v.value.«data» ≡ joined_segments segments
  pub full : AreFull segments
  pub count : length segments < 2 ^ 16
  pub are : AreOffsets (segment_offsets segments)
  pub own : v.own ≡ v.at ∷ to ∷ list ∷ segment_offsets segments
  pub encoding : CellHolds cells v.at (large_value v.value to)
  pub leads : CellHolds cells to (big_data_bytes segments list)
  pub listing : CellHolds cells list (offsets_bytes (segment_offsets segments))
  pub held : AllByRecursion (λ (s : Segment). CellHolds cells s.at s.encoding) segments

abbrev pub IsWritten : Bool → Cells → ValueCells → Type 0
IsWritten split cells v = ValueIsEncodable v.value × (IsSmall cells v ⊎ (IsLarge split cells v ⊎ IsBig split cells v))

abbrev pub root_fields : KeyNodeFields
root_fields = record { parent = nil_offset; subkey_total = 1; subkey_list = 200; value_count = 1; values = 240; security = 280; class = nil_offset; longest_subkey = 0; longest_class = 0; longest_value = 0; largest_data = 0 }

abbrev pub child_fields : KeyNodeFields
child_fields = record { parent = 0; subkey_total = 0; subkey_list = nil_offset; value_count = 0; values = nil_offset; security = 280; class = nil_offset; longest_subkey = 0; longest_class = 0; longest_value = 0; largest_data = 0 }
