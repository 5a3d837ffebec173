-- Values that are written into cells that were not there.
use Rattle.std.specs.Prelude.{◌≡◌, ◌⊎◌, ℕ, ◌<◌, ◌≤◌, ◌^◌, true, List, [], ◌∷◌, length, map, flat_map}
use Rattle.std.specs.List.{AllByRecursion}
use Rattle.reg_tree_parts.specs.declared.value.Value.{Value}
use Rattle.hive_cells.specs.Bins.{Cells}
use Rattle.hive_records.specs.Numbers.{nil_offset}
use Rattle.hive_records.specs.Fields.{Gives, CellHolds}
use Rattle.hive_records.specs.BigDataEncodings.{Segment, big_data_bytes, segment_offsets, joined_segments, AreFull}
use Rattle.hive_records.specs.ListEncodings.{offsets_bytes, AreOffsets}
use Rattle.hive_records.specs.ValueEncodings.{ValueIsEncodable}
use Rattle.hive_records.specs.KeyEncodings.{ValueCells}
use Rattle.hive_records.specs.Wholes.{IsWritten}
use Rattle.hive_records.specs.Values.{values_at}
use Rattle.std.specs.FinMap as finite
use Rattle.reg_names.specs.Names.{folded}
use Rattle.reg_tree_parts.specs.Rows.{ValueMap}
use Rattle.hive_emit.specs.CellWrites.{Adds, Lists}

-- a segment is in its cell
abbrev pub IsSegment : Cells → Segment → Type 0
IsSegment cells s = CellHolds cells s.at s.encoding

abbrev pub segment_own : Segment → List ℕ
segment_own s = s.at ∷ []

-- data lie in segments at offsets, of which something holds beside
pub record InSegments (Full : List Segment → Type 0) (cell_offsets encoding : List ℕ) (before after : Cells) : Type 0 where
  pub segments : List Segment
  pub listed : Lists IsSegment segment_own segments before after
  pub at : segment_offsets segments ≡ cell_offsets
  pub its : joined_segments segments ≡ encoding
  pub full : Full segments
  pub near : AreOffsets cell_offsets

-- data lie in a cell, or in segments that a record in a cell leads to
pub record InCell (to : ℕ) (encoding own : List ℕ) (cells : Cells) : Type 0 where
  pub few : length encoding ≤ 16_344
  pub is : own ≡ to ∷ []
  pub held : CellHolds cells to encoding

pub record InBig (to : ℕ) (encoding own : List ℕ) (cells : Cells) : Type 0 where
  pub many : 16_344 < length encoding
  pub list : ℕ
  pub segments : List Segment
  pub near_list : list < 2 ^ 32
  pub is : own ≡ to ∷ list ∷ segment_offsets segments
  pub its : encoding ≡ joined_segments segments
  pub full : AreFull segments
  pub count : length segments < 2 ^ 16
  pub are : AreOffsets (segment_offsets segments)
  pub leads : CellHolds cells to (big_data_bytes segments list)
  pub listing : CellHolds cells list (offsets_bytes (segment_offsets segments))
  pub held : AllByRecursion (IsSegment cells) segments

pub record DataAt (to : ℕ) (encoding : List ℕ) (before after : Cells) : Type 0 where
  pub own : List ℕ
  pub near : to < 2 ^ 32
  pub adds : Adds before after own
  pub lies : InCell to encoding own after ⊎ InBig to encoding own after

-- a value is written, its record at an offset
pub record ValueAt (at : ℕ) (value : Value) (before after : Cells) : Type 0 where
  pub own : List ℕ
  pub near : at < 2 ^ 32
  pub is : IsWritten true after (record { at = at; own = own; value = value })
  pub adds : Adds before after own

-- a value that can be put. It can be written, given that its type is a number of 32 bits. Its data have no more
-- segments than a record can count
pub record CanPut (value : Value) : Type 0 where
  pub fits : value.kind < 2 ^ 32 → ValueIsEncodable value
  pub few : length value.«data» < 2 ^ 29

-- values that can be put: each of them, under its own name, and no more than a record can count
pub record CanPutAll (values : ValueMap) : Type 0 where
  pub each : AllByRecursion CanPut (finite.values values)
  pub filed : AllByRecursion (λ (entry : List ℕ × Value). let value = entry.1 in folded value.name ≡ entry.0) (finite.entries values)
  pub few : finite.len values < 2 ^ 32

abbrev pub IsValue : Cells → ValueCells → Type 0
IsValue cells v = IsWritten true cells v

abbrev pub value_own : ValueCells → List ℕ
value_own v = v.own

-- values are written one after another, their records at offsets
pub record ListedValues (cell_offsets : List ℕ) (values : List Value) (before after : Cells) : Type 0 where
  pub written : List ValueCells
  pub listed : Lists IsValue value_own written before after
  pub at : map (λ (v : ValueCells). v.at) written ≡ cell_offsets
  pub its : map (λ (v : ValueCells). v.value) written ≡ values
  pub near : AreOffsets cell_offsets

-- a key's values have their records, and a list of these in the order of the values' folded names
pub record HasValues (list : ℕ) (values : ValueMap) (own : List ℕ) (cells : Cells) : Type 0 where
  pub written : List ValueCells
  pub its : map (λ (v : ValueCells). v.value) written ≡ finite.values values
  pub each : AllByRecursion (IsValue cells) written
  pub held : CellHolds cells list (offsets_bytes (map (λ (v : ValueCells). v.at) written))
  pub its_own : own ≡ list ∷ flat_map value_own written

-- no subkeys have no list, and its offset is the offset of none
pub record HasNoValues (list : ℕ) (values : ValueMap) (own : List ℕ) : Type 0 where
  pub none : finite.len values ≡ 0
  pub without : list ≡ nil_offset
  pub its_own : own ≡ []

abbrev pub AreListedValues : ℕ → ValueMap → List ℕ → Cells → Type 0
AreListedValues list values own cells = HasNoValues list values own ⊎ HasValues list values own cells

-- a key's values are written, and read back from the list at an offset, which depends on cells that were not there
pub record ValuesAt (list : ℕ) (values : ValueMap) (before after : Cells) : Type 0 where
  pub own : List ℕ
  pub near : list < 2 ^ 32
  pub adds : Adds before after own
  pub is : AreListedValues list values own after
  pub gives : Gives (values_at true (finite.len values) list) after own [] values
