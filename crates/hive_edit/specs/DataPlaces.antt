-- Where a value's data are, by its record, and where new data are put.
use Rattle.std.specs.Prelude.{◌≡◌, ◌≢◌, ◌⊎◌, ℕ, ◌+◌, ◌^◌, ◌<◌, ◌≤◌, Bool, true, false, List, [], ◌∷◌, length, slice_index, None, Some, IsSome}
use Rattle.hive_tree_model.specs.Lists.{IsIn, Once}
use Rattle.hive_cells.specs.Tiles.{u32_at}
use Rattle.hive_cells.specs.Bins.{Cells, Shows}
use Rattle.hive_records.specs.Values.{data_of}
use Rattle.hive_records.specs.Fields.{Gives}
use Rattle.hive_edit.specs.declared.value_data.DataPlace.{DataPlace}
use Rattle.hive_edit.specs.declared.value_data.DataPlace.TheVariants.{InRecord, InCell, InSegments}
use Rattle.hive_edit.specs.declared.value_data.NewData.{NewData}
use Rattle.hive_edit_laws.specs.RecordEdits.{NodeTimeChanges}
use Rattle.hive_savepoint.specs.Puts.{HasData, Overlays}
use Rattle.hive_edit.specs.SegmentCells.{segment_cells}

-- A value's record says where its data are. They are in the record, or nowhere; in one cell; or in segments, of a size,
-- by the db at an offset.
abbrev pub IsDataPlace : List ℕ → DataPlace → Type 0
IsDataPlace fields InRecord = (2 ^ 31 ≤ u32_at fields 4) ⊎ (u32_at fields 4 ≡ 0)
IsDataPlace fields (InCell at room) = (u32_at fields 4 < 2 ^ 31) × (0 < u32_at fields 4) × (u32_at fields 4 ≤ 16_344) × (u32_at fields 8 ≡ at)
IsDataPlace fields (InSegments at size) = (u32_at fields 4 < 2 ^ 31) × (16_344 < u32_at fields 4) × (u32_at fields 8 ≡ at) × (u32_at fields 4 ≡ size)

-- the one cell of data is there, and has room for so many bytes
abbrev pub IsPlaceThere : List ℕ → DataPlace → Type 0
IsPlaceThere bytes (InCell at room) = HasData bytes at room
IsPlaceThere bytes _ = Unit {0}

-- the cells of data by their place
abbrev pub place_cells : List ℕ → DataPlace → List ℕ
place_cells bytes InRecord = []
place_cells bytes (InCell at room) = at ∷ []
place_cells bytes (InSegments db size) = segment_cells bytes db size

-- the cells of old data that are freed: none if the new data are in them
abbrev pub freed_cells : List ℕ → DataPlace → Bool → List ℕ
freed_cells bytes old true = []
freed_cells bytes old false = place_cells bytes old

-- what a record says of data that are in it
pub record IsInRecord (text : List ℕ) (new : NewData) : Type 0 where
  pub few : length text ≤ 4
  pub size : new.size ≡ 2 ^ 31 + length text
  pub field : (i : ℕ) → i < length text → slice_index new.field i ≡ slice_index text i
  pub moved : new.in_place ≡ false

-- what a record says of data in one cell at an offset
pub record IsAtOffset (text : List ℕ) (at : ℕ) (new : NewData) : Type 0 where
  pub size : new.size ≡ length text
  pub field : u32_at new.field 0 ≡ at

-- twelve bytes of a record, from its byte 4 on, say this of data, and have a type
pub record IsRecordText (new : NewData) (kind : ℕ) (text : List ℕ) : Type 0 where
  pub len : length text ≡ 12
  pub size : u32_at text 0 ≡ new.size
  pub field : (i : ℕ) → i < 4 → slice_index text (4 + i) ≡ slice_index new.field i
  pub kind_is : u32_at text 8 ≡ kind

-- a value's record says this of its data, and has a type; its name stays
abbrev pub RecordIsPut : NewData → ℕ → List ℕ → List ℕ → Type 0
RecordIsPut new kind old now = (text : List ℕ) × IsRecordText new kind text × Overlays old now 4 text

-- A record that says this has data that are read from cells of its own, as long as these cells stay.
abbrev pub ReadsData : Cells → List ℕ → NewData → List ℕ → Type 0
ReadsData cells own new text = (after : Cells) (kind : ℕ) (old now : List ℕ) → ((cell : ℕ) → IsIn cell own → after cell ≡ cells cell)
    → 20 ≤ length old → RecordIsPut new kind old now → Gives (data_of true (u32_at now 4) now) after own [] text

-- New data of a value are put into cells that were the old data's or no cells. All other cells stay.
pub record DataIsPut (before after : Cells) (old : List ℕ) (new : NewData) (text : List ℕ) : Type 0 where
  pub own : List ℕ
  pub once : Once own
  pub takes : (cell : ℕ) → IsIn cell own → IsIn cell old ⊎ (before cell ≡ None)
  pub in_place : new.in_place ≡ true → (cell : ℕ) → IsIn cell old → IsIn cell own
  pub moved : new.in_place ≡ false → (cell : ℕ) → IsIn cell own → before cell ≡ None
  pub stays : (cell : ℕ) → IsSome (before cell) → (IsIn cell own → ⊥) → after cell ≡ before cell
  pub reads : ReadsData after own new text

-- the same of the data of two images
abbrev pub PutsData : List ℕ → List ℕ → List ℕ → List ℕ → NewData → Type 0
PutsData old_bytes new_bytes old text new = (before : Cells) → Shows old_bytes before → (after : Cells) × Shows new_bytes after × DataIsPut before after old new text

-- Of two images' cells only a value's record and its key's node differ: the record says this of its data, and has a
-- type; the node has a time.
abbrev pub PutsFields : List ℕ → List ℕ → ℕ → ℕ → NewData → ℕ → ℕ → Type 0
PutsFields old_bytes new_bytes key at new kind moment = key ≢ at → (before : Cells) → Shows old_bytes before → (after : Cells) × Shows new_bytes after
    × ((cell : ℕ) → cell ≢ key → cell ≢ at → after cell ≡ before cell)
    × ((old : List ℕ) → before at ≡ Some old → (now : List ℕ) × (after at ≡ Some now) × RecordIsPut new kind old now)
    × ((old : List ℕ) → before key ≡ Some old → (now : List ℕ) × (after key ≡ Some now) × NodeTimeChanges old now moment)

-- of two images' cells only these differ
abbrev pub FreesCells : List ℕ → List ℕ → List ℕ → Type 0
FreesCells old_bytes new_bytes cells = (before : Cells) → Shows old_bytes before → (after : Cells) × Shows new_bytes after × ((cell : ℕ) → (IsIn cell cells → ⊥) → after cell ≡ before cell)
