-- Records of which some fields are new. The data of the cell keep their length.
use Rattle.std.specs.Prelude.{◌≡◌, ℕ, ◌<◌, ◌≤◌, List, length, slice_index}
use Rattle.hive_cells.specs.Tiles.{u32_at}
use Rattle.hive_records.specs.Numbers.{u64_at}

-- a key node of which the time may be new, and the upper bounds in bytes 52 to 67, which are unread
pub record NodeTimeChanges (old new : List ℕ) (time : ℕ) : Type 0 where
  pub len : length new ≡ length old
  pub time_is : u64_at new 4 ≡ time
  pub before : (i : ℕ) → i < 4 → slice_index new i ≡ slice_index old i
  pub between : (i : ℕ) → 12 ≤ i → i < 52 → slice_index new i ≡ slice_index old i
  pub after : (i : ℕ) → 68 ≤ i → slice_index new i ≡ slice_index old i

-- a key node of which time, counts, lists and upper bounds may be new: its flags, security cell, class and name stay
pub record NodeListsChange (old new : List ℕ) : Type 0 where
  pub len : length new ≡ length old
  pub before : (i : ℕ) → i < 4 → slice_index new i ≡ slice_index old i
  pub cells : (i : ℕ) → 44 ≤ i → i < 52 → slice_index new i ≡ slice_index old i
  pub after : (i : ℕ) → 72 ≤ i → slice_index new i ≡ slice_index old i

-- a value's record of which size, data field and type may be new: its name stays
pub record ValueFieldsChange (old new : List ℕ) (kind : ℕ) : Type 0 where
  pub len : length new ≡ length old
  pub kind_is : u32_at new 12 ≡ kind
  pub before : (i : ℕ) → i < 4 → slice_index new i ≡ slice_index old i
  pub after : (i : ℕ) → 16 ≤ i → slice_index new i ≡ slice_index old i

-- a security cell of which links and count may be new
pub record SecurityCountChanges (old new : List ℕ) : Type 0 where
  pub len : length new ≡ length old
  pub before : (i : ℕ) → i < 4 → slice_index new i ≡ slice_index old i
  pub after : (i : ℕ) → 16 ≤ i → slice_index new i ≡ slice_index old i
