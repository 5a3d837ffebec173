-- What is taken of the free room at most, in bytes, by values and by lists of subkeys.
use Rattle.std.specs.Prelude.{ℕ, ◌+◌, ◌*◌, ◌/◌, nat_le, if◌then◌else◌, length, sum_by}
use Rattle.std.specs.FinMap as finite
use Rattle.reg_tree_parts.specs.declared.value.Value.{Value}
use Rattle.reg_tree_parts.specs.Rows.{ValueMap}
use Rattle.hive_records.specs.NameEncodings.{name_bytes}
use Rattle.hive_emit.specs.CellWrites.{cell_cost}

-- the segments of big data
abbrev pub segments_cost : ℕ → ℕ
segments_cost len = len + 8 * (len / 16_344) + 15

-- data apart from their record: a cell, or segments with what leads to them, which take a little more
unfoldable pub apart_cost : ℕ → ℕ
apart_cost len = cell_cost len + 100 * (len / 16_345)

-- data: nothing if they lie in the record
unfoldable pub data_cost : ℕ → ℕ
data_cost len = if nat_le len 4 then 0 else apart_cost len

-- a value: its record, and its data
unfoldable pub value_cost : Value → ℕ
value_cost value = cell_cost (20 + length (name_bytes value.name)) + data_cost (length value.«data»)

-- all values of a key, and the list of them
abbrev pub values_cost : ValueMap → ℕ
values_cost values = sum_by value_cost (finite.values values) + 8 * finite.len values

-- a leaf of a number of subkeys
abbrev pub leaf_cost : ℕ → ℕ
leaf_cost count = 8 + 8 * count

-- leaves of 500 subkeys and a last one, of a number of subkeys together
abbrev pub leaves_cost : ℕ → ℕ
leaves_cost count = 8 * count + 8 * ((count + 499) / 500)

-- all lists of a number of subkeys of a key
abbrev pub subkeys_cost : ℕ → ℕ
subkeys_cost count = 16 * count
