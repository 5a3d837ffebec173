-- Values: their records, and data that lie in the record, in one cell, or in segments (regf format: vk, db).
use Rattle.std.specs.Prelude.{ℕ, ◌+◌, ◌-◌, ◌*◌, ◌/◌, ◌^◌, ◌==◌, nat_le, nat_lt, Bool, List, [], ◌∷◌, length, map, take, slice_range, flat_map}
use Rattle.std.specs.FinMap as finite
use Rattle.reg_names.specs.Names.{folded}
use Rattle.refusals.specs.declared.refusal.Cause.TheVariants as cause
use Rattle.reg_tree_parts.specs.declared.value.Value.{Value}
use Rattle.reg_tree_parts.specs.Rows.{ValueMap}
use Rattle.hive_cells.specs.Tiles.{u32_at}
use Rattle.hive_records.specs.Readers.{Reader, done, rule, choice, look, each, ◌⟫◌}
use Rattle.hive_records.specs.Numbers.{u16_at, words_from, begins_with}
use Rattle.hive_records.specs.Names.{has_flag, name_in, all_apart}

-- the first bytes of a cell, which has at least as many
abbrev pub cell_prefix : ℕ → ℕ → Reader (List ℕ)
cell_prefix size at = look at ⟫ λ bytes. rule (nat_le size (length bytes)) cause.BadRecord ⟫ λ _. done (take size bytes)

-- the bytes of one segment of big data, and how many segments there are
abbrev pub segment_bytes : ℕ
segment_bytes = 16_344

abbrev pub segments_of : ℕ → ℕ
segments_of size = (size + 16_343) / 16_344

-- the sizes of segments: all but the last are full
abbrev pub segment_sizes : ℕ → List ℕ → List (ℕ × ℕ)
segment_sizes left [] = []
segment_sizes left (at ∷ []) = (left, at) ∷ []
segment_sizes left (at ∷ next ∷ rest) = (16_344, at) ∷ segment_sizes (left - 16_344) (next ∷ rest)

-- big data of a size
abbrev pub big_data : ℕ → ℕ → Reader (List ℕ)
big_data size at =
    look at ⟫ λ bytes.
    rule (begins_with bytes 0x6264 8) cause.BadRecord ⟫ λ _.
    rule (u16_at bytes 2 == segments_of size) cause.BadRecord ⟫ λ _.
    look (u32_at bytes 4) ⟫ λ list.
    rule (nat_le (4 * segments_of size) (length list)) cause.BadRecord ⟫ λ _.
    each (λ s. cell_prefix s.0 s.1) (segment_sizes size (words_from list 0 4 (segments_of size))) ⟫ λ pieces.
    done (flat_map (λ p. p) pieces)

-- data of a size field, beside the bytes of the offset field. `split` says whether big data lie in segments.
abbrev pub data_of : Bool → ℕ → List ℕ → Reader (List ℕ)
data_of split size record_bytes =
    choice (nat_le (2 ^ 31) size)
    (rule (nat_le (size - 2 ^ 31) 4) cause.BadRecord ⟫ λ _. done (slice_range record_bytes 8 (8 + (size - 2 ^ 31))))
    (choice (size == 0) (done [])
    (choice split
    (choice (nat_lt segment_bytes size) (big_data size (u32_at record_bytes 8)) (cell_prefix size (u32_at record_bytes 8)))
    (cell_prefix size (u32_at record_bytes 8))))

-- the value whose record is at an offset
abbrev pub value_at : Bool → ℕ → Reader Value
value_at split at =
    look at ⟫ λ bytes.
    rule (begins_with bytes 0x6b76 20) cause.BadRecord ⟫ λ _.
    rule (nat_le (20 + u16_at bytes 2) (length bytes)) cause.BadRecord ⟫ λ _.
    name_in (has_flag 1 (u16_at bytes 16)) (slice_range bytes 20 (20 + u16_at bytes 2)) ⟫ λ name.
    data_of split (u32_at bytes 4) bytes ⟫ λ its_data.
    done (record { name = name; kind = u32_at bytes 12; «data» = its_data })

-- values by their folded names
abbrev pub map_of : List Value → ValueMap
map_of values = finite.from_entries (map (λ (v : Value). (folded v.name, v)) values)

-- the values of a key that says how many they are and where their list is
abbrev pub values_at : Bool → ℕ → ℕ → Reader ValueMap
values_at split count list =
    choice (count == 0) (done (map_of []))
    (look list ⟫ λ bytes.
    rule (nat_le (4 * count) (length bytes)) cause.BadRecord ⟫ λ _.
    each (value_at split) (words_from bytes 0 4 count) ⟫ λ values.
    rule (all_apart (map (λ (v : Value). folded v.name) values)) cause.BadName ⟫ λ _.
    done (map_of values))
