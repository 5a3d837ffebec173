-- Big data as they are written: segments in cells of their own, a list of their offsets, and the record that leads to
-- it.
use Rattle.std.specs.Prelude.{◌≡◌, ℕ, ◌<◌, ◌≤◌, List, [], ◌∷◌, ◌++◌, length, map, flat_map}
use Rattle.hive_records.specs.Fields.{u16_bytes, u32_bytes}

pub record Segment : Type 0 where
  pub at : ℕ
  pub encoding : List ℕ

abbrev pub big_data_bytes : List Segment → ℕ → List ℕ
big_data_bytes segments list = u16_bytes 0x6264 ++ u16_bytes (length segments) ++ u32_bytes list

abbrev pub segment_offsets : List Segment → List ℕ
segment_offsets segments = map (λ (s : Segment). s.at) segments

abbrev pub joined_segments : List Segment → List ℕ
joined_segments segments = flat_map (λ (s : Segment). s.encoding) segments

-- all segments but the last are full, and that isn't empty
abbrev pub AreFull : List Segment → Type 0
AreFull [] = ⊥
AreFull (s ∷ []) = (0 < length s.encoding) × (length s.encoding ≤ 16_344)
AreFull (s ∷ t ∷ rest) = (length s.encoding ≡ 16_344) × AreFull (t ∷ rest)
