-- Data in segments, one after another.
use Rattle.std.proofs.Common.{◌≡◌, inl, inr, ℕ, ◌+◌, ◌-◌, ◌*◌, ◌<◌, ◌≤◌, ◌^◌, List, [], ◌∷◌, ◌++◌, length, take, drop, refl, sym, ◌∙◌, ap, subst, arith, length-drop}
use Rattle.std.specs.Prelude.{slice_range}
use Rattle.std.specs.List.{AllByRecursion}
use Rattle.std.proofs.lemmas.List.{map-append, length-map, take_all, take-append-drop}
use Rattle.std.proofs.lemmas.List.Concat.{flat_map_single}
use Rattle.std.proofs.Math.Seq.{take-add}
use Rattle.hive_cells.specs.Bins.{Cells}
use Rattle.hive_tree_model.specs.Cells.{Grows}
use Rattle.hive_records.specs.Fields.{CellHolds, u16_bytes, u32_bytes}
use Rattle.hive_records.specs.Numbers.{nil_offset}
use Rattle.hive_records.specs.BigDataEncodings.{Segment, segment_offsets, joined_segments, AreFull}
use Rattle.hive_records.specs.ListEncodings.{offsets_bytes, AreOffsets}
use Rattle.hive_emit.specs.CellWrites.{Makes, Adds, Puts}
use Rattle.hive_emit.specs.Values.{IsSegment, segment_own, InSegments, DataAt}
use Rattle.hive_emit.proofs.Makings.{made_then, made_as, made_none, holds_grown, adds_ahead, all_push, all_as, flat_push, lists_none, lists_more}

abbrev pub AllFull : List Segment → Type 0
AllFull segments = AllByRecursion (λ (s : Segment). length s.encoding ≡ 16_344) segments

last_full : (segments : List Segment) (last : Segment) → AllFull segments → 0 < length last.encoding → length last.encoding ≤ 16_344 → AreFull (segments ++ last ∷ [])
last_full [] last all some few = (some, few)
last_full (s ∷ []) last all some few = (all.0, (some, few))
last_full (s ∷ t ∷ rest) last all some few = (all.0, last_full (t ∷ rest) last all.1 some few)

-- no segments yet
pub no_segments : (bytes : List ℕ) → Makes bytes bytes (InSegments AllFull [] [])
no_segments bytes = made_none bytes (InSegments AllFull [] []) (λ x. record { segments = []; listed = lists_none IsSegment segment_own x; at = refl; its = refl; full = tt; near = tt })

segments_on : (Full More : List Segment → Type 0) (cell_offsets encoding : List ℕ) (at : ℕ) (more : List ℕ) (x y z : Cells) → ((segments : List Segment) → Full segments → More (segments ++ record { at = at; encoding = more } ∷ [])) → Grows x y → Grows y z → InSegments Full cell_offsets encoding x y → Puts at more y z → InSegments More (cell_offsets ++ at ∷ []) (encoding ++ more) x z
segments_on Full More cell_offsets encoding at more x y z on g h s p = record {
  segments = s.segments ++ record { at = at; encoding = more } ∷ [];
  listed = lists_more IsSegment segment_own s.segments (record { at = at; encoding = more }) x y z (λ a held. holds_grown y z a.at a.encoding h held) g h s.listed p.holds p.adds;
  at = map-append (λ (t : Segment). t.at) s.segments (record { at = at; encoding = more } ∷ []) ∙ ap (λ ps. ps ++ at ∷ []) s.at;
  its = flat_push (λ (t : Segment). t.encoding) s.segments (record { at = at; encoding = more }) ∙ ap (λ ts. ts ++ more) s.its;
  full = on s.segments s.full;
  near = all_push (λ at. at < 2 ^ 32) cell_offsets at s.near (let near : at < nil_offset = p.near in omega arith);
}

pub full_more : (a b c cell_offsets encoding : List ℕ) (at : ℕ) (more : List ℕ) → length more ≡ 16_344 → Makes a b (InSegments AllFull cell_offsets encoding) → Makes b c (Puts at more) → Makes a c (InSegments AllFull (cell_offsets ++ at ∷ []) (encoding ++ more))
full_more a b c cell_offsets encoding at more long m n = made_then a b c (InSegments AllFull cell_offsets encoding) (Puts at more) (InSegments AllFull (cell_offsets ++ at ∷ []) (encoding ++ more)) m n
    (λ x y z g h s p. segments_on AllFull AllFull cell_offsets encoding at more x y z (λ segments all. all_push (λ (t : Segment). length t.encoding ≡ 16_344) segments (record { at = at; encoding = more }) all long) g h s p)

pub last_more : (a b c cell_offsets encoding : List ℕ) (at : ℕ) (more : List ℕ) → 0 < length more → length more ≤ 16_344 → Makes a b (InSegments AllFull cell_offsets encoding) → Makes b c (Puts at more) → Makes a c (InSegments AreFull (cell_offsets ++ at ∷ []) (encoding ++ more))
last_more a b c cell_offsets encoding at more some few m n = made_then a b c (InSegments AllFull cell_offsets encoding) (Puts at more) (InSegments AreFull (cell_offsets ++ at ∷ []) (encoding ++ more)) m n
    (λ x y z g h s p. segments_on AllFull AreFull cell_offsets encoding at more x y z (λ segments all. last_full segments (record { at = at; encoding = more }) all some few) g h s p)

-- data in a cell
pub one_cell : (a b : List ℕ) (to : ℕ) (encoding : List ℕ) → length encoding ≤ 16_344 → Makes a b (Puts to encoding) → Makes a b (DataAt to encoding)
one_cell a b to encoding few m = made_as a b (Puts to encoding) (DataAt to encoding) m (λ x y g p. record {
  own = to ∷ [];
  near = let near : to < nil_offset = p.near in omega arith;
  adds = p.adds;
  lies = inl (record { few = few; is = refl; held = p.holds });
})

-- data in segments, with their list in a cell
record Listing (list : ℕ) (cell_offsets encoding : List ℕ) (x z : Cells) : Type 0 where
  segments : List Segment
  at : segment_offsets segments ≡ cell_offsets
  its : joined_segments segments ≡ encoding
  full : AreFull segments
  near : AreOffsets cell_offsets
  held : AllByRecursion (IsSegment z) segments
  listing : CellHolds z list (offsets_bytes cell_offsets)
  near_list : list < 2 ^ 32
  adds : Adds x z (list ∷ cell_offsets)

listed : (list : ℕ) (cell_offsets encoding : List ℕ) (x y z : Cells) → Grows x y → Grows y z → InSegments AreFull cell_offsets encoding x y → Puts list (offsets_bytes cell_offsets) y z → Listing list cell_offsets encoding x z
listed list cell_offsets encoding x y z g h s p = record {
  segments = s.segments;
  at = s.at;
  its = s.its;
  full = s.full;
  near = s.near;
  held = all_as (IsSegment y) (IsSegment z) s.segments (λ a held. holds_grown y z a.at a.encoding h held) s.listed.all;
  listing = p.holds;
  near_list = let near : list < nil_offset = p.near in omega arith;
  adds = adds_ahead x y z cell_offsets (list ∷ []) g h (subst (Adds x y) (flat_map_single (λ (t : Segment). t.at) s.segments ∙ s.at) s.listed.adds) p.adds;
}

big_at : (list to : ℕ) (cell_offsets encoding leads : List ℕ) (x y z : Cells) → 16_344 < length encoding → length cell_offsets < 2 ^ 16 → leads ≡ u16_bytes 0x6264 ++ u16_bytes (length cell_offsets) ++ u32_bytes list → Grows x y → Grows y z → Listing list cell_offsets encoding x y → Puts to leads y z → DataAt to encoding x z
big_at list to cell_offsets encoding leads x y z many count spelled g h s p =
    let count_is : length s.segments ≡ length cell_offsets = sym (length-map s.segments (λ (t : Segment). t.at)) ∙ ap length s.at in
    record {
      own = to ∷ list ∷ cell_offsets;
      near = let near : to < nil_offset = p.near in omega arith;
      adds = adds_ahead x y z (list ∷ cell_offsets) (to ∷ []) g h s.adds p.adds;
      lies = inr (record {
        many = many;
        list = list;
        segments = s.segments;
        near_list = s.near_list;
        is = ap (λ ps. to ∷ list ∷ ps) (sym s.at);
        its = sym s.its;
        full = s.full;
        count = omega (arith, count_is);
        are = subst AreOffsets (sym s.at) s.near;
        leads = subst (CellHolds z to) (spelled ∙ ap (λ n. u16_bytes 0x6264 ++ u16_bytes n ++ u32_bytes list) (sym count_is)) p.holds;
        listing = subst (λ ps. CellHolds z list (offsets_bytes ps)) (sym s.at) (holds_grown y z list (offsets_bytes cell_offsets) h s.listing);
        held = all_as (IsSegment y) (IsSegment z) s.segments (λ a held. holds_grown y z a.at a.encoding h held) s.held;
      });
    }

-- data in segments, with their list and the record that leads to it
pub in_big : (a b c d : List ℕ) (cell_offsets encoding : List ℕ) (list to : ℕ) (leads : List ℕ) → 16_344 < length encoding → length encoding < 2 ^ 29 → 16_344 * length cell_offsets < length encoding + 16_344 → leads ≡ u16_bytes 0x6264 ++ u16_bytes (length cell_offsets) ++ u32_bytes list →
    Makes a b (InSegments AreFull cell_offsets encoding) → Makes b c (Puts list (offsets_bytes cell_offsets)) → Makes c d (Puts to leads) → Makes a d (DataAt to encoding)
in_big a b c d cell_offsets encoding list to leads many few count spelled m n o =
    made_then a c d (Listing list cell_offsets encoding) (Puts to leads) (DataAt to encoding)
    (made_then a b c (InSegments AreFull cell_offsets encoding) (Puts list (offsets_bytes cell_offsets)) (Listing list cell_offsets encoding) m n (λ x y z g h s p. listed list cell_offsets encoding x y z g h s p)) o
    (λ x y z g h s p. big_at list to cell_offsets encoding leads x y z many (omega arith) spelled g h s p)

-- the segment at an index, and the last one
pub full_piece : (encoding : List ℕ) (i : ℕ) → take (16_344 * i) encoding ++ slice_range encoding (i * 16_344) (i * 16_344 + 16_344) ≡ take (16_344 * (i + 1)) encoding
full_piece encoding i =
    let from : i * 16_344 ≡ 16_344 * i = omega arith in
    let size : i * 16_344 + 16_344 - i * 16_344 ≡ 16_344 = omega arith in
    let sum : 16_344 * (i + 1) ≡ 16_344 * i + 16_344 = omega arith in
    ap (λ n. take (16_344 * i) encoding ++ take n (drop (i * 16_344) encoding)) size ∙ ap (λ n. take (16_344 * i) encoding ++ take 16_344 (drop n encoding)) from ∙ sym (ap (λ n. take n encoding) sum ∙ take-add (16_344 * i) 16_344 encoding)

pub last_piece : (encoding : List ℕ) (i from : ℕ) → from ≡ 16_344 * i → take (16_344 * i) encoding ++ take (length encoding - from) (drop from encoding) ≡ encoding
last_piece encoding i from e =
    ap (λ xs. take (16_344 * i) encoding ++ xs) (take_all (length encoding - from) (drop from encoding) (omega (arith, length-drop from encoding)))
    ∙ ap (λ n. take (16_344 * i) encoding ++ drop n encoding) e ∙ take-append-drop (16_344 * i) encoding
