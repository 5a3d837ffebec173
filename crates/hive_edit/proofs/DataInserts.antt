-- New data of a value, inserted in one cell or in segments.
use Rattle.std.proofs.Common.{◌≡◌, inl, inr, ℕ, ◌+◌, ◌*◌, ◌<◌, ◌≤◌, ◌^◌, List, [], ◌∷◌, ◌++◌, length, replicate, is_some, refl, sym, ap, subst, ◌∙◌, arith}
use Rattle.std.specs.List.{AllByRecursion}
use Rattle.std.proofs.lemmas.List.{map-append, length-map}
use Rattle.std.proofs.lemmas.List.Concat.{flat_map_single}
use Rattle.hive_tree_model.specs.Cells.{Grows}
use Rattle.hive_cells.specs.Bins.{Cells}
use Rattle.hive_records.specs.Fields.{CellHolds, u16_bytes, u32_bytes}
use Rattle.hive_records.specs.BigDataEncodings.{Segment, segment_offsets, joined_segments, AreFull}
use Rattle.hive_records.specs.ListEncodings.{offsets_bytes, AreOffsets}
use Rattle.hive_edit_laws.proofs.KeyPlaces.{none_there}
use Rattle.hive_emit.specs.CellWrites.{Adds}
use Rattle.hive_emit.specs.Values.{IsSegment, segment_own, InSegments, DataAt}
use Rattle.hive_emit.proofs.Datas.{AllFull, no_segments}
use Rattle.hive_emit.proofs.Makings.{grows_on, holds_grown, adds_ahead, all_push, all_as, flat_push, lists_more}
use Rattle.hive_savepoint.specs.Puts.{AddsCell}
use Rattle.hive_edit.specs.DataInserts.{Inserts}

-- a new cell has a text
pub record HasText (at : ℕ) (text : List ℕ) (before after : Cells) : Type 0 where
  pub adds : Adds before after (at ∷ [])
  pub holds : CellHolds after at text

pub cell_inserted : (old new : List ℕ) (at : ℕ) (text : List ℕ) → AddsCell old new at text → Inserts old new (HasText at text)
cell_inserted old new at text adds before shows =
    let s = adds.cells before shows in (
      s.1,
      s.2,
      (λ cell is. s.3 cell (λ e. none_there (before cell) is (ap before e ∙ s.0))),
      record {
        adds = record {
          once = ((λ i. i), tt);
          fresh = λ cell i. elim i [ inl e ↦ ap before e ∙ s.0 | inr e ↦ absurd e ];
          there = λ cell i. elim i [ inl e ↦ ap is_some (ap s.1 e ∙ s.5) | inr e ↦ absurd e ];
        };
        holds = (replicate s.4 0, s.5);
      },
    )

pub inserts_then : (a b c : List ℕ) (P Q R : Cells → Cells → Type 0) → Inserts a b P → Inserts b c Q → ((x y z : Cells) → Grows x y → Grows y z → P x y → Q y z → R x z) → Inserts a c R
inserts_then a b c P Q R m n on before shows =
    let x = m before shows in
    let y = n x.0 x.1 in
    (y.0, y.1, grows_on before x.0 y.0 x.2 y.2, on before x.0 y.0 x.2 y.2 x.3 y.3)

-- data in one cell
pub one_cell : (old new : List ℕ) (to : ℕ) (text : List ℕ) → length text ≤ 16_344 → to < 2 ^ 32 → AddsCell old new to text → Inserts old new (DataAt to text)
one_cell old new to text few near adds before shows =
    let s = cell_inserted old new to text adds before shows in
    (s.0, s.1, s.2, record { own = to ∷ []; near = near; adds = (s.3).adds; lies = inl (record { few = few; is = refl; held = (s.3).holds }) })

last_full : (segments : List Segment) (last : Segment) → AllFull segments → 0 < length last.encoding → length last.encoding ≤ 16_344 → AreFull (segments ++ last ∷ [])
last_full [] last all some few = (some, few)
last_full (s ∷ []) last all some few = (all.0, (some, few))
last_full (s ∷ t ∷ rest) last all some few = (all.0, last_full (t ∷ rest) last all.1 some few)

-- no segments yet
pub none_inserted : (bytes : List ℕ) → Inserts bytes bytes (InSegments AllFull [] [])
none_inserted bytes = (no_segments bytes).cells

-- a segment more
segment_more : (Full More : List Segment → Type 0) (offsets text : List ℕ) (at : ℕ) (more : List ℕ) (x y z : Cells) → ((segments : List Segment) → Full segments → More (segments ++ record { at = at; encoding = more } ∷ [])) → at < 2 ^ 32 → Grows x y → Grows y z → InSegments Full offsets text x y → HasText at more y z → InSegments More (offsets ++ at ∷ []) (text ++ more) x z
segment_more Full More offsets text at more x y z on near g h s p = record {
  segments = s.segments ++ record { at = at; encoding = more } ∷ [];
  listed = lists_more IsSegment segment_own s.segments (record { at = at; encoding = more }) x y z (λ a held. holds_grown y z a.at a.encoding h held) g h s.listed p.holds p.adds;
  at = map-append (λ (t : Segment). t.at) s.segments (record { at = at; encoding = more } ∷ []) ∙ ap (λ ps. ps ++ at ∷ []) s.at;
  its = flat_push (λ (t : Segment). t.encoding) s.segments (record { at = at; encoding = more }) ∙ ap (λ ts. ts ++ more) s.its;
  full = on s.segments s.full;
  near = all_push (λ at. at < 2 ^ 32) offsets at s.near near;
}

pub full_inserted : (a b c offsets text : List ℕ) (at : ℕ) (more : List ℕ) → length more ≡ 16_344 → at < 2 ^ 32 → Inserts a b (InSegments AllFull offsets text) → AddsCell b c at more → Inserts a c (InSegments AllFull (offsets ++ at ∷ []) (text ++ more))
full_inserted a b c offsets text at more long near m adds =
    inserts_then a b c (InSegments AllFull offsets text) (HasText at more) (InSegments AllFull (offsets ++ at ∷ []) (text ++ more)) m (cell_inserted b c at more adds)
    (λ x y z g h s p. segment_more AllFull AllFull offsets text at more x y z (λ segments all. all_push (λ (t : Segment). length t.encoding ≡ 16_344) segments (record { at = at; encoding = more }) all long) near g h s p)

pub last_inserted : (a b c offsets text : List ℕ) (at : ℕ) (more : List ℕ) → 0 < length more → length more ≤ 16_344 → at < 2 ^ 32 → Inserts a b (InSegments AllFull offsets text) → AddsCell b c at more → Inserts a c (InSegments AreFull (offsets ++ at ∷ []) (text ++ more))
last_inserted a b c offsets text at more some few near m adds =
    inserts_then a b c (InSegments AllFull offsets text) (HasText at more) (InSegments AreFull (offsets ++ at ∷ []) (text ++ more)) m (cell_inserted b c at more adds)
    (λ x y z g h s p. segment_more AllFull AreFull offsets text at more x y z (λ segments all. last_full segments (record { at = at; encoding = more }) all some few) near g h s p)

-- segments with their list in a cell
record IsListed (list : ℕ) (offsets text : List ℕ) (x z : Cells) : Type 0 where
  segments : List Segment
  at : segment_offsets segments ≡ offsets
  its : joined_segments segments ≡ text
  full : AreFull segments
  near : AreOffsets offsets
  held : AllByRecursion (IsSegment z) segments
  listing : CellHolds z list (offsets_bytes offsets)
  adds : Adds x z (list ∷ offsets)

listed : (list : ℕ) (offsets text : List ℕ) (x y z : Cells) → Grows x y → Grows y z → InSegments AreFull offsets text x y → HasText list (offsets_bytes offsets) y z → IsListed list offsets text x z
listed list offsets text x y z g h s p = record {
  segments = s.segments;
  at = s.at;
  its = s.its;
  full = s.full;
  near = s.near;
  held = all_as (IsSegment y) (IsSegment z) s.segments (λ a held. holds_grown y z a.at a.encoding h held) s.listed.all;
  listing = p.holds;
  adds = adds_ahead x y z offsets (list ∷ []) g h (subst (Adds x y) (flat_map_single (λ (t : Segment). t.at) s.segments ∙ s.at) s.listed.adds) p.adds;
}

abbrev db_bytes : List ℕ → ℕ → List ℕ
db_bytes offsets list = u16_bytes 0x6264 ++ u16_bytes (length offsets) ++ u32_bytes list

db_leads : (list to : ℕ) (offsets text : List ℕ) (x y z : Cells) → 16_344 < length text → length offsets < 2 ^ 16 → list < 2 ^ 32 → to < 2 ^ 32 → Grows x y → Grows y z → IsListed list offsets text x y → HasText to (db_bytes offsets list) y z → DataAt to text x z
db_leads list to offsets text x y z many count near_list near g h s p =
    let count_is : length s.segments ≡ length offsets = sym (length-map s.segments (λ (t : Segment). t.at)) ∙ ap length s.at in
    record {
      own = to ∷ list ∷ offsets;
      near = near;
      adds = adds_ahead x y z (list ∷ offsets) (to ∷ []) g h s.adds p.adds;
      lies = inr (record {
        many = many;
        list = list;
        segments = s.segments;
        near_list = near_list;
        is = ap (λ ps. to ∷ list ∷ ps) (sym s.at);
        its = sym s.its;
        full = s.full;
        count = omega (arith, count_is, count);
        are = subst AreOffsets (sym s.at) s.near;
        leads = subst (CellHolds z to) (ap (λ n. u16_bytes 0x6264 ++ u16_bytes n ++ u32_bytes list) (sym count_is)) p.holds;
        listing = subst (λ ps. CellHolds z list (offsets_bytes ps)) (sym s.at) (holds_grown y z list (offsets_bytes offsets) h s.listing);
        held = all_as (IsSegment y) (IsSegment z) s.segments (λ a held. holds_grown y z a.at a.encoding h held) s.held;
      });
    }

-- data in segments, with their list and the db that leads to it
pub big_inserted : (a b c d : List ℕ) (offsets text : List ℕ) (list to : ℕ) → 16_344 < length text → length text ≤ 1_048_576 → 16_344 * length offsets < length text + 16_344 → list < 2 ^ 32 → to < 2 ^ 32 →
    Inserts a b (InSegments AreFull offsets text) → AddsCell b c list (offsets_bytes offsets) → AddsCell c d to (db_bytes offsets list) → Inserts a d (DataAt to text)
big_inserted a b c d offsets text list to many few count near_list near m n o =
    inserts_then a c d (IsListed list offsets text) (HasText to (db_bytes offsets list)) (DataAt to text)
    (inserts_then a b c (InSegments AreFull offsets text) (HasText list (offsets_bytes offsets)) (IsListed list offsets text) m (cell_inserted b c list (offsets_bytes offsets) n) (λ x y z g h s p. listed list offsets text x y z g h s p))
    (cell_inserted c d to (db_bytes offsets list) o)
    (λ x y z g h s p. db_leads list to offsets text x y z many (omega (arith, few, count)) near_list near g h s p)
