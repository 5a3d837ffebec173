-- Inserted data are read by a record that says where they are.
use Rattle.std.proofs.Common.{◌≡◌, inl, inr, ℕ, ◌<◌, ◌≤◌, true, false, List, [], ◌∷◌, length, refl, sym, subst, ◌∙◌, arith}
use Rattle.std.specs.List.{AllByRecursion}
use Rattle.reg_tree_parts.specs.declared.value.Value.{Value}
use Rattle.hive_tree_model.specs.Lists.{IsIn}
use Rattle.hive_tree_model.specs.Cells.{Grows}
use Rattle.hive_cells.specs.Tiles.{u32_at}
use Rattle.hive_cells.specs.Bins.{Cells}
use Rattle.hive_records.specs.Fields.{Gives}
use Rattle.hive_records.specs.Values.{big_data, data_of, value_at}
use Rattle.hive_records.specs.BigDataEncodings.{Segment, big_data_bytes, segment_offsets}
use Rattle.hive_records.specs.ListEncodings.{offsets_bytes}
use Rattle.hive_records.specs.ValueEncodings.{ValueIsEncodable, large_value}
use Rattle.hive_records.proofs.BigAgain.{big_given, big_again}
use Rattle.hive_records.proofs.ValuesAgain.{large_again}
use Rattle.hive_edit_laws.proofs.CellWrites.{fields_over}
use Rattle.hive_edit_laws.proofs.ValueRecords.{in_cell, in_segments}
use Rattle.hive_emit.specs.Values.{IsSegment, InCell, InBig, DataAt}
use Rattle.hive_emit.proofs.Makings.{grows_on, holds_grown, adds_ahead, all_as}
use Rattle.hive_savepoint.specs.Puts.{AddsCell}
use Rattle.hive_edit.specs.DataInserts.{Inserts}
use Rattle.hive_edit.specs.DataPlaces.{IsAtOffset, ReadsData, PutsData}
use Rattle.hive_edit.specs.ValueRecords.{AddsRecord}
use Rattle.hive_edit.specs.declared.value_data.NewData.{NewData}
use Rattle.hive_edit.proofs.DataInserts.{HasText, cell_inserted}
use Rattle.hive_edit.proofs.Words.{same_word}

-- segments stay where their cells do
held_on : (now later : Cells) (segments : List Segment) → ((cell : ℕ) → IsIn cell (segment_offsets segments) → later cell ≡ now cell) → AllByRecursion (IsSegment now) segments → AllByRecursion (IsSegment later) segments
held_on now later [] same held = tt
held_on now later (s ∷ segments) same held = (((held.0).0, same s.at (inl refl) ∙ (held.0).1), held_on now later segments (λ cell i. same cell (inr i)) held.1)

module _ (before after later : Cells) (to : ℕ) (text : List ℕ) (d : DataAt to text before after) (some : 0 < length text) (few : length text ≤ 1_048_576) (same : (cell : ℕ) → IsIn cell d.own → later cell ≡ after cell)
    (fields : List ℕ) (size_is : u32_at fields 4 ≡ length text) (offset_is : u32_at fields 8 ≡ to) where
  pub data_reads : Gives (data_of true (u32_at fields 4) fields) later d.own [] text
  data_reads = elim d.lies [ inl c ↦ by_cell c | inr b ↦ by_db b ]
    where
      by_cell : InCell to text d.own after → Gives (data_of true (u32_at fields 4) fields) later d.own [] text
      by_cell c = subst (λ (o : List ℕ). Gives (data_of true (u32_at fields 4) fields) later o [] text) (sym c.is)
          (in_cell true later fields text (c.held).0 to size_is offset_is some (omega (arith, few)) (λ _. c.few) (same to (subst (IsIn to) (sym c.is) (inl refl)) ∙ (c.held).1))

      by_db : InBig to text d.own after → Gives (data_of true (u32_at fields 4) fields) later d.own [] text
      by_db b =
          let all : List ℕ = to ∷ b.list ∷ segment_offsets b.segments in
          let kept : (cell : ℕ) → IsIn cell all → later cell ≡ after cell = λ cell i. same cell (subst (IsIn cell) (sym b.is) i) in
          in_segments later fields d.own text size_is b.many (omega (arith, few))
          (subst (λ (n : ℕ). Gives (big_data (length text) n) later d.own [] text) (sym offset_is)
          (subst (λ (o : List ℕ). Gives (big_data (length text) to) later o [] text) (sym b.is)
          (subst (λ (t : List ℕ). Gives (big_data (length t) to) later all [] t) (sym b.its)
          (big_given later to b.list b.segments (b.leads).0 (b.listing).0 b.full b.count b.near_list b.are (kept to (inl refl) ∙ (b.leads).1) (kept b.list (inr (inl refl)) ∙ (b.listing).1)
          (held_on after later b.segments (λ cell i. kept cell (inr (inr i))) b.held)))))

-- new data in cells that were none
pub data_put : (old_bytes new_bytes : List ℕ) (at : ℕ) (old text : List ℕ) (new : NewData) → Inserts old_bytes new_bytes (DataAt at text) → IsAtOffset text at new → new.in_place ≡ false → 0 < length text → length text ≤ 1_048_576 → PutsData old_bytes new_bytes old text new
data_put old_bytes new_bytes at old text new inserts is place some few before shows =
    let s = inserts before shows in
    let d : DataAt at text before s.0 = s.3 in (
      s.0,
      s.1,
      record {
        own = d.own;
        once = (d.adds).once;
        takes = λ cell i. inr ((d.adds).fresh cell i);
        in_place = λ e. absurd (case_of new.in_place place e);
        moved = λ e cell i. (d.adds).fresh cell i;
        stays = λ cell there apart. s.2 cell there;
        reads = reads_by before s.0 d;
      },
    )
  where
    case_of : (b : _) → b ≡ false → b ≡ true → ⊥
    case_of b e f = grind (arith, e, f)

    reads_by : (x y : Cells) (d : DataAt at text x y) → ReadsData y d.own new text
    reads_by x y d later kind was now same long put =
        let t = put.0 in
        let f = fields_over was now t put.2 (put.1).len in
        data_reads x y later at text d some few same now (f.1 ∙ (put.1).size ∙ is.size)
        (f.2 ∙ same_word t new.field 4 0 ((put.1).field 0 (omega arith)) ((put.1).field 1 (omega arith)) ((put.1).field 2 (omega arith)) ((put.1).field 3 (omega arith)) ∙ is.field)

-- a new value's record after its data
pub large_added : (old mid new : List ℕ) (value : Value) (to at : ℕ) → ValueIsEncodable value → 0 < length value.«data» → length value.«data» ≤ 1_048_576 → Inserts old mid (DataAt to value.«data») → AddsCell mid new at (large_value value to) → AddsRecord old new value at
large_added old mid new value to at fits some few inserts adds before shows =
    let m = inserts before shows in
    let s = cell_inserted mid new at (large_value value to) adds m.0 m.1 in
    let d : DataAt to value.«data» before m.0 = m.3 in
    let all = adds_ahead before m.0 s.0 d.own (at ∷ []) m.2 s.2 d.adds (s.3).adds in (
      s.0,
      s.1,
      record {
        own = at ∷ d.own;
        once = all.once;
        fresh = all.fresh;
        there = all.there;
        stays = grows_on before m.0 s.0 m.2 s.2;
        reads = reads_by before m.0 s.0 s.2 d s.3;
      },
    )
  where
    reads_by : (x y z : Cells) → Grows y z → (d : DataAt to value.«data» x y) → HasText at (large_value value to) y z → Gives (value_at true at) z (at ∷ d.own) [] value
    reads_by x y z h d p = elim d.lies [
      | inl c ↦ subst (λ (o : List ℕ). Gives (value_at true at) z (at ∷ o) [] value) (sym c.is) (large_again true z at to value fits some (omega (arith, few)) (λ _. c.few) d.near p.holds (holds_grown y z to value.«data» h c.held))
      | inr b ↦ subst (λ (o : List ℕ). Gives (value_at true at) z (at ∷ o) [] value) (sym b.is)
          (big_again z at to b.list value b.segments fits b.many (omega (arith, few)) d.near b.near_list b.its b.full b.count b.are p.holds
          (holds_grown y z to (big_data_bytes b.segments b.list) h b.leads) (holds_grown y z b.list (offsets_bytes (segment_offsets b.segments)) h b.listing)
          (all_as (IsSegment y) (IsSegment z) b.segments (λ a held. holds_grown y z a.at a.encoding h held) b.held))
    ]
