-- A key's node after its time and what it says of its subkeys were written.
use Rattle.std.proofs.Common.{◌≡◌, ◌⊎◌, inl, inr, ℕ, ◌+◌, ◌*◌, ◌≤◌, List, length, slice_index, ◌∙◌, ap, arith}
use Rattle.hive_cells.specs.Tiles.{u32_at}
use Rattle.hive_records.specs.Numbers.{u64_at}
use Rattle.hive_edit_laws.proofs.CellWrites.{time_over, lists_over, lists_on}
use Rattle.hive_savepoint.specs.Puts.{Overlays}
use Rattle.hive_edit.specs.SubkeyPlaces.{NodeGetsList}
use Rattle.hive_edit.proofs.Words.{same_word}

-- a word that is not written over
pub word_kept : (old new : List ℕ) (from : ℕ) (text : List ℕ) → Overlays old new from text → (at : ℕ) → (at + 4 ≤ from) ⊎ (from + length text ≤ at) → u32_at new at ≡ u32_at old at
word_kept old new from text o at (inl h) = same_word new old at at (o.before at (omega (arith, h))) (o.before (at + 1) (omega (arith, h))) (o.before (at + 2) (omega (arith, h))) (o.before (at + 3) (omega (arith, h)))
word_kept old new from text o at (inr h) = same_word new old at at (o.after at h) (o.after (at + 1) (omega (arith, h))) (o.after (at + 2) (omega (arith, h))) (o.after (at + 3) (omega (arith, h)))

-- a word that is written
pub word_put : (old new : List ℕ) (from : ℕ) (text : List ℕ) → Overlays old new from text → length text ≡ 4 → u32_at new from ≡ u32_at text 0
word_put old new from text o four = same_word new text from 0 (ap (slice_index new) (omega arith) ∙ o.its 0 (omega (arith, four))) (o.its 1 (omega (arith, four))) (o.its 2 (omega (arith, four))) (o.its 3 (omega (arith, four)))

two_words : (xs ys : List ℕ) (a : ℕ) → u32_at xs a ≡ u32_at ys a → u32_at xs (a + 4) ≡ u32_at ys (a + 4) → u64_at xs a ≡ u64_at ys a
unfolding u64_at
two_words xs ys a e f = λ i. e i + 0x1_0000_0000 * f i

pub list_put : (old stamped counted new stamp count_text list_text : List ℕ) (count list moment : ℕ) → Overlays old stamped 4 stamp → Overlays stamped counted 20 count_text → Overlays counted new 28 list_text
    → length stamp ≡ 8 → u64_at stamp 0 ≡ moment → length count_text ≡ 4 → u32_at count_text 0 ≡ count → length list_text ≡ 4 → u32_at list_text 0 ≡ list → NodeGetsList old new count list moment
list_put old stamped counted new stamp count_text list_text count list moment a b c eight is four count_is four_more list_is = record {
  fields = lists_on old counted new
      (lists_on old stamped counted (lists_over old stamped stamp 4 a (inl (omega arith, omega (arith, eight)))) (lists_over stamped counted count_text 20 b (inl (omega arith, omega (arith, four)))))
      (lists_over counted new list_text 28 c (inl (omega arith, omega (arith, four_more))));
  time_is = two_words new stamped 4 (early 4 (omega arith)) (early 8 (omega arith)) ∙ (time_over old stamped stamp moment a eight is).time_is;
  count_is = word_kept counted new 28 list_text c 20 (inl (omega arith)) ∙ word_put stamped counted 20 count_text b four ∙ count_is;
  list_is = word_put counted new 28 list_text c four_more ∙ list_is;
  value_count = late 36 (omega arith);
  value_list = late 40 (omega arith);
}
  where
    early : (at : ℕ) → at + 4 ≤ 20 → u32_at new at ≡ u32_at stamped at
    early at h = word_kept counted new 28 list_text c at (inl (omega (arith, h))) ∙ word_kept stamped counted 20 count_text b at (inl h)

    late : (at : ℕ) → 32 ≤ at → u32_at new at ≡ u32_at old at
    late at h = word_kept counted new 28 list_text c at (inr (omega (arith, h, four_more))) ∙ word_kept stamped counted 20 count_text b at (inr (omega (arith, h, four))) ∙ word_kept old stamped 4 stamp a at (inr (omega (arith, h, eight)))

-- upper bounds are written too
pub list_bounded : (old mid new text : List ℕ) (count list moment : ℕ) → NodeGetsList old mid count list moment → Overlays mid new 52 text → length text ≡ 2 → NodeGetsList old new count list moment
list_bounded old mid new text count list moment g o two = record {
  fields = lists_on old mid new g.fields (lists_over mid new text 52 o (inr (omega arith, omega (arith, two))));
  time_is = two_words new mid 4 (early 4 (omega arith)) (early 8 (omega arith)) ∙ g.time_is;
  count_is = early 20 (omega arith) ∙ g.count_is;
  list_is = early 28 (omega arith) ∙ g.list_is;
  value_count = early 36 (omega arith) ∙ g.value_count;
  value_list = early 40 (omega arith) ∙ g.value_list;
}
  where
    early : (at : ℕ) → at + 4 ≤ 52 → u32_at new at ≡ u32_at mid at
    early at h = word_kept mid new 52 text o at (inl h)
