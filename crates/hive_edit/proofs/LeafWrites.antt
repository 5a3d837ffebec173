-- A leaf after elements were moved and its count was written.
use Rattle.std.proofs.Common.{◌≡◌, inr, ℕ, suc, ◌+◌, ◌-◌, ◌*◌, ◌<◌, ◌≤◌, List, length, slice_index, ◌∙◌, ap, arith}
use Rattle.std.proofs.Math.Nat.{mul-sub, mul-add}
use Rattle.hive_cells.specs.Tiles.{u32_at}
use Rattle.hive_records.specs.Numbers.{u16_at}
use Rattle.hive_savepoint.specs.Puts.{Overlays, Moves}
use Rattle.hive_edit.proofs.KeyListWrites.{word_kept, word_put}
use Rattle.hive_edit.specs.SubkeyPlaces.{LeafLoses, LeafGains}

pub same_half : (xs ys : List ℕ) (a b : ℕ) → slice_index xs a ≡ slice_index ys b → slice_index xs (a + 1) ≡ slice_index ys (b + 1) → u16_at xs a ≡ u16_at ys b
unfolding u16_at
same_half xs ys a b e f = λ i. e i + 0x100 * f i

pub leaf_lost : (old moved new text : List ℕ) (stride count index : ℕ) → Moves old moved (4 + stride * index + stride) (4 + stride * index) (stride * (count - index)) → Overlays moved new 2 text → 4 ≤ stride → index ≤ count → length text ≡ 2 → u16_at text 0 ≡ count → LeafLoses old new stride count index
leaf_lost old moved new text stride count index m o wide most two is = record {
  len = o.len ∙ m.same_length;
  letters = same_half new old 0 0 (o.before 0 (omega arith) ∙ m.before 0 (omega arith)) (o.before 1 (omega arith) ∙ m.before 1 (omega arith));
  count_is = same_half new text 2 0 (o.its 0 (omega (arith, two))) (o.its 1 (omega (arith, two))) ∙ is;
  shifts = record {
    wide = wide;
    before = λ j low high. o.after j (omega (arith, low, two)) ∙ m.before j high;
    after = λ j low high. o.after j (omega (arith, low, two)) ∙ ap (slice_index moved) (back j low) ∙ m.its (j - (4 + stride * index)) (less j low high) ∙ ap (slice_index old) (spot j low);
  };
}
  where
    sizes : stride * (count - index) ≡ stride * count - stride * index
    sizes = mul-sub stride count index

    back : (j : ℕ) → 4 + stride * index ≤ j → j ≡ 4 + stride * index + (j - (4 + stride * index))
    back j low = omega (arith, low)

    spot : (j : ℕ) → 4 + stride * index ≤ j → 4 + stride * index + stride + (j - (4 + stride * index)) ≡ j + stride
    spot j low = omega (arith, low)

    less : (j : ℕ) → 4 + stride * index ≤ j → j < 4 + stride * count → j - (4 + stride * index) < stride * (count - index)
    less j low high = omega (arith, low, high, sizes)

-- the gap gets a hint and then an offset, which is before it or
pub leaf_gained : (old moved hinted placed new hint offset text : List ℕ) (stride count index subkey : ℕ) → Moves old moved (4 + stride * index) (4 + stride * index + stride) (stride * (count - index)) → Overlays moved hinted (4 + stride * index + stride - 4) hint → Overlays hinted placed (4 + stride * index) offset → Overlays placed new 2 text
    → 4 ≤ stride → index ≤ count → length hint ≡ 4 → length offset ≡ 4 → u32_at offset 0 ≡ subkey → length text ≡ 2 → u16_at text 0 ≡ suc count → LeafGains old new stride count index subkey
leaf_gained old moved hinted placed new hint offset text stride count index subkey m h o t wide most four four_more here two is = record {
  len = t.len ∙ o.len ∙ h.len ∙ m.same_length;
  letters = same_half new old 0 0 (first 0 (omega arith)) (first 1 (omega arith));
  count_is = same_half new text 2 0 (t.its 0 (omega (arith, two))) (t.its 1 (omega (arith, two))) ∙ is;
  shifts = record {
    wide = wide;
    before = λ j low high. t.after j (omega (arith, low, two)) ∙ o.before j high ∙ h.before j (omega (arith, high, wide)) ∙ m.before j (omega (arith, high));
    here = word_kept placed new 2 text t (4 + stride * index) (inr (omega (arith, two))) ∙ word_put hinted placed (4 + stride * index) offset o four_more ∙ here;
    after = λ j low high. t.after (j + stride) (omega (arith, low, two)) ∙ o.after (j + stride) (omega (arith, low, wide, four_more)) ∙ h.after (j + stride) (omega (arith, low, wide, four)) ∙ ap (slice_index moved) (back j low) ∙ m.its (j - (4 + stride * index)) (less j low high) ∙ ap (slice_index old) (spot j low);
  };
}
  where
    first : (j : ℕ) → j < 2 → slice_index new j ≡ slice_index old j
    first j l = t.before j l ∙ o.before j (omega (arith, l)) ∙ h.before j (omega (arith, l, wide)) ∙ m.before j (omega (arith, l))

    sizes : stride * (count - index) ≡ stride * count - stride * index
    sizes = mul-sub stride count index

    back : (j : ℕ) → 4 + stride * index ≤ j → j + stride ≡ 4 + stride * index + stride + (j - (4 + stride * index))
    back j low = omega (arith, low)

    spot : (j : ℕ) → 4 + stride * index ≤ j → 4 + stride * index + (j - (4 + stride * index)) ≡ j
    spot j low = omega (arith, low)

    less : (j : ℕ) → 4 + stride * index ≤ j → j < 4 + stride * count → j - (4 + stride * index) < stride * (count - index)
    less j low high = omega (arith, low, high, sizes)

-- an element at an index is within a list with one element more
pub gap_room : (stride count index : ℕ) → index ≤ count → stride * index + stride ≤ stride * (count + 1)
gap_room stride count index most =
    let p : stride * (count + 1) ≡ stride * count + stride * 1 = mul-add stride count 1 in
    let q : stride * (count - index) ≡ stride * count - stride * index = mul-sub stride count index in
    let r : stride * count ≡ stride * index + stride * (count - index) = ap (λ (n : ℕ). stride * n) (omega (arith, most)) ∙ mul-add stride index (count - index) in
    omega (arith, p, r)
