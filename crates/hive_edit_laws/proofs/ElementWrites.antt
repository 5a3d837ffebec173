-- Elements of a list that are shifted by bytes which are written over it.
use Rattle.std.proofs.Common.{◌≡◌, ℕ, ◌<◌, ◌≤◌, ◌+◌, ◌-◌, ◌*◌, List, length, slice_index, sym, ◌∙◌, ap, arith}
use Rattle.std.proofs.Math.Nat.{mul-sub}
use Rattle.hive_cells.specs.Tiles.{u32_at}
use Rattle.hive_savepoint.specs.Puts.{Overlays}
use Rattle.hive_edit_laws.specs.Shifts.{ShiftsIn, ShiftsOut}
use Rattle.hive_edit_laws.proofs.Shifts.{word_like}

pub more_over : (old mid new source : List ℕ) (from stride count index word : ℕ) → 4 ≤ stride → index ≤ count → ((j : ℕ) → from ≤ j → j < from + stride * index → slice_index mid j ≡ slice_index old j) → Overlays mid new (from + stride * index) source → length source ≡ stride + stride * (count - index) → u32_at source 0 ≡ word → ((j : ℕ) → j < stride * (count - index) → slice_index source (stride + j) ≡ slice_index old (from + stride * index + j)) → ShiftsIn old new from stride count index word
more_over old mid new source from stride count index word wide most front o long is tail = record {
  wide = wide;
  before = λ j low high. o.before j high ∙ front j low high;
  here = word_like new source (from + stride * index) 0 (λ k h. o.its k (omega (arith, h, wide, long)) ∙ ap (slice_index source) (omega arith)) ∙ is;
  after = λ j low high. ap (slice_index new) (spot j low) ∙ o.its (stride + (j - (from + stride * index))) (room j low high) ∙ tail (j - (from + stride * index)) (less j low high) ∙ ap (slice_index old) (back j low);
}
  where
    sizes : stride * (count - index) ≡ stride * count - stride * index
    sizes = mul-sub stride count index

    spot : (j : ℕ) → from + stride * index ≤ j → j + stride ≡ from + stride * index + (stride + (j - (from + stride * index)))
    spot j low = omega (arith, low)

    back : (j : ℕ) → from + stride * index ≤ j → from + stride * index + (j - (from + stride * index)) ≡ j
    back j low = omega (arith, low)

    less : (j : ℕ) → from + stride * index ≤ j → j < from + stride * count → j - (from + stride * index) < stride * (count - index)
    less j low high = omega (arith, low, high, sizes)

    room : (j : ℕ) → from + stride * index ≤ j → j < from + stride * count → stride + (j - (from + stride * index)) < length source
    room j low high = (let l = less j low high in omega (arith, l, long))

pub fewer_over : (old mid new source : List ℕ) (from stride count index : ℕ) → 4 ≤ stride → index ≤ count → ((j : ℕ) → from ≤ j → j < from + stride * index → slice_index mid j ≡ slice_index old j) → Overlays mid new (from + stride * index) source → length source ≡ stride * (count - index) → ((j : ℕ) → j < stride * (count - index) → slice_index source j ≡ slice_index old (from + stride * index + stride + j)) → ShiftsOut old new from stride count index
fewer_over old mid new source from stride count index wide most front o long tail = record {
  wide = wide;
  before = λ j low high. o.before j high ∙ front j low high;
  after = λ j low high. ap (slice_index new) (sym (back j low)) ∙ o.its (j - (from + stride * index)) (room j low high) ∙ tail (j - (from + stride * index)) (less j low high) ∙ ap (slice_index old) (spot j low);
}
  where
    sizes : stride * (count - index) ≡ stride * count - stride * index
    sizes = mul-sub stride count index

    spot : (j : ℕ) → from + stride * index ≤ j → from + stride * index + stride + (j - (from + stride * index)) ≡ j + stride
    spot j low = omega (arith, low)

    back : (j : ℕ) → from + stride * index ≤ j → from + stride * index + (j - (from + stride * index)) ≡ j
    back j low = omega (arith, low)

    less : (j : ℕ) → from + stride * index ≤ j → j < from + stride * count → j - (from + stride * index) < stride * (count - index)
    less j low high = omega (arith, low, high, sizes)

    room : (j : ℕ) → from + stride * index ≤ j → j < from + stride * count → j - (from + stride * index) < length source
    room j low high = (let l = less j low high in omega (arith, l, long))

pub more_kept : (old mid new source : List ℕ) (at from stride count index word : ℕ) → ShiftsIn old mid from stride count index word → Overlays mid new at source → at + length source ≤ from → ShiftsIn old new from stride count index word
more_kept old mid new source at from stride count index word s o out = record {
  wide = s.wide;
  before = λ j low high. o.after j (omega (arith, low, out)) ∙ s.before j low high;
  here = word_like new mid (from + stride * index) (from + stride * index) (λ k h. o.after (from + stride * index + k) (omega (arith, out))) ∙ s.here;
  after = λ j low high. o.after (j + stride) (omega (arith, low, out)) ∙ s.after j low high;
}

pub fewer_kept : (old mid new source : List ℕ) (at from stride count index : ℕ) → ShiftsOut old mid from stride count index → Overlays mid new at source → at + length source ≤ from → ShiftsOut old new from stride count index
fewer_kept old mid new source at from stride count index s o out = record {
  wide = s.wide;
  before = λ j low high. o.after j (omega (arith, low, out)) ∙ s.before j low high;
  after = λ j low high. o.after j (omega (arith, low, out)) ∙ s.after j low high;
}
