-- A key's node, written: the count of its values, their list, and its time.
use Rattle.std.proofs.Common.{◌≡◌, inl, inr, ℕ, ◌+◌, ◌*◌, ◌<◌, ◌≤◌, List, length, slice_index, ap, ◌∙◌, arith}
use Rattle.hive_cells.specs.Tiles.{u32_at}
use Rattle.hive_records.specs.Numbers.{u64_at}
use Rattle.hive_edit_laws.proofs.CellWrites.{time_over, lists_over, lists_on}
use Rattle.hive_edit_laws.proofs.SameBytes.{word_moved, word_same}
use Rattle.hive_savepoint.specs.Puts.{Overlays, ChangesCell}
use Rattle.hive_edit.specs.ValueLists.{ValuesArePut}

-- words before, after and in a text that is
pub word_before : (old new : List ℕ) (from : ℕ) (text : List ℕ) (n : ℕ) → Overlays old new from text → n + 3 < from → u32_at new n ≡ u32_at old n
word_before old new from text n o h = word_same old new n (o.before n (omega (arith, h))) (o.before (n + 1) (omega (arith, h))) (o.before (n + 2) (omega (arith, h))) (o.before (n + 3) h)

pub word_behind : (old new : List ℕ) (from : ℕ) (text : List ℕ) (n : ℕ) → Overlays old new from text → from + length text ≤ n → u32_at new n ≡ u32_at old n
word_behind old new from text n o h = word_same old new n (o.after n h) (o.after (n + 1) (omega (arith, h))) (o.after (n + 2) (omega (arith, h))) (o.after (n + 3) (omega (arith, h)))

pub word_put : (old new : List ℕ) (from : ℕ) (text : List ℕ) → Overlays old new from text → length text ≡ 4 → u32_at new from ≡ u32_at text 0
word_put old new from text o four = word_moved new text from 0
    (ap (slice_index new) (omega arith) ∙ o.its 0 (omega (arith, four)))
    (o.its 1 (omega (arith, four))) (o.its 2 (omega (arith, four))) (o.its 3 (omega (arith, four)))

-- count, list and time were written one after another
pub values_put : (old first then new counted listed stamp : List ℕ) (count list moment : ℕ) → Overlays old first 36 counted → Overlays first then 40 listed → Overlays then new 4 stamp →
    length counted ≡ 4 → u32_at counted 0 ≡ count → length listed ≡ 4 → u32_at listed 0 ≡ list → length stamp ≡ 8 → u64_at stamp 0 ≡ moment → ValuesArePut count list moment old new
values_put old first then new counted listed stamp count list moment a b c a4 a_is b4 b_is c8 c_is = record {
  fields = lists_on old then new
      (lists_on old first then (lists_over old first counted 36 a (inl (omega arith, omega (arith, a4)))) (lists_over first then listed 40 b (inl (omega arith, omega (arith, b4)))))
      (lists_over then new stamp 4 c (inl (omega arith, omega (arith, c8))));
  time_is = (time_over then new stamp moment c c8 c_is).time_is;
  subkey_count = word_behind then new 4 stamp 20 c (omega (arith, c8)) ∙ word_before first then 40 listed 20 b (omega arith) ∙ word_before old first 36 counted 20 a (omega arith);
  subkeys = word_behind then new 4 stamp 28 c (omega (arith, c8)) ∙ word_before first then 40 listed 28 b (omega arith) ∙ word_before old first 36 counted 28 a (omega arith);
  count_is = word_behind then new 4 stamp 36 c (omega (arith, c8)) ∙ word_before first then 40 listed 36 b (omega arith) ∙ word_put old first 36 counted a a4 ∙ a_is;
  list_is = word_behind then new 4 stamp 40 c (omega (arith, c8)) ∙ word_put first then 40 listed b b4 ∙ b_is;
}

-- the same of images
pub node_put : (old first then new counted listed stamp : List ℕ) (key count list moment : ℕ) → ChangesCell old first key (λ its now. Overlays its now 36 counted) → ChangesCell first then key (λ its now. Overlays its now 40 listed) → ChangesCell then new key (λ its now. Overlays its now 4 stamp) →
    length counted ≡ 4 → u32_at counted 0 ≡ count → length listed ≡ 4 → u32_at listed 0 ≡ list → length stamp ≡ 8 → u64_at stamp 0 ≡ moment → ChangesCell old new key (ValuesArePut count list moment)
node_put old first then new counted listed stamp key count list moment a b c a4 a_is b4 b_is c8 c_is = record {
  cells = λ before shows.
      let s = a.cells before shows in
      let t = b.cells s.0 s.1 in
      let u = c.cells t.0 t.1 in (
        u.0,
        u.1,
        (λ cell apart. u.2 cell apart ∙ t.2 cell apart ∙ s.2 cell apart),
        (λ its here.
            let d = s.3 its here in
            let e = t.3 d.0 d.1 in
            let f = u.3 e.0 e.1 in (f.0, f.1, values_put its d.0 e.0 f.0 counted listed stamp count list moment d.2 e.2 f.2 a4 a_is b4 b_is c8 c_is)),
      );
  sizes = λ cell len has. c.sizes cell len (b.sizes cell len (a.sizes cell len has));
}

-- upper bounds were written after that
pub bounds_put : (old half new text : List ℕ) (count list moment from : ℕ) → ValuesArePut count list moment old half → Overlays half new from text → 52 ≤ from → from + length text ≤ 72 → ValuesArePut count list moment old new
unfolding u64_at
bounds_put old half new text count list moment from v o low high = record {
  fields = lists_on old half new v.fields (lists_over half new text from o (inr (low, high)));
  time_is = (λ i. word_before half new from text 4 o (omega (arith, low)) i + 0x1_0000_0000 * word_before half new from text 8 o (omega (arith, low)) i) ∙ v.time_is;
  subkey_count = word_before half new from text 20 o (omega (arith, low)) ∙ v.subkey_count;
  subkeys = word_before half new from text 28 o (omega (arith, low)) ∙ v.subkeys;
  count_is = word_before half new from text 36 o (omega (arith, low)) ∙ v.count_is;
  list_is = word_before half new from text 40 o (omega (arith, low)) ∙ v.list_is;
}
