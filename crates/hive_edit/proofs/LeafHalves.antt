-- A leaf in two halves, and a key's list that has the same subkeys before it gets one more.
use Rattle.std.proofs.Common.{◌≡◌, ◌≢◌, ◌⊎◌, inl, inr, ℕ, suc, ◌+◌, ◌-◌, ◌*◌, ◌<◌, ◌≤◌, List, [], ◌∷◌, ◌++◌, length, replicate, take, drop, slice_index, slice_range, is_some, Option, None, Some, IsSome, refl, sym, ap, subst, ◌∙◌, arith}
use Rattle.std.proofs.Math.Nat.{mul-sub}
use Rattle.std.proofs.lemmas.Bool.Decides.{eqb_tells}
use Rattle.std.proofs.lemmas.List.{length-append, length-take, length-drop, get_or-take, get_or_append_left, get_or-append-add}
use Rattle.hive_tree_model.specs.Lists.{IsIn}
use Rattle.hive_cells.specs.Tiles.{Tiles, cell_data}
use Rattle.hive_cells.specs.Bins.{Cells}
use Rattle.hive_records.specs.Numbers.{u16_at, words_from}
use Rattle.hive_records.specs.Fields.{Gives}
use Rattle.hive_records.specs.Lists.{subkeys_at}
use Rattle.hive_records.specs.Heads.{stride_of}
use Rattle.hive_edit_laws.specs.Found.{IsLeaf}
use Rattle.hive_edit_laws.proofs.CellsShown.{shown_here}
use Rattle.hive_edit_laws.proofs.CellWrites.{range_index}
use Rattle.hive_edit_laws.proofs.KeyPlaces.{none_there}
use Rattle.hive_edit_laws.proofs.LeafBytes.{leaf_like, words_cut, words_copied}
use Rattle.hive_edit_laws.proofs.SameBytes.{half_same}
use Rattle.hive_savepoint.specs.Puts.{Overlays, ChangesCell, AddsCell}
use Rattle.hive_edit.specs.SubkeyPlaces.{IsShapeOf, ListGrown, GrowsList}
use Rattle.hive_edit.specs.LeafChanges.{HasBack, AreHalves, HalvesLeaf, ListKept, KeepsList}
use Rattle.hive_edit.specs.declared.key_lists.KeyList.{KeyList}
use Rattle.hive_edit.specs.declared.leaf_edit.LeafShape.{LeafShape}
use Rattle.hive_edit.proofs.LeafWrites.{same_half}
use Rattle.hive_edit.proofs.LeafInserts.{index_within, front_same}

-- whether a number is in a list
is_listed : (x : ℕ) (xs : List ℕ) → IsIn x xs ⊎ (IsIn x xs → ⊥)
is_listed x [] = inr (λ i. i)
is_listed x (y ∷ ys) = elim (eqb_tells x y) [
  | inl k ↦ inl (inl k.1)
  | inr k ↦ elim (is_listed x ys) [ inl i ↦ inl (inr i) | inr out ↦ inr (λ j. elim j [ inl e ↦ k.1 e | inr i ↦ out i ]) ]
]

-- a list that stays in its cells
pub kept_same : (bytes : List ℕ) (list : KeyList) → KeepsList bytes bytes list list.at
kept_same bytes list before shows own lent its h once = (before, shows, record { own_now = own; lent_now = lent; reads = h; once = once; takes = λ cell i. inl i; stays = λ cell there out. refl })

-- a list that has the same subkeys, and then one more
pub kept_then_grown : (bytes mid new_bytes : List ℕ) (list next : KeyList) (subkey made : ℕ) → next.count ≡ list.count → KeepsList bytes mid list next.at → GrowsList mid new_bytes next subkey made → GrowsList bytes new_bytes list subkey made
kept_then_grown bytes mid new_bytes list next subkey made same keeps grows before shows own lent its h once =
    let k = keeps before shows own lent its h once in
    let g = grows k.0 k.1 k.2.own_now k.2.lent_now its (subst (λ (n : ℕ). Gives (subkeys_at n next.at) k.0 k.2.own_now k.2.lent_now its) (sym same) k.2.reads) k.2.once in
    (g.0, g.1, both before k.0 g.0 own its k.2 g.2)
  where
    both : (before half after : Cells) (own its : List ℕ) (k : ListKept before half list.count next.at own its) → ListGrown half after next.count next.at made subkey k.own_now its → ListGrown before after list.count list.at made subkey own its
    both before half after own its k g = record {
      subkeys = g.subkeys;
      more = g.more;
      own_now = g.own_now;
      reads = subst (λ (n : ℕ). Gives (subkeys_at (suc n) made) after g.own_now [] g.subkeys) same g.reads;
      once = g.once;
      takes = λ cell i. elim (g.takes cell i) [
        | inl j ↦ k.takes cell j
        | inr none ↦ elim (is_listed cell own) [
          | inl j ↦ inl j
          | inr out ↦ inr (was_none cell none out (before cell) refl)
        ]
      ];
      stays = λ cell there out.
          let half_same : half cell ≡ before cell = k.stays cell there out in
          g.stays cell (subst (λ (o : Option (List ℕ)). IsSome o) (sym half_same) there) (λ j. elim (k.takes cell j) [ inl i ↦ out i | inr none ↦ none_there (before cell) there none ]) ∙ half_same;
    }
      where
        was_none : (cell : ℕ) → half cell ≡ None → (IsIn cell own → ⊥) → (o : Option (List ℕ)) → before cell ≡ o → before cell ≡ None
        was_none cell none out None e = e
        was_none cell none out (Some its) e = absurd (none_there (half cell) (subst (λ (o : Option (List ℕ)). IsSome o) (sym (k.stays cell (ap is_some e) out)) (ap is_some e)) none)

-- ---- a leaf in two halves

halves_cut : (half count : ℕ) → half ≤ count → count ≡ half + (count - half)
halves_cut half count most = omega (arith, most)

-- by the bytes of both
are_halves : (old front back : List ℕ) (stride count half : ℕ) → stride ≡ stride_of old → count ≡ u16_at old 2 → half ≤ count → 4 ≤ stride → IsLeaf old
    → u16_at front 0 ≡ u16_at old 0 → u16_at front 2 ≡ half → length front ≡ length old → ((j : ℕ) → 4 ≤ j → slice_index front j ≡ slice_index old j)
    → u16_at back 0 ≡ u16_at old 0 → u16_at back 2 ≡ count - half → 4 + stride * (count - half) ≤ length back → ((j : ℕ) → j < stride * (count - half) → slice_index back (4 + j) ≡ slice_index old (4 + stride * half + j)) → AreHalves old front back
are_halves old front back stride count half stride_is count_is most wide is front_letters front_count front_len front_same back_letters back_count back_len back_same =
    let f = leaf_like old front is front_letters half front_count (subst (λ (k : ℕ). 4 + k * half ≤ length front) stride_is (front_long stride count half (length front) (length old) (index_within stride count half most) front_len old_long)) in
    let b = leaf_like old back is back_letters (count - half) back_count (subst (λ (k : ℕ). 4 + k * (count - half) ≤ length back) stride_is back_len) in
    record {
      first_is = f.0;
      second_is = b.0;
      words = (λ i. words_from old 4 (sym stride_is i) (sym count_is i))
          ∙ ap (words_from old 4 stride) (halves_cut half count most)
          ∙ words_cut old 4 stride half (count - half)
          ∙ (λ i. front_words i ++ back_words i)
          ∙ (λ i. (ap (λ (k : ℕ). words_from front 4 k half) stride_is ∙ sym f.1) i ++ (ap (λ (k : ℕ). words_from back 4 k (count - half)) stride_is ∙ sym b.1) i);
    }
  where
    old_long : 4 + stride * count ≤ length old
    old_long = subst (λ (n : ℕ). 4 + stride * n ≤ length old) (sym count_is) (subst (λ (k : ℕ). 4 + k * u16_at old 2 ≤ length old) (sym stride_is) is.1)

    front_long : (stride count half len old_len : ℕ) → stride * half ≤ stride * count → len ≡ old_len → 4 + stride * count ≤ old_len → 4 + stride * half ≤ len
    front_long stride count half len old_len less same long = omega (arith, less, same, long)

    front_words : words_from old 4 stride half ≡ words_from front 4 stride half
    front_words = sym (words_copied old front 4 4 stride half wide (λ j l. front_same (4 + j) (omega arith)))

    back_words : words_from old (4 + stride * half) stride (count - half) ≡ words_from back 4 stride (count - half)
    back_words = sym (words_copied old back (4 + stride * half) 4 stride (count - half) wide back_same)

-- the text of the new leaf
pub back_is : (old head counts elements text : List ℕ) (stride count half : ℕ) → head ≡ take 2 old → length counts ≡ 2 → u16_at counts 0 ≡ count - half → elements ≡ slice_range old (4 + stride * half) (4 + stride * count) → 4 + stride * count ≤ length old → half ≤ count → text ≡ (head ++ counts) ++ elements → HasBack old text stride count half
back_is old head counts elements text stride count half head_is two counts_is elements_are long most text_is = record {
  letters = half_same old text 0 (early 0 (omega arith)) (early 1 (omega arith));
  count_is = same_half text counts 2 0 (counted 0 (omega arith)) (counted 1 (omega arith)) ∙ counts_is;
  len = ap length text_is ∙ length-append (head ++ counts) elements ∙ all (length (head ++ counts)) (length elements) four elements_long_is;
  elements = λ j l. at_text (4 + j) ∙ ap (slice_index ((head ++ counts) ++ elements)) (spot j) ∙ get_or-append-add (head ++ counts) elements j 0 ∙ ap (λ (z : List ℕ). slice_index z j) elements_are ∙ range_index old (4 + stride * half) (4 + stride * count) j (omega (arith, l, size, less));
}
  where
    size : stride * (count - half) ≡ stride * count - stride * half
    size = mul-sub stride count half

    less : stride * half ≤ stride * count
    less = index_within stride count half most

    head_long : length head ≡ 2
    head_long = ap length head_is ∙ (let t = length-take 2 old in omega (arith, t, long))

    four : length (head ++ counts) ≡ 4
    four = length-append head counts ∙ (let h : length head ≡ 2 = head_long in omega (arith, h, two))

    elements_long_is : length elements ≡ stride * count - stride * half
    elements_long_is = ap length elements_are ∙ (let t = length-take (4 + stride * count - (4 + stride * half)) (drop (4 + stride * half) old) in let d = length-drop (4 + stride * half) old in let l : stride * half ≤ stride * count = less in omega (arith, t, d, l, long))

    all : (a b : ℕ) → a ≡ 4 → b ≡ stride * count - stride * half → a + b ≡ 4 + stride * (count - half)
    all a b e f = omega (arith, e, f, size)

    at_text : (j : ℕ) → slice_index text j ≡ slice_index ((head ++ counts) ++ elements) j
    at_text j = ap (λ (z : List ℕ). slice_index z j) text_is

    spot : (j : ℕ) → 4 + j ≡ length (head ++ counts) + j
    spot j = let f : length (head ++ counts) ≡ 4 = four in omega (arith, f)

    front : (j : ℕ) → j < 4 → slice_index text j ≡ slice_index (head ++ counts) j
    front j l = at_text j ∙ get_or_append_left (head ++ counts) elements 0 j (let f : length (head ++ counts) ≡ 4 = four in omega (arith, f, l))

    early : (j : ℕ) → j < 2 → slice_index text j ≡ slice_index old j
    early j l = front j (omega (arith, l)) ∙ get_or_append_left head counts 0 j (let h : length head ≡ 2 = head_long in omega (arith, h, l)) ∙ ap (λ (z : List ℕ). slice_index z j) head_is ∙ get_or-take 2 old j 0 l

    counted : (j : ℕ) → j < 2 → slice_index text (2 + j) ≡ slice_index counts j
    counted j l = front (2 + j) (omega (arith, l)) ∙ ap (slice_index (head ++ counts)) (let h : length head ≡ 2 = head_long in omega (arith, h)) ∙ get_or-append-add head counts j 0

-- the new leaf was added, and the old one's count was written
pub halved : (bytes mid new_bytes : List ℕ) (leaf second : ℕ) (shape : LeafShape) (half : ℕ) (text count_text : List ℕ) → Tiles bytes → IsShapeOf bytes leaf shape → half ≤ shape.count → HasBack (cell_data bytes leaf) text shape.stride shape.count half → AddsCell bytes mid second text
    → ChangesCell mid new_bytes leaf (λ its now. Overlays its now 2 count_text) → length count_text ≡ 2 → u16_at count_text 0 ≡ half → HalvesLeaf bytes new_bytes leaf second
halved bytes mid new_bytes leaf second shape half text count_text tiles shaped most back adds put two is before shows =
    let a = adds.cells before shows in
    let here : before leaf ≡ Some (cell_data bytes leaf) = shown_here bytes before shows leaf shaped.long.0 in
    let apart : leaf ≢ second = λ e. none_there (before leaf) (ap is_some here) (ap before e ∙ a.0) in
    let s = put.cells a.1 a.2 in
    let d = s.3 (cell_data bytes leaf) (a.3 leaf apart ∙ here) in (
      a.0,
      s.0,
      s.1,
      (λ cell not_leaf not_second. s.2 cell not_leaf ∙ a.3 cell not_second),
      d.0,
      d.1,
      text ++ replicate a.4 0,
      s.2 second (λ e. apart (sym e)) ∙ a.5,
      (λ leaf_is. parts d.0 a.4 d.2 leaf_is),
    )
  where
    old : List ℕ
    old = cell_data bytes leaf

    parts : (front : List ℕ) (zeros : ℕ) → Overlays old front 2 count_text → IsLeaf old → AreHalves old front (text ++ replicate zeros 0)
    parts front zeros o leaf_is =
        let same : (j : ℕ) → j < 4 + shape.stride * (shape.count - half) → slice_index (text ++ replicate zeros 0) j ≡ slice_index text j = front_same text (replicate zeros 0) (4 + shape.stride * (shape.count - half)) (let l = back.len in omega (arith, l)) in
        are_halves old front (text ++ replicate zeros 0) shape.stride shape.count half shaped.stride_is shaped.count_is most shaped.wide leaf_is
        (half_same old front 0 (o.before 0 (omega arith)) (o.before 1 (omega arith)))
        (put_half front o)
        o.len (λ j low. o.after j (omega (arith, low, two)))
        (half_same text (text ++ replicate zeros 0) 0 (same 0 (omega arith)) (same 1 (omega arith)) ∙ back.letters)
        (half_same text (text ++ replicate zeros 0) 2 (same 2 (omega arith)) (same 3 (omega arith)) ∙ back.count_is)
        (let l = length-append text (replicate zeros 0) in let m = back.len in omega (arith, l, m))
        (λ j l. same (4 + j) (omega (arith, l)) ∙ back.elements j l)
      where
        put_half : (front : List ℕ) → Overlays old front 2 count_text → u16_at front 2 ≡ half
        put_half front o = same_half front count_text 2 0 (o.its 0 (omega (arith, two))) (o.its 1 (omega (arith, two))) ∙ is
