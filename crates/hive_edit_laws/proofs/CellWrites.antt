-- Bytes that are written into a cell, and what its data are then.
use Rattle.std.proofs.Common.{◌≡◌, ◌≢◌, ◌⊎◌, inl, inr, ℕ, ◌+◌, ◌-◌, ◌*◌, ◌<◌, ◌≤◌, List, length, take, drop, ◌++◌, slice_range, slice_index, sym, ◌∙◌, ap, subst, arith, Some, None, length-take, length-drop}
use Rattle.std.proofs.lemmas.List.{ext_get_or, get_or-drop, get_or-take, get_or_past, take-append-drop}
use Rattle.std.proofs.lemmas.Bool.{cases_lt, cases_eq}
use Rattle.hive_tree_model.specs.Cells.{SameBut}
use Rattle.hive_cells.specs.Tiles.{Tiles, IsCell, IsAllocatedCell, cell_size, cell_data, u32_at}
use Rattle.hive_cells.specs.Bins.{Cells, Shows}
use Rattle.hive_cells.specs.Changes.{OthersStay, StaysAt, Writes, Allocates, Frees, least_size}
use Rattle.hive_records.specs.Numbers.{u64_at}
use Rattle.hive_cells.proofs.Shown.{end_within}
use Rattle.hive_records.proofs.Images.{same_at}
use Rattle.hive_edit_laws.specs.RecordEdits.{NodeTimeChanges, NodeListsChange, ValueFieldsChange}
use Rattle.hive_savepoint.specs.Puts.{HasData, Overlays}
use Rattle.hive_edit_laws.proofs.CellsShown.{shown_here, shown_none}
use Rattle.hive_edit_laws.proofs.SameBytes.{word_moved}

pub cell_end : (bytes : List ℕ) (at : ℕ) → Tiles bytes → IsAllocatedCell bytes at → at + cell_size bytes at ≤ length bytes
cell_end bytes at tiles found =
    let is : IsCell bytes found.0.0 at = tiles.cells found.0.0 at found.0.1 in
    let within : at + cell_size bytes at ≤ found.0.0 = is.within in
    let ends : found.0.0 ≤ length bytes = end_within bytes found.0.0 at found.0.1 in
    omega (arith, within, ends)

least_cell : (bytes : List ℕ) (at : ℕ) → Tiles bytes → IsAllocatedCell bytes at → 8 ≤ cell_size bytes at
least_cell bytes at tiles found = (tiles.cells found.0.0 at found.0.1).least

pub data_long : (bytes : List ℕ) (at : ℕ) → Tiles bytes → IsAllocatedCell bytes at → length (cell_data bytes at) + 4 ≡ cell_size bytes at
data_long bytes at tiles found =
    let ends : at + cell_size bytes at ≤ length bytes = cell_end bytes at tiles found in
    let least : 8 ≤ cell_size bytes at = least_cell bytes at tiles found in
    omega (arith, ends, least, length-take (at + cell_size bytes at - (at + 4)) (drop (at + 4) bytes), length-drop (at + 4) bytes)

-- a byte of a part of a list
pub range_index : (xs : List ℕ) (from to i : ℕ) → from + i < to → slice_index (slice_range xs from to) i ≡ slice_index xs (from + i)
range_index xs from to i h = get_or-take (to - from) (drop from xs) i 0 (omega (arith, h)) ∙ get_or-drop from xs i 0

range_same : (xs ys : List ℕ) (from to i : ℕ) → slice_index ys (from + i) ≡ slice_index xs (from + i) → length ys ≡ length xs → slice_index (slice_range ys from to) i ≡ slice_index (slice_range xs from to) i
range_same xs ys from to i e l = elim (cases_lt (from + i) to) [
  | inl h ↦ range_index ys from to i h ∙ e ∙ sym (range_index xs from to i h)
  | inr h ↦ past ys from to i h ∙ sym (past xs from to i h)
]
  where
    past : (zs : List ℕ) (from to i : ℕ) → to ≤ from + i → slice_index (slice_range zs from to) i ≡ 0
    past zs from to i h = get_or_past (slice_range zs from to) i 0 (let l = length-take (to - from) (drop from zs) in omega (arith, h, l))

-- what a writing makes of a cell's data
pub overlaid : (old new : List ℕ) (at from : ℕ) (source : List ℕ) → Tiles old → HasData old at (from + length source) → Writes old new at (at + 4 + from) (at + 4 + from + length source) → slice_range new (at + 4 + from) (at + 4 + from + length source) ≡ source →
    Overlays (cell_data old at) (cell_data new at) from source
overlaid old new at from source tiles has w is = record {
  len = same_len;
  before = λ i h. step i (w.within.others (at + 4 + i) (inl (omega (arith, h))));
  after = λ i h. step i (w.within.others (at + 4 + i) (inr (omega (arith, h))));
  its = λ i h. range_index new (at + 4) (at + cell_size new at) (from + i) (omega (arith, h, has.1, size))
      ∙ ap (slice_index new) (omega arith)
      ∙ sym (range_index new (at + 4 + from) (at + 4 + from + length source) i (omega (arith, h)))
      ∙ ap (λ (z : List ℕ). slice_index z i) is;
}
  where
    size : cell_size new at ≡ cell_size old at
    size = w.size

    same_len : length (cell_data new at) ≡ length (cell_data old at)
    same_len =
        let a = length-take (at + cell_size new at - (at + 4)) (drop (at + 4) new) in
        let b = length-take (at + cell_size old at - (at + 4)) (drop (at + 4) old) in
        let c = length-drop (at + 4) new in
        let d = length-drop (at + 4) old in
        let l : length new ≡ length old = w.within.len in
        omega (arith, a, b, c, d, l, size)

    step : (i : ℕ) → slice_index new (at + 4 + i) ≡ slice_index old (at + 4 + i) → slice_index (cell_data new at) i ≡ slice_index (cell_data old at) i
    step i e = ap (λ (n : ℕ). slice_index (slice_range new (at + 4) (at + n)) i) size ∙ range_same old new (at + 4) (at + cell_size old at) i e w.within.len

others_same : (old new : List ℕ) (before after : Cells) → Shows old before → Shows new after → (at : ℕ) → OthersStay old new at → SameBut at before after
others_same old new before after shows shown at others cell apart = same_at old new before after shows shown cell (others cell apart)

module _ (old new : List ℕ) (before after : Cells) (shows : Shows old before) (shown : Shows new after) where
  pub after_write : (at from : ℕ) (source : List ℕ) → Tiles old → HasData old at (from + length source) → Writes old new at (at + 4 + from) (at + 4 + from + length source) → slice_range new (at + 4 + from) (at + 4 + from + length source) ≡ source →
      SameBut at before after × (before at ≡ Some (cell_data old at)) × (after at ≡ Some (cell_data new at)) × Overlays (cell_data old at) (cell_data new at) from source
  after_write at from source tiles has w is = (others_same old new before after shows shown at w.others, shown_here old before shows at w.was, shown_here new after shown at w.begins, overlaid old new at from source tiles has w is)

  pub after_alloc : (len offset : ℕ) → Allocates old new len offset → SameBut offset before after × (before offset ≡ None) × (after offset ≡ Some (cell_data new offset))
  after_alloc len offset a = (others_same old new before after shows shown offset a.others, shown_none old before shows offset a.fresh, shown_here new after shown offset a.begins)

  pub after_free : (offset from : ℕ) → Frees old new offset from → SameBut offset before after × (before offset ≡ Some (cell_data old offset)) × (after offset ≡ None)
  after_free offset from f = (others_same old new before after shows shown offset f.others, shown_here old before shows offset f.was, shown_none new after shown offset f.gone)

-- the word of bytes that are written over data
word_over : (old new source : List ℕ) (from n : ℕ) → Overlays old new from source → n + 3 < length source → u32_at new (from + n) ≡ u32_at source n
word_over old new source from n o h = word_moved new source (from + n) n
    (o.its n (omega (arith, h)))
    (ap (slice_index new) (omega arith) ∙ o.its (n + 1) (omega (arith, h)))
    (ap (slice_index new) (omega arith) ∙ o.its (n + 2) (omega (arith, h)))
    (ap (slice_index new) (omega arith) ∙ o.its (n + 3) h)

pub time_over : (old new source : List ℕ) (moment : ℕ) → Overlays old new 4 source → length source ≡ 8 → u64_at source 0 ≡ moment → NodeTimeChanges old new moment
unfolding u64_at
time_over old new source moment o eight is = record {
  len = o.len;
  time_is = (λ i. word_over old new source 4 0 o (omega (arith, eight)) i + 0x1_0000_0000 * word_over old new source 4 4 o (omega (arith, eight)) i) ∙ is;
  before = λ i h. o.before i h;
  between = λ i h g. o.after i (omega (arith, h, eight));
  after = λ i h. o.after i (omega (arith, h, eight));
}

pub bounds_over : (old mid new source : List ℕ) (time from : ℕ) → NodeTimeChanges old mid time → Overlays mid new from source → 52 ≤ from → from + length source ≤ 68 → NodeTimeChanges old new time
unfolding u64_at
bounds_over old mid new source time from t o low high = record {
  len = (let a : length new ≡ length mid = o.len in let b : length mid ≡ length old = t.len in a ∙ b);
  time_is = (λ i. word_stay 4 (omega (arith, low)) i + 0x1_0000_0000 * word_stay 8 (omega (arith, low)) i) ∙ t.time_is;
  before = λ i h. o.before i (omega (arith, h, low)) ∙ t.before i h;
  between = λ i h g. o.before i (omega (arith, g, low)) ∙ t.between i h g;
  after = λ i h. o.after i (omega (arith, h, high)) ∙ t.after i h;
}
  where
    word_stay : (n : ℕ) → n + 3 < from → u32_at new n ≡ u32_at mid n
    word_stay n h = word_moved new mid n n (o.before n (omega (arith, h))) (o.before (n + 1) (omega (arith, h))) (o.before (n + 2) (omega (arith, h))) (o.before (n + 3) h)

pub lists_over : (old new source : List ℕ) (from : ℕ) → Overlays old new from source → ((4 ≤ from) × (from + length source ≤ 44)) ⊎ ((52 ≤ from) × (from + length source ≤ 72)) → NodeListsChange old new
lists_over old new source from o (inl h) = record {
  len = o.len;
  before = λ i g. o.before i (omega (arith, g, h.0));
  cells = λ i low high. o.after i (omega (arith, low, h.1));
  after = λ i g. o.after i (omega (arith, g, h.1));
}
lists_over old new source from o (inr h) = record {
  len = o.len;
  before = λ i g. o.before i (omega (arith, g, h.0));
  cells = λ i low high. o.before i (omega (arith, high, h.0));
  after = λ i g. o.after i (omega (arith, g, h.1));
}

pub lists_on : (old mid new : List ℕ) → NodeListsChange old mid → NodeListsChange mid new → NodeListsChange old new
lists_on old mid new a b = record {
  len = (let f : length mid ≡ length old = a.len in let g : length new ≡ length mid = b.len in g ∙ f);
  before = λ i h. b.before i h ∙ a.before i h;
  cells = λ i h g. b.cells i h g ∙ a.cells i h g;
  after = λ i h. b.after i h ∙ a.after i h;
}

pub fields_over : (old new source : List ℕ) → Overlays old new 4 source → length source ≡ 12 → ValueFieldsChange old new (u32_at source 8) × (u32_at new 4 ≡ u32_at source 0) × (u32_at new 8 ≡ u32_at source 4)
fields_over old new source o twelve = (
  record {
    len = o.len;
    kind_is = word_over old new source 4 8 o (omega (arith, twelve));
    before = λ i h. o.before i h;
    after = λ i h. o.after i (omega (arith, h, twelve));
  },
  word_over old new source 4 0 o (omega (arith, twelve)),
  word_over old new source 4 4 o (omega (arith, twelve)),
)

pub small_over : (old new source its : List ℕ) → Overlays old new 4 source → length source ≡ 12 → 20 ≤ length old → length its ≤ 4 → ((i : ℕ) → i < length its → slice_index source (4 + i) ≡ slice_index its i) → slice_range new 8 (8 + length its) ≡ its
small_over old new source its o twelve long few same = ext_get_or 0 (slice_range new 8 (8 + length its)) its same_len (λ i h.
    range_index new 8 (8 + length its) i (omega (arith, (let l : i < length its = subst (λ (n : ℕ). i < n) same_len h in l)))
    ∙ ap (slice_index new) (omega arith)
    ∙ o.its (4 + i) (let l : i < length its = subst (λ (n : ℕ). i < n) same_len h in omega (arith, l, few, twelve))
    ∙ same i (subst (λ (n : ℕ). i < n) same_len h))
  where
    same_len : length (slice_range new 8 (8 + length its)) ≡ length its
    same_len =
        let a = length-take (8 + length its - 8) (drop 8 new) in
        let b = length-drop 8 new in
        let l : length new ≡ length old = o.len in
        omega (arith, a, b, l, long, few)

-- data that begin with bytes which are written over them
pub begins_over : (old new source : List ℕ) → Overlays old new 0 source → length source ≤ length old → new ≡ source ++ drop (length source) new
begins_over old new source o few = sym (take-append-drop (length source) new) ∙ ap (λ (z : List ℕ). z ++ drop (length source) new) front
  where
    long : length (take (length source) new) ≡ length source
    long = let a = length-take (length source) new in let l : length new ≡ length old = o.len in omega (arith, a, l, few)

    front : take (length source) new ≡ source
    front = ext_get_or 0 (take (length source) new) source long (λ i h. let less : i < length source = subst (λ (n : ℕ). i < n) long h in get_or-take (length source) new i 0 less ∙ ap (slice_index new) (omega arith) ∙ o.its i less)

-- room in cells
room_stays : (old new : List ℕ) (cell len : ℕ) → StaysAt old new cell → HasData old cell len → HasData new cell len
room_stays old new cell len s has = (s.same.1 has.0, (let e : cell_size new cell ≡ cell_size old cell = s.size has.0 in omega (arith, has.1, e)))

pub room_written : (old new : List ℕ) (at from to cell len : ℕ) → Writes old new at from to → HasData old cell len → HasData new cell len
room_written old new at from to cell len w has = elim (cases_eq cell at) [
  | inl e ↦ subst (λ (n : ℕ). HasData new n len) (sym e) (w.begins, (let h : 4 + len ≤ cell_size old at = subst (λ (n : ℕ). 4 + len ≤ cell_size old n) e has.1 in let s : cell_size new at ≡ cell_size old at = w.size in omega (arith, h, s)))
  | inr n ↦ room_stays old new cell len (w.others cell n) has
]

pub room_allocated : (old new : List ℕ) (size offset cell len : ℕ) → Allocates old new size offset → HasData old cell len → HasData new cell len
room_allocated old new size offset cell len a has = elim (cases_eq cell offset) [
  | inl e ↦ absurd (a.fresh (subst (IsAllocatedCell old) e has.0))
  | inr n ↦ room_stays old new cell len (a.others cell n) has
]

pub room_new : (old new : List ℕ) (len offset : ℕ) → Allocates old new len offset → HasData new offset len
room_new old new len offset a = (a.begins, (let least : least_size len ≤ cell_size new offset = a.least in omega (arith, least)))

pub room_freed : (old new : List ℕ) (offset from cell len : ℕ) → Frees old new offset from → cell ≢ offset → HasData old cell len → HasData new cell len
room_freed old new offset from cell len f apart has = room_stays old new cell len (f.others cell apart) has

pub room_of : (bytes : List ℕ) (at len : ℕ) → Tiles bytes → IsAllocatedCell bytes at → len ≤ length (cell_data bytes at) → HasData bytes at len
room_of bytes at len tiles is long = (is, (let e = data_long bytes at tiles is in omega (arith, e, long)))
