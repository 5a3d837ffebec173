-- Changes of bytes, in terms of cells.
use Rattle.std.proofs.Common.{◌≡◌, ◌≢◌, inl, inr, ℕ, ◌+◌, ◌-◌, ◌<◌, ◌≤◌, ◌^◌, cond, eqb, List, length, drop, slice_range, slice_index, refl, sym, ◌∙◌, ap, subst, arith, Option, Some, None, length-take, length-drop, ◌++◌}
use Rattle.std.specs.Prelude.{replicate}
use Rattle.std.proofs.lemmas.List.{get_or_past}
use Rattle.std.proofs.lemmas.Bool.{cases_eq, cases_lt}
use Rattle.std.proofs.lemmas.Bool.Decides.{eqb_tells}
use Rattle.refusals.specs.declared.limits.TheConstants.{MOST_BINS_BYTES}
use Rattle.hive_cells.specs.Tiles.{Tiles, IsCell, IsAllocatedCell, cell_size, cell_data, is_allocated}
use Rattle.hive_cells.specs.Bins.{Cells, Shows}
use Rattle.hive_cells.proofs.Outcomes.{stays_on}
use Rattle.hive_cells.specs.Changes.{OthersStay, StaysAt, Writes, Allocates, Frees, HasNoRoomFor, least_size}
use Rattle.hive_cells.proofs.Shown.{end_within, put_at, put_here, put_there, ShowsAt, stays_shown, put_shown, none_shown}
use Rattle.hive_savepoint.proofs.Logs.{range_index}
use Rattle.hive_savepoint.specs.Puts.{HasData, Overlays, Moves, ChangesCell, AddsCell, DropsCell}

-- a cell has no more than half of the numbers of 32 bits
pub cell_most : (bytes : List ℕ) (at : ℕ) → IsAllocatedCell bytes at → cell_size bytes at ≤ 2 ^ 31
unfolding cell_size is_allocated
cell_most bytes at found = grind (arith, found.1)

-- a byte of a part in which the byte is the same
range_same : (xs ys : List ℕ) (from to i : ℕ) → slice_index ys (from + i) ≡ slice_index xs (from + i) → length ys ≡ length xs → slice_index (slice_range ys from to) i ≡ slice_index (slice_range xs from to) i
range_same xs ys from to i e l = elim (cases_lt (from + i) to) [
  | inl h ↦ range_index ys from to i h ∙ e ∙ sym (range_index xs from to i h)
  | inr h ↦ past ys from to i h ∙ sym (past xs from to i h)
]
  where
    past : (zs : List ℕ) (from to i : ℕ) → to ≤ from + i → slice_index (slice_range zs from to) i ≡ 0
    past zs from to i h = get_or_past (slice_range zs from to) i 0 (let l = length-take (to - from) (drop from zs) in omega (arith, h, l))

-- bytes of a cell's data that were written
module _ (old new : List ℕ) (at from len : ℕ) (w : Writes old new at (at + 4 + from) (at + 4 + from + len)) where
  size_is : cell_size new at ≡ cell_size old at
  size_is = w.size

  pub same_len : length (cell_data new at) ≡ length (cell_data old at)
  same_len =
      let a = length-take (at + cell_size new at - (at + 4)) (drop (at + 4) new) in
      let b = length-take (at + cell_size old at - (at + 4)) (drop (at + 4) old) in
      let c = length-drop (at + 4) new in
      let d = length-drop (at + 4) old in
      let l : length new ≡ length old = w.within.len in
      omega (arith, a, b, c, d, l, size_is)

  step : (i : ℕ) → slice_index new (at + 4 + i) ≡ slice_index old (at + 4 + i) → slice_index (cell_data new at) i ≡ slice_index (cell_data old at) i
  step i e = ap (λ (n : ℕ). slice_index (slice_range new (at + 4) (at + n)) i) size_is ∙ range_same old new (at + 4) (at + cell_size old at) i e w.within.len

  pub data_before : (i : ℕ) → i < from → slice_index (cell_data new at) i ≡ slice_index (cell_data old at) i
  data_before i h = step i (w.within.others (at + 4 + i) (inl (omega (arith, h))))

  pub data_after : (i : ℕ) → from + len ≤ i → slice_index (cell_data new at) i ≡ slice_index (cell_data old at) i
  data_after i h = step i (w.within.others (at + 4 + i) (inr (omega (arith, h))))

-- a byte of a cell's data
data_index : (bytes : List ℕ) (at i : ℕ) → 4 + i < cell_size bytes at → slice_index (cell_data bytes at) i ≡ slice_index bytes (at + 4 + i)
data_index bytes at i h = range_index bytes (at + 4) (at + cell_size bytes at) i (omega (arith, h))

-- bytes were written
overlaid : (old new : List ℕ) (at from : ℕ) (bytes : List ℕ) → HasData old at (from + length bytes) → Writes old new at (at + 4 + from) (at + 4 + from + length bytes) → slice_range new (at + 4 + from) (at + 4 + from + length bytes) ≡ bytes
    → Overlays (cell_data old at) (cell_data new at) from bytes
overlaid old new at from bytes has w is = record {
  len = same_len old new at from (length bytes) w;
  before = data_before old new at from (length bytes) w;
  after = data_after old new at from (length bytes) w;
  its = λ i h.
      let size : cell_size new at ≡ cell_size old at = w.size in
      data_index new at (from + i) (omega (arith, h, has.1, size))
      ∙ ap (slice_index new) (omega arith)
      ∙ sym (range_index new (at + 4 + from) (at + 4 + from + length bytes) i (omega (arith, h)))
      ∙ ap (λ (z : List ℕ). slice_index z i) is;
}

-- bytes were moved
moved : (old new : List ℕ) (at from to len : ℕ) → HasData old at (from + len) → HasData old at (to + len) → Writes old new at (at + 4 + to) (at + 4 + to + len)
    → ((j : ℕ) → j < len → slice_index new (at + 4 + to + j) ≡ slice_index old (at + 4 + from + j)) → Moves (cell_data old at) (cell_data new at) from to len
moved old new at from to len source target w is = record {
  same_length = same_len old new at to len w;
  before = data_before old new at to len w;
  after = data_after old new at to len w;
  its = λ i h.
      let size : cell_size new at ≡ cell_size old at = w.size in
      data_index new at (to + i) (omega (arith, h, target.1, size))
      ∙ ap (slice_index new) (omega arith)
      ∙ is i h
      ∙ ap (slice_index old) (omega arith)
      ∙ sym (data_index old at (from + i) (omega (arith, h, source.1)));
}

-- ---- changes of cells

some_same : (x its : List ℕ) → Some x ≡ Some its → x ≡ its
some_same x its e = cc

shown_is : (bytes : List ℕ) (at : ℕ) (o : Option (List ℕ)) → ShowsAt bytes at o → (its : List ℕ) → o ≡ Some its → its ≡ cell_data bytes at
shown_is bytes at None h its e = absurd (let bad : ⊥ = cc in bad)
shown_is bytes at (Some x) h its e = sym (some_same x its e) ∙ h.1

-- cells that stay keep their sizes
size_stays : (old new : List ℕ) (cell len : ℕ) → StaysAt old new cell → HasData old cell len → HasData new cell len
size_stays old new cell len s h = (s.same.1 h.0, (let z = s.size h.0 in omega (arith, h.1, z)))

-- one cell has other data
changed_cell : (old new : List ℕ) (at : ℕ) (how : List ℕ → List ℕ → Type 0) → OthersStay old new at → IsAllocatedCell new at → cell_size new at ≡ cell_size old at → how (cell_data old at) (cell_data new at) → ChangesCell old new at how
changed_cell old new at how others begins size is = record {
  cells = λ before shows. (
    put_at before at (cell_data new at),
    put_shown old new at before shows begins others,
    (λ cell apart. put_there before at (cell_data new at) cell apart),
    (λ its here. (cell_data new at, put_here before at (cell_data new at) at refl, subst (λ (z : List ℕ). how z (cell_data new at)) (sym (shown_is old at (before at) (shows at) its here)) is)),
  );
  sizes = λ cell len h. elim (cases_eq cell at) [
    | inl here ↦ (subst (IsAllocatedCell new) (sym here) begins, (let s : cell_size new cell ≡ cell_size old cell = ap (cell_size new) here ∙ size ∙ ap (cell_size old) (sym here) in omega (arith, h.1, s)))
    | inr there ↦ size_stays old new cell len (others cell there) h
  ];
}

pub put_in : (old new : List ℕ) (at from : ℕ) (bytes : List ℕ) → HasData old at (from + length bytes) → Writes old new at (at + 4 + from) (at + 4 + from + length bytes) → slice_range new (at + 4 + from) (at + 4 + from + length bytes) ≡ bytes
    → ChangesCell old new at (λ its now. Overlays its now from bytes)
put_in old new at from bytes has w is = changed_cell old new at (λ its now. Overlays its now from bytes) w.others w.begins w.size (overlaid old new at from bytes has w is)

pub moved_in : (old new : List ℕ) (at from to len : ℕ) → HasData old at (from + len) → HasData old at (to + len) → Writes old new at (at + 4 + to) (at + 4 + to + len)
    → ((j : ℕ) → j < len → slice_index new (at + 4 + to + j) ≡ slice_index old (at + 4 + from + j)) → ChangesCell old new at (λ its now. Moves its now from to len)
moved_in old new at from to len source target w is = changed_cell old new at (λ its now. Moves its now from to len) w.others w.begins w.size (moved old new at from to len source target w is)

-- a cell that was allocated and filled
pub added : (old mid new : List ℕ) (len at : ℕ) (bytes : List ℕ) (zeros : ℕ) → length bytes ≤ len → Allocates old mid len at → Writes mid new at (at + 4) (at + cell_size mid at) → cell_data new at ≡ bytes ++ replicate zeros 0 → AddsCell old new at bytes
added old mid new len at bytes zeros most a w is = record {
  cells = λ before shows. (
    none_shown old at a.fresh (before at) (shows at),
    put_at before at (cell_data new at),
    put_shown old new at before shows w.begins others,
    (λ cell apart. put_there before at (cell_data new at) cell apart),
    zeros,
    put_here before at (cell_data new at) at refl ∙ ap Some is,
  );
  sizes = λ cell n h. size_stays old new cell n (others cell (λ e. a.fresh (subst (IsAllocatedCell old) e h.0))) h;
  own_size = (w.begins, (let least : least_size len ≤ cell_size mid at = a.least in let size : cell_size new at ≡ cell_size mid at = w.size in omega (arith, least, size, most)));
}
  where
    others : OthersStay old new at
    others cell apart = stays_on old mid new cell (a.others cell apart) (w.others cell apart)

-- the cells without one
drop_at : Cells → ℕ → Cells
drop_at before at cell = cond (eqb cell at) None (before cell)

drop_here : (before : Cells) (at cell : ℕ) → cell ≡ at → drop_at before at cell ≡ None
unfolding drop_at
drop_here before at cell e = elim (eqb_tells cell at) [ inl h ↦ ap (λ b. cond b None (before cell)) h.0 | inr h ↦ absurd (h.1 e) ]

drop_there : (before : Cells) (at cell : ℕ) → cell ≢ at → drop_at before at cell ≡ before cell
unfolding drop_at
drop_there before at cell e = elim (eqb_tells cell at) [ inl h ↦ absurd (e h.1) | inr h ↦ ap (λ b. cond b None (before cell)) h.0 ]

drop_shown : (old new : List ℕ) (at : ℕ) (before : Cells) → Shows old before → (¬ IsAllocatedCell new at) → OthersStay old new at → Shows new (drop_at before at)
drop_shown old new at before shows gone others cell = elim (cases_eq cell at) [
  | inl here ↦ subst (ShowsAt new cell) (sym (drop_here before at cell here)) (λ found. gone (subst (IsAllocatedCell new) here found))
  | inr there ↦ subst (ShowsAt new cell) (sym (drop_there before at cell there)) (stays_shown old new cell (others cell there) (before cell) (shows cell))
]

-- a cell that was freed
pub dropped : (old new : List ℕ) (at from : ℕ) → Frees old new at from → DropsCell old new at
dropped old new at from f = record {
  cells = λ before shows. (drop_at before at, drop_shown old new at before shows f.gone f.others, (λ cell apart. drop_there before at cell apart), drop_here before at at refl);
  sizes = λ cell len apart h. size_stays old new cell len (f.others cell apart) h;
}

-- no cell that is longer than the limit has room
pub no_place : (bytes : List ℕ) (len : ℕ) → Tiles bytes → length bytes ≤ MOST_BINS_BYTES → MOST_BINS_BYTES < len → HasNoRoomFor bytes (least_size len)
no_place bytes len tiles limit over = inr (
  (
      λ h.
      let is : IsCell bytes h.1.0.0 h.0 = tiles.cells h.1.0.0 h.0 h.1.0.1 in
      let within : h.0 + cell_size bytes h.0 ≤ h.1.0.0 = is.within in
      let ends : h.1.0.0 ≤ length bytes = end_within bytes h.1.0.0 h.0 h.1.0.1 in
      let fits : least_size len ≤ cell_size bytes h.0 = h.2 in
      omega (arith, within, ends, fits, limit, over)
      ),
  omega (arith, over),
)
