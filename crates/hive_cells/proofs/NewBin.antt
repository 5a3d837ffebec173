-- A bin that is laid after the data.
use Rattle.std.proofs.Common.{eqb, ◌≡◌, ◌≢◌, ℕ, ◌+◌, ◌-◌, ◌*◌, ◌%◌, ◌/◌, ◌<◌, ◌≤◌, true, false, List, ◌++◌, length, refl, sym, ◌∙◌, subst, inl, inr, arith, ap}
use Rattle.std.specs.Prelude.{slice_index, slice_range, slice_set, replicate, ◌⊎◌}
use Rattle.std.proofs.lemmas.List.{length-append, length-replicate, get_or_append_left, get_or-append_right, get_or-replicate, get_or_past}
use Rattle.std.proofs.lemmas.Bool.{cases_eq, cases_lt}
use Rattle.hive_cells.specs.Tiles.{u32_at, BinStart, first_bin, next_bin, IsBin, bin_size, IsCell, cell_size, is_allocated, cell_data, BeginsCell, IsFreeCell}
use Rattle.hive_cells.specs.Marks.{Mark, Inside, Bin, Cell, mark_at, BinMarked, CellMarked, IsMarked, IsBetweenBins, IsCellMarkedAt}
use Rattle.hive_cells.specs.Changes.{AllStay, LaysBin, PutsSize, AddsFreeBin}
use Rattle.hive_cells.specs.Starts.{HasStartBits, AreBounds, Raises, SetsStartBit, SameCell, is_start, is_cell_mark, bound_at}
use Rattle.hive_cells.proofs.Marking.{SetsMark, set_mark, bin_set, cell_set, bin_ended, all_marked}
use Rattle.hive_cells.proofs.Reached.{LiesInBin, bin_over, starts_at_mark, mark_at_start}
use Rattle.hive_cells.proofs.Region.{words_same, size_same, kind_same, range_same}
use Rattle.hive_cells.proofs.Region.{free_was}
use Rattle.std.proofs.lemmas.Nat.Bits.{bit_at-zero}
use Rattle.std.specs.Int.{bit_at}

-- the data and the marks get longer, the marks by none
pub record Grows (bytes bytes' : List ℕ) (marks marks' : List Mark) : Type 0 where
  pub pages : length bytes' % 4096 ≡ 0
  pub longer : length bytes < length bytes'
  pub len : length bytes' ≡ 8 * length marks'
  pub same : (i : ℕ) → i < length bytes → slice_index bytes' i ≡ slice_index bytes i
  pub marks_same : (j : ℕ) → 8 * j < length bytes → mark_at marks' j ≡ mark_at marks j
  pub clear : (j : ℕ) → length bytes ≤ 8 * j → mark_at marks' j ≡ Inside

module _ (bytes bytes' : List ℕ) (marks marks' : List Mark) (m : IsMarked bytes marks) (g : Grows bytes bytes' marks marks') where
  word_again : (at : ℕ) → at + 4 ≤ length bytes → u32_at bytes' at ≡ u32_at bytes at
  word_again at within = words_same bytes bytes' at (λ i after before. g.same i (omega arith))

  -- a bin is one again
  bin_is_again : (at : ℕ) → IsBin bytes at → IsBin bytes' at
  bin_is_again at b =
      let pages : u32_at bytes (at + 8) % 4096 ≡ 0 = b.pages in
      let some : u32_at bytes (at + 8) ≢ 0 = b.not_empty in
      let within : at + u32_at bytes (at + 8) ≤ length bytes = b.within in
      let size : u32_at bytes' (at + 8) ≡ u32_at bytes (at + 8) = word_again (at + 8) (omega arith) in
      let longer : length bytes < length bytes' = g.longer in
      record {
        signature = word_again at (omega arith) ∙ b.signature;
        own_offset = word_again (at + 4) (omega arith) ∙ b.own_offset;
        pages = omega arith;
        not_empty = λ none. some (sym size ∙ none);
        within = omega arith;
      }

  bin_size_again : (at : ℕ) → IsBin bytes at → bin_size bytes' at ≡ bin_size bytes at
  bin_size_again at b =
      let pages : u32_at bytes (at + 8) % 4096 ≡ 0 = b.pages in
      let some : u32_at bytes (at + 8) ≢ 0 = b.not_empty in
      let within : at + u32_at bytes (at + 8) ≤ length bytes = b.within in
      word_again (at + 8) (omega arith)

  -- and begins where it did
  bin_starts_again : {at : ℕ} → BinStart bytes at → BinStart bytes' at
  bin_starts_again (first_bin some) = first_bin (omega (arith, g.longer))
  bin_starts_again (next_bin from at start sound is more) =
      next_bin from at (bin_starts_again start) (bin_is_again from sound) (is ∙ ap (λ (x : ℕ). from + x) (sym (bin_size_again from sound))) (omega (arith, g.longer))

  -- the old end is where the last bin ends
  end_starts : BinStart bytes' (length bytes)
  end_starts = elim (cases_eq (length bytes) 0) [
    | inl none ↦ subst (λ (x : ℕ). BinStart bytes' x) (sym none) (first_bin (omega (arith, g.longer)))
    | inr some ↦ (
        let data_pages : length bytes % 4096 ≡ 0 = m.pages in
        let w : LiesInBin bytes marks (length bytes / 8 - 1) = bin_over bytes marks m.all (length bytes / 8 - 1) (omega arith) in
        let b : BinMarked bytes marks (length bytes) w.slot = m.all.bins w.slot w.is_bin in
        let pages : bin_size bytes (8 * w.slot) % 4096 ≡ 0 = b.sound.pages in
        let within : 8 * w.slot + bin_size bytes (8 * w.slot) ≤ length bytes = b.sound.within in
        let before : 8 * (length bytes / 8 - 1) < 8 * w.slot + bin_size bytes (8 * w.slot) = w.before in
        let size : bin_size bytes' (8 * w.slot) ≡ bin_size bytes (8 * w.slot) = bin_size_again (8 * w.slot) b.sound in
        next_bin (8 * w.slot) (length bytes) (bin_starts_again w.start) (bin_is_again (8 * w.slot) b.sound) (omega arith) g.longer
        )
  ]

  mark_again : (j : ℕ) (kind : Mark) → kind ≢ Inside → mark_at marks' j ≡ kind → (8 * j < length bytes) × (mark_at marks j ≡ kind)
  mark_again j kind some e = elim (cases_lt (8 * j) (length bytes)) [
    | inl low ↦ (low, sym (g.marks_same j low) ∙ e)
    | inr high ↦ absurd (some (sym e ∙ g.clear j high))
  ]

  bin_marked_again : (k : ℕ) → BinMarked bytes marks (length bytes) k → BinMarked bytes' marks' (length bytes) k
  bin_marked_again k b =
      let size : bin_size bytes' (8 * k) ≡ bin_size bytes (8 * k) = bin_size_again (8 * k) b.sound in
      let whole : 8 * k + 32 ≤ length bytes = b.whole in
      let within : 8 * k + bin_size bytes (8 * k) ≤ length bytes = b.sound.within in
      record {
        sound = bin_is_again (8 * k) b.sound;
        whole = b.whole;
        header = λ j after before. g.marks_same j (omega arith) ∙ b.header j after before;
        first_cell = λ before. g.marks_same (k + 4) (omega arith) ∙ b.first_cell before;
        alone = λ j after before is_bin. b.alone j after (omega arith) (sym (g.marks_same j (omega arith)) ∙ is_bin);
        behind = λ j is before. g.marks_same j before ∙ b.behind j (omega arith) before;
      }

  cell_marked_again : (k : ℕ) → 8 * k < length bytes → CellMarked bytes marks (length bytes) k → CellMarked bytes' marks' (length bytes) k
  cell_marked_again k low c =
      let data_pages : length bytes % 4096 ≡ 0 = m.pages in
      let size : cell_size bytes' (8 * k) ≡ cell_size bytes (8 * k) = size_same bytes bytes' (8 * k) (word_again (8 * k) (omega arith)) in
      let eights : cell_size bytes (8 * k) % 8 ≡ 0 = c.sound.eights in
      let least : 8 ≤ cell_size bytes (8 * k) = c.sound.least in
      let within : 8 * k + cell_size bytes (8 * k) ≤ length bytes = c.sound.within in
      record {
        sound = record { eights = omega arith; least = omega arith; within = omega arith };
        inside = λ j after before. g.marks_same j (omega arith) ∙ c.inside j after (omega arith);
        behind = λ j is before none. c.behind j (omega arith) before (sym (g.marks_same j before) ∙ none);
      }

  -- a walk over the longer data is at the old end
  pub walk_again : IsBetweenBins bytes' marks' (length bytes)
  walk_again =
      record {
        data_pages = g.pages;
        pages = m.pages;
        marked = record {
          len = g.len;
          within = omega (arith, g.longer);
          clear = g.clear;
          first = λ some. g.marks_same 0 (omega arith) ∙ m.all.first some;
          bins = λ k is_bin. bin_marked_again k (m.all.bins k (mark_again k Bin (λ no. cc) is_bin).1);
          cells = λ k is_cell. cell_marked_again k (mark_again k Cell (λ no. cc) is_cell).0 (m.all.cells k (mark_again k Cell (λ no. cc) is_cell).1);
        };
        ended = λ k is_bin.
            let b : BinMarked bytes marks (length bytes) k = m.all.bins k (mark_again k Bin (λ no. cc) is_bin).1 in
            let size : bin_size bytes' (8 * k) ≡ bin_size bytes (8 * k) = bin_size_again (8 * k) b.sound in
            let within : 8 * k + bin_size bytes (8 * k) ≤ length bytes = b.sound.within in
            omega arith;
        starts = λ more. end_starts;
      }

-- the bin that is laid after the data
module _ (bytes grown bytes' : List ℕ) (marks marks' : List Mark) (m : IsMarked bytes marks) (g : Grows bytes bytes' marks marks') (l : LaysBin grown bytes' (length bytes)) where
  with_bin : List Mark
  with_bin = slice_set marks' (length bytes / 8) Bin

  with_cell : List Mark
  with_cell = slice_set with_bin ((length bytes + 32) / 8) Cell

  bin_set_here : SetsMark marks' with_bin (length bytes / 8) Bin
  unfolding with_bin
  bin_set_here = set_mark marks' (length bytes / 8) Bin (omega (arith, g.longer, g.len, m.pages))

  cell_set_here : SetsMark with_bin with_cell ((length bytes + 32) / 8) Cell
  unfolding with_cell
  cell_set_here = set_mark with_bin ((length bytes + 32) / 8) Cell (omega (arith, g.longer, g.len, g.pages, m.pages, bin_set_here.len))

  laid_bin : IsBin bytes' (length bytes)
  laid_bin =
      let old_pages : length bytes % 4096 ≡ 0 = m.pages in
      let new_pages : length bytes' % 4096 ≡ 0 = g.pages in
      let longer : length bytes < length bytes' = g.longer in
      let size : length bytes + bin_size bytes' (length bytes) ≡ length bytes' = l.size_is in
      record {
        signature = l.signature;
        own_offset = l.own_offset;
        pages = omega arith;
        not_empty = λ none. omega arith;
        within = omega arith;
      }

  laid_cell : IsCell bytes' (length bytes') (length bytes + 32)
  laid_cell =
      let old_pages : length bytes % 4096 ≡ 0 = m.pages in
      let new_pages : length bytes' % 4096 ≡ 0 = g.pages in
      let longer : length bytes < length bytes' = g.longer in
      let size : length bytes + (32 + cell_size bytes' (length bytes + 32)) ≡ length bytes' = l.cell_is in
      record { eights = omega arith; least = omega arith; within = omega arith }

  -- what is marked tiles again
  laid_marked : IsMarked bytes' with_cell
  unfolding with_bin with_cell
  laid_marked =
      let old_pages : length bytes % 4096 ≡ 0 = m.pages in
      let new_pages : length bytes' % 4096 ≡ 0 = g.pages in
      let longer : length bytes < length bytes' = g.longer in
      let size : length bytes + bin_size bytes' (length bytes) ≡ length bytes' = l.size_is in
      let cell_is : length bytes + (32 + cell_size bytes' (length bytes + 32)) ≡ length bytes' = l.cell_is in
      let header = (bin_set bytes' marks' (length bytes) (length bytes') (walk_again bytes bytes' marks marks' m g) longer laid_bin (sym size)).1 in
      let cell = (cell_set bytes' with_bin (length bytes') (length bytes + 32) (length bytes') header (omega arith) laid_cell (omega arith)).1 in
      all_marked bytes' with_cell (length bytes') (bin_ended bytes' with_cell (length bytes') cell) (omega arith)

  -- the cell of the bin is marked
  laid_cell_marked : IsCellMarkedAt with_cell (length bytes + 32)
  laid_cell_marked =
      let old_pages : length bytes % 4096 ≡ 0 = m.pages in
      record { eights = omega arith; is_cell = cell_set_here.here }

  -- a cell that is marked was marked, but for the new one
  marked_before : (at : ℕ) → IsCellMarkedAt with_cell at → at ≢ length bytes + 32 → (at + 8 ≤ length bytes) × IsCellMarkedAt marks at
  marked_before at w apart =
      let old_pages : length bytes % 4096 ≡ 0 = m.pages in
      let eights : at % 8 ≡ 0 = w.eights in
      let slot : 8 * (at / 8) ≡ at = omega arith in
      let beside : at / 8 ≢ (length bytes + 32) / 8 = omega arith in
      let is_cell : mark_at with_cell (at / 8) ≡ Cell = w.is_cell in
      let not_cell : mark_at with_cell (at / 8) ≡ mark_at with_bin (at / 8) = cell_set_here.others (at / 8) beside in
      elim (cases_eq (at / 8) (length bytes / 8)) [
        | inl same ↦ absurd (let here : mark_at with_bin (length bytes / 8) ≡ Bin = bin_set_here.here in let there : mark_at with_bin (at / 8) ≡ mark_at with_bin (length bytes / 8) = ap (mark_at with_bin) same in let no : ⊥ = cc in no)
        | inr other ↦ (
            let was : mark_at marks' (at / 8) ≡ Cell = sym (bin_set_here.others (at / 8) other) ∙ sym not_cell ∙ is_cell in
            let old = mark_again bytes bytes' marks marks' m g (at / 8) Cell (λ no. cc) was in
            (omega (arith, old.0), record { eights = eights; is_cell = old.1 })
            )
      ]

  -- and a cell that was marked is marked
  marked_again : (at : ℕ) → IsCellMarkedAt marks at → (at + 8 ≤ length bytes) × IsCellMarkedAt with_cell at
  marked_again at w =
      let old_pages : length bytes % 4096 ≡ 0 = m.pages in
      let eights : at % 8 ≡ 0 = w.eights in
      let slot : 8 * (at / 8) ≡ at = omega arith in
      let c : CellMarked bytes marks (length bytes) (at / 8) = m.all.cells (at / 8) w.is_cell in
      let within : 8 * (at / 8) + cell_size bytes (8 * (at / 8)) ≤ length bytes = c.sound.within in
      let least : 8 ≤ cell_size bytes (8 * (at / 8)) = c.sound.least in (
        omega arith,
        record {
          eights = eights;
          is_cell = cell_set_here.others (at / 8) (omega arith) ∙ bin_set_here.others (at / 8) (omega arith) ∙ g.marks_same (at / 8) (omega arith) ∙ w.is_cell;
        },
      )

  kept_data : (at : ℕ) → IsCellMarkedAt marks at → cell_data bytes' at ≡ cell_data bytes at
  kept_data at w =
      let eights : at % 8 ≡ 0 = w.eights in
      let slot : 8 * (at / 8) ≡ at = omega arith in
      let c : CellMarked bytes marks (length bytes) (at / 8) = m.all.cells (at / 8) w.is_cell in
      let within : 8 * (at / 8) + cell_size bytes (8 * (at / 8)) ≤ length bytes = c.sound.within in
      let size_here : cell_size bytes (8 * (at / 8)) ≡ cell_size bytes at = ap (cell_size bytes) slot in
      let size : cell_size bytes' at ≡ cell_size bytes at = size_same bytes bytes' at (word_again bytes bytes' marks marks' m g at (omega (arith, (marked_again at w).0))) in
      ap (slice_range bytes' (at + 4)) (ap (λ (x : ℕ). at + x) size)
      ∙ range_same bytes bytes' (at + 4) (at + cell_size bytes at) (omega (arith, g.longer)) (omega arith) (λ i after before. g.same i (omega arith))

  -- all allocated cells stay
  laid_stay : AllStay bytes bytes'
  laid_stay at =
      record {
        same = (
          λ found.
              let w : IsCellMarkedAt with_cell at = mark_at_start bytes' with_cell laid_marked found.0.0 at found.0.1 in
              elim (cases_eq at (length bytes + 32)) [
                | inl same ↦ absurd (let free : is_allocated bytes' at ≡ false = ap (is_allocated bytes') same ∙ l.is_free in let yes : is_allocated bytes' at ≡ true = found.1 in let no : ⊥ = cc in no)
                | inr apart ↦ (
                    let old = marked_before at w apart in
                    let kind : is_allocated bytes' at ≡ is_allocated bytes at = kind_same bytes bytes' at (word_again bytes bytes' marks marks' m g at (omega (arith, old.0))) in
                    (starts_at_mark bytes marks m at old.1, sym kind ∙ found.1)
                    )
              ],
          λ found.
              let w : IsCellMarkedAt marks at = mark_at_start bytes marks m found.0.0 at found.0.1 in
              let new = marked_again at w in
              let kind : is_allocated bytes' at ≡ is_allocated bytes at = kind_same bytes bytes' at (word_again bytes bytes' marks marks' m g at (omega (arith, new.0))) in
              (starts_at_mark bytes' with_cell laid_marked at new.1, kind ∙ found.1),
        );
        size = λ found. (
            let new = marked_again at (mark_at_start bytes marks m found.0.0 at found.0.1) in
            size_same bytes bytes' at (word_again bytes bytes' marks marks' m g at (omega (arith, new.0)))
            );
        kept = λ found. kept_data at (mark_at_start bytes marks m found.0.0 at found.0.1);
      }

  -- and all other cells are the same
  laid_same : (at : ℕ) → at ≢ length bytes + 32 → SameCell bytes bytes' at
  laid_same at apart =
      record {
        begins = λ found. starts_at_mark bytes' with_cell laid_marked at (marked_again at (mark_at_start bytes marks m found.0 at found.1)).1;
        began = λ found. starts_at_mark bytes marks m at (marked_before at (mark_at_start bytes' with_cell laid_marked found.0 at found.1) apart).1;
        word = λ found. word_again bytes bytes' marks marks' m g at (omega (arith, (marked_again at (mark_at_start bytes marks m found.0 at found.1)).0));
      }

  laid_begins : BeginsCell bytes' (length bytes + 32)
  laid_begins = starts_at_mark bytes' with_cell laid_marked (length bytes + 32) laid_cell_marked

-- no mark is among none
pub inside_marks : (n k : ℕ) → mark_at (replicate n Inside) k ≡ Inside
inside_marks n k = elim (cases_lt k n) [
  | inl within ↦ get_or-replicate n k Inside Inside within
  | inr past ↦ get_or_past (replicate n Inside) k Inside (omega (arith, length-replicate {A = Mark} n Inside))
]

-- ---- the words of the bin

-- only the word at an offset is written
abbrev pub WritesWord : List ℕ → List ℕ → ℕ → Type 0
WritesWord old new at = (i : ℕ) → ((i < at) ⊎ (at + 4 ≤ i)) → slice_index new i ≡ slice_index old i

-- a word before one that is written
word_before : (old new : List ℕ) (at other : ℕ) → WritesWord old new at → other + 4 ≤ at → u32_at new other ≡ u32_at old other
word_before old new at other w low = words_same old new other (λ i after before. w i (inl (omega arith)))

-- the words that are written one after another lay a bin
pub lays : (b0 b1 b2 b3 b4 : List ℕ) (at size : ℕ) → at + size ≡ length b0 → 32 ≤ size → ((i : ℕ) → at ≤ i → slice_index b0 i ≡ 0)
    → u32_at b1 at ≡ 0x6e69_6268 → WritesWord b0 b1 at → length b1 ≡ length b0
    → u32_at b2 (at + 4) ≡ at → WritesWord b1 b2 (at + 4) → length b2 ≡ length b1
    → u32_at b3 (at + 8) ≡ size → WritesWord b2 b3 (at + 8) → length b3 ≡ length b2
    → PutsSize b3 b4 (at + 32) (size - 32) false → LaysBin b0 b4 at
lays b0 b1 b2 b3 b4 at size whole wide zeros e1 w1 n1 e2 w2 n2 e3 w3 n3 p =
    let cell : cell_size b4 (at + 32) ≡ size - 32 = p.size_is in
    let size_is : bin_size b4 at ≡ size = word_before b3 b4 (at + 32) (at + 8) p.others (omega arith) ∙ e3 in
    let len : length b4 ≡ length b3 = p.len in
    record {
      signature = word_before b3 b4 (at + 32) at p.others (omega arith) ∙ word_before b2 b3 (at + 8) at w3 (omega arith) ∙ word_before b1 b2 (at + 4) at w2 (omega arith) ∙ e1;
      own_offset = word_before b3 b4 (at + 32) (at + 4) p.others (omega arith) ∙ word_before b2 b3 (at + 8) (at + 4) w3 (omega arith) ∙ e2;
      size_is = omega arith;
      cell_is = omega arith;
      is_free = p.kind_is;
      zeros = λ i after before. p.others i (inl before) ∙ w3 i (inr (omega arith)) ∙ w2 i (inr (omega arith)) ∙ w1 i (inr (omega arith)) ∙ zeros i (omega arith);
      len = omega arith;
      others = λ i before. p.others i (inl (omega arith)) ∙ w3 i (inl (omega arith)) ∙ w2 i (inl (omega arith)) ∙ w1 i (inl before);
    }

-- ---- the longer data and marks

-- what zeros and no marks after the data are
pub grows : (bytes grown bytes' : List ℕ) (marks marks' : List Mark) (more : ℕ) → IsMarked bytes marks → 0 < more → more % 4096 ≡ 0
    → grown ≡ bytes ++ replicate more 0 → marks' ≡ marks ++ replicate (more / 8) Inside → LaysBin grown bytes' (length bytes) → Grows bytes bytes' marks marks'
grows bytes grown bytes' marks marks' more m some pages bytes_are marks_are l =
    let old_pages : length bytes % 4096 ≡ 0 = m.pages in
    let old_len : length bytes ≡ 8 * length marks = m.all.len in
    let long : length grown ≡ length bytes + more = rw bytes_are (length-append bytes (replicate more 0) ∙ ap (λ (x : ℕ). length bytes + x) (length-replicate {A = ℕ} more 0)) in
    let marks_long : length marks' ≡ length marks + more / 8 = rw marks_are (length-append marks (replicate (more / 8) Inside) ∙ ap (λ (x : ℕ). length marks + x) (length-replicate {A = Mark} (more / 8) Inside)) in
    record {
      pages = omega (arith, l.len);
      longer = omega (arith, l.len);
      len = omega (arith, l.len);
      same = λ i before. l.others i before ∙ rw bytes_are (get_or_append_left bytes (replicate more 0) 0 i before);
      marks_same = λ j before. rw marks_are (get_or_append_left marks (replicate (more / 8) Inside) Inside j (omega arith));
      clear = λ j past. rw marks_are (get_or-append_right marks (replicate (more / 8) Inside) (length marks) j Inside refl (omega arith) ∙ inside_marks (more / 8) (j - length marks));
    }

-- the bits of the longer data
module _ (bytes : List ℕ) (words : List ℕ) (n : ℕ) where
  zeros_behind : (i : ℕ) → length words ≤ i → slice_index (words ++ replicate n 0) i ≡ 0
  zeros_behind i past = get_or-append_right words (replicate n 0) (length words) i 0 refl past ∙ elim (cases_lt (i - length words) n) [
    | inl within ↦ get_or-replicate n (i - length words) 0 0 within
    | inr over ↦ get_or_past (replicate n 0) (i - length words) 0 (omega (arith, length-replicate {A = ℕ} n 0))
  ]

  none_behind : (k : ℕ) → 64 * length words ≤ k → is_start (words ++ replicate n 0) k ≡ false
  none_behind k past = ap (λ (w : ℕ). eqb (bit_at w (k % 64)) 1) (zeros_behind (k / 64) (omega arith)) ∙ ap (λ (b : ℕ). eqb b 1) (bit_at-zero (k % 64))

  starts_before : (k : ℕ) → k < 64 * length words → is_start (words ++ replicate n 0) k ≡ is_start words k
  starts_before k low = ap (λ (w : ℕ). eqb (bit_at w (k % 64)) 1) (get_or_append_left words (replicate n 0) 0 (k / 64) (omega arith))

-- the bin and its free cell are added, with the bits and the bounds
pub bin_added : (bytes grown bytes' words words' bounds bounds' : List ℕ) (more at : ℕ) → at ≡ length bytes → (k : HasStartBits bytes words) → AreBounds bytes bounds → more % 4096 ≡ 0 → 0 < more
    → grown ≡ bytes ++ replicate more 0 → SetsStartBit (words ++ replicate (more / 512) 0) words' ((at + 32) / 8) true → LaysBin grown bytes' at
    → at + more ≤ 4096 * length bounds → Raises bounds bounds' ((at + 32) / 4096) (more - 32)
    → AddsFreeBin bytes bytes' more × HasStartBits bytes' words' × AreBounds bytes' bounds'
unfolding with_bin with_cell
bin_added bytes grown bytes' words words' bounds bounds' more at at_is k b pages some bytes_are put l' enough raised =
    let m : IsMarked bytes k.marks = k.all in
    let l : LaysBin grown bytes' (length bytes) = subst (λ (x : ℕ). LaysBin grown bytes' x) at_is l' in
    let g : Grows bytes bytes' k.marks (k.marks ++ replicate (more / 8) Inside) = grows bytes grown bytes' k.marks (k.marks ++ replicate (more / 8) Inside) more m some pages bytes_are refl l in
    let long : length grown ≡ length bytes + more = rw bytes_are (length-append bytes (replicate more 0) ∙ ap (λ (x : ℕ). length bytes + x) (length-replicate {A = ℕ} more 0)) in
    let len : length bytes' ≡ length grown = l.len in
    let cell_is : length bytes + (32 + cell_size bytes' (length bytes + 32)) ≡ length bytes' = l.cell_is in
    let size_is : length bytes + bin_size bytes' (length bytes) ≡ length bytes' = l.size_is in
    let cell : IsFreeCell bytes' (length bytes + 32) = (laid_begins bytes grown bytes' k.marks (k.marks ++ replicate (more / 8) Inside) m g l, l.is_free) in
    let words_long : length (words ++ replicate (more / 512) 0) ≡ length words + more / 512 = length-append words (replicate (more / 512) 0) ∙ ap (λ (x : ℕ). length words + x) (length-replicate {A = ℕ} (more / 512) 0) in
    let bin : SetsMark (k.marks ++ replicate (more / 8) Inside) (slice_set (k.marks ++ replicate (more / 8) Inside) (length bytes / 8) Bin) (length bytes / 8) Bin = bin_set_here bytes grown bytes' k.marks (k.marks ++ replicate (more / 8) Inside) m g l in
    let set : SetsMark (slice_set (k.marks ++ replicate (more / 8) Inside) (length bytes / 8) Bin) (slice_set (slice_set (k.marks ++ replicate (more / 8) Inside) (length bytes / 8) Bin) ((length bytes + 32) / 8) Cell) ((length bytes + 32) / 8) Cell = cell_set_here bytes grown bytes' k.marks (k.marks ++ replicate (more / 8) Inside) m g l in
    let data_pages : length bytes % 4096 ≡ 0 = m.pages in
    let data_len : length bytes ≡ 512 * length words = k.starts.len in
    let same_starts : (j : ℕ) → is_start words' j ≡ is_cell_mark (mark_at (slice_set (slice_set (k.marks ++ replicate (more / 8) Inside) (length bytes / 8) Bin) ((length bytes + 32) / 8) Cell) j) =
    (λ j. elim (cases_eq j ((length bytes + 32) / 8)) [
      | inl here ↦ ap (is_start words') (here ∙ ap (λ (x : ℕ). (x + 32) / 8) (sym at_is)) ∙ put.here ∙ ap is_cell_mark (sym set.here) ∙ ap (λ (x : ℕ). is_cell_mark (mark_at (slice_set (slice_set (k.marks ++ replicate (more / 8) Inside) (length bytes / 8) Bin) ((length bytes + 32) / 8) Cell) x)) (sym here)
      | inr apart ↦ put.others j (λ e. apart (e ∙ ap (λ (x : ℕ). (x + 32) / 8) at_is)) ∙ elim (cases_eq j (length bytes / 8)) [
        | inl at_bin ↦ none_behind bytes words (more / 512) j (omega arith) ∙ ap is_cell_mark (sym bin.here) ∙ ap (λ (x : ℕ). is_cell_mark (mark_at (slice_set (k.marks ++ replicate (more / 8) Inside) (length bytes / 8) Bin) x)) (sym at_bin) ∙ ap is_cell_mark (sym (set.others j apart))
        | inr beside ↦ elim (cases_lt (8 * j) (length bytes)) [
          | inl low ↦ starts_before bytes words (more / 512) j (omega arith) ∙ k.starts.same j ∙ ap is_cell_mark (sym (g.marks_same j low)) ∙ ap is_cell_mark (sym (bin.others j beside)) ∙ ap is_cell_mark (sym (set.others j apart))
          | inr high ↦ none_behind bytes words (more / 512) j (omega arith) ∙ ap is_cell_mark (sym (g.clear j high)) ∙ ap is_cell_mark (sym (bin.others j beside)) ∙ ap is_cell_mark (sym (set.others j apart))
        ]
      ]
    ]) in (
      record {
        adds = record {
          longer = omega arith;
          bin = laid_bin bytes grown bytes' k.marks (k.marks ++ replicate (more / 8) Inside) m g l;
          size_is = omega arith;
          zeros = l.zeros;
        };
        cell = cell;
        cell_is = omega arith;
        same = g.same;
        stay = laid_stay bytes grown bytes' k.marks (k.marks ++ replicate (more / 8) Inside) m g l;
        cells = laid_same bytes grown bytes' k.marks (k.marks ++ replicate (more / 8) Inside) m g l;
      },
      record {
        marks = slice_set (slice_set (k.marks ++ replicate (more / 8) Inside) (length bytes / 8) Bin) ((length bytes + 32) / 8) Cell;
        all = laid_marked bytes grown bytes' k.marks (k.marks ++ replicate (more / 8) Inside) m g l;
        starts = record { len = omega (arith, put.len); same = same_starts };
      },
      record {
        len = omega (arith, raised.len);
        most = λ other free. elim (cases_eq other (length bytes + 32)) [
          | inl here ↦
              let place : at + 32 ≡ other = omega arith in
              subst (λ (x : ℕ). cell_size bytes' x ≤ bound_at bounds' x) place (omega (arith, raised.here, ap (λ (x : ℕ). cell_size bytes' (x + 32)) at_is))
          | inr apart ↦
              let was = free_was bytes bytes' other (laid_same bytes grown bytes' k.marks (k.marks ++ replicate (more / 8) Inside) m g l other apart) free in
              omega (arith, was.1, b.most other was.0, raised.more (other / 4096))
        ];
      },
    )
