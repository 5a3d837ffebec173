-- What is marked is what is reached from the start of the data.
use Rattle.std.proofs.Common.{◌≡◌, ◌≢◌, ℕ, zero, suc, ◌+◌, ◌*◌, ◌%◌, ◌/◌, ◌<◌, ◌≤◌, List, length, refl, sym, ◌∙◌, subst, inl, inr, arith, ap}
use Rattle.std.specs.Prelude.{◌⊎◌}
use Rattle.std.proofs.lemmas.Bool.{cases_eq, cases_lt}
use Rattle.hive_cells.specs.Tiles.{BinStart, first_bin, next_bin, CellStart, first_cell, next_cell, IsBin, bin_size, IsCell, cell_size, Tiles}
use Rattle.hive_cells.specs.Marks.{Mark, Inside, Bin, Cell, mark_at, BinMarked, CellMarked, IsMarkedTo, IsMarked, IsCellMarkedAt, IsWholeCell}

-- what a mark may be
kinds : (m : Mark) → (m ≡ Inside) ⊎ ((m ≡ Bin) ⊎ (m ≡ Cell))
kinds Inside = inl refl
kinds Bin = inr (inl refl)
kinds Cell = inr (inr refl)

-- the mark of a bin that begins at an offset
pub record BinSlot (bytes : List ℕ) (marks : List Mark) (at : ℕ) : Type 0 where
  pub slot : ℕ
  pub at_is : at ≡ 8 * slot
  pub is_bin : mark_at marks slot ≡ Bin

-- the mark of a cell that begins at an offset, and the mark of its bin
pub record CellSlot (bytes : List ℕ) (marks : List Mark) (end at : ℕ) : Type 0 where
  pub slot : ℕ
  pub bin : ℕ
  pub at_is : at ≡ 8 * slot
  pub is_cell : mark_at marks slot ≡ Cell
  pub is_bin : mark_at marks bin ≡ Bin
  pub behind : bin < slot
  pub ends : end ≡ 8 * bin + bin_size bytes (8 * bin)
  pub before : at < end

-- the bin in whose bytes 8 bytes lie
pub record LiesInBin (bytes : List ℕ) (marks : List Mark) (k : ℕ) : Type 0 where
  pub slot : ℕ
  pub start : BinStart bytes (8 * slot)
  pub is_bin : mark_at marks slot ≡ Bin
  pub after : slot ≤ k
  pub before : 8 * k < 8 * slot + bin_size bytes (8 * slot)

-- the cell in whose bytes 8 bytes lie
pub record LiesInCell (bytes : List ℕ) (marks : List Mark) (end k : ℕ) : Type 0 where
  pub slot : ℕ
  pub start : CellStart bytes end (8 * slot)
  pub is_cell : mark_at marks slot ≡ Cell
  pub after : slot ≤ k
  pub before : 8 * k < 8 * slot + cell_size bytes (8 * slot)

module _ (bytes : List ℕ) (marks : List Mark) (m : IsMarkedTo bytes marks (length bytes)) where
  -- a bin that begins is marked
  pub bin_reached : {at : ℕ} → BinStart bytes at → BinSlot bytes marks at
  bin_reached (first_bin some) = record { slot = 0; at_is = refl; is_bin = m.first some }
  bin_reached (next_bin from at start sound is more) =
      let s : BinSlot bytes marks from = bin_reached start in
      let b : BinMarked bytes marks (length bytes) s.slot = m.bins s.slot s.is_bin in
      let pages : bin_size bytes (8 * s.slot) % 4096 ≡ 0 = b.sound.pages in
      let size : bin_size bytes from ≡ bin_size bytes (8 * s.slot) = ap (bin_size bytes) s.at_is in
      let from_is : from ≡ 8 * s.slot = s.at_is in
      let whole : at ≡ 8 * (at / 8) = omega arith in
      record { slot = at / 8; at_is = whole; is_bin = b.behind (at / 8) (omega arith) (omega arith) }

  -- after a cell and before its bin's end there is a cell
  cell_behind : (j bin : ℕ) → bin < j → mark_at marks bin ≡ Bin → 8 * j < 8 * bin + bin_size bytes (8 * bin) → mark_at marks j ≢ Inside → mark_at marks j ≡ Cell
  cell_behind j bin later is_bin before some = elim (kinds (mark_at marks j)) [
    | inl none ↦ absurd (some none)
    | inr other ↦ elim other [
      | inl bin_mark ↦ absurd ((m.bins bin is_bin).alone j later before bin_mark)
      | inr is_cell ↦ is_cell
    ]
  ]

  -- a cell that begins is marked
  pub cell_reached : {end at : ℕ} → CellStart bytes end at → CellSlot bytes marks end at
  cell_reached {end} (first_cell bin at start sound ends is) =
      let s : BinSlot bytes marks bin = bin_reached start in
      let b : BinMarked bytes marks (length bytes) s.slot = m.bins s.slot s.is_bin in
      let pages : bin_size bytes bin % 4096 ≡ 0 = sound.pages in
      let some : bin_size bytes bin ≢ 0 = sound.not_empty in
      let within : bin + bin_size bytes bin ≤ length bytes = sound.within in
      let bin_is : bin ≡ 8 * s.slot = s.at_is in
      record {
        slot = s.slot + 4;
        bin = s.slot;
        at_is = omega arith;
        is_cell = b.first_cell (omega arith);
        is_bin = s.is_bin;
        behind = omega arith;
        ends = ends ∙ ap (λ (x : ℕ). x + bin_size bytes x) bin_is;
        before = omega arith;
      }
  cell_reached {end} (next_cell from at start sound is before) =
      let s : CellSlot bytes marks end from = cell_reached start in
      let c : CellMarked bytes marks (length bytes) s.slot = m.cells s.slot s.is_cell in
      let b : BinMarked bytes marks (length bytes) s.bin = m.bins s.bin s.is_bin in
      let from_is : from ≡ 8 * s.slot = s.at_is in
      let size : cell_size bytes from ≡ cell_size bytes (8 * s.slot) = ap (cell_size bytes) s.at_is in
      let eights : cell_size bytes from % 8 ≡ 0 = sound.eights in
      let least : 8 ≤ cell_size bytes from = sound.least in
      let ends : end ≡ 8 * s.bin + bin_size bytes (8 * s.bin) = s.ends in
      let within : 8 * s.bin + bin_size bytes (8 * s.bin) ≤ length bytes = b.sound.within in
      let later : s.bin < s.slot = s.behind in
      let whole : at ≡ 8 * (at / 8) = omega arith in
      record {
        slot = at / 8;
        bin = s.bin;
        at_is = whole;
        is_cell = cell_behind (at / 8) s.bin (omega arith) s.is_bin (omega arith) (c.behind (at / 8) (omega arith) (omega arith));
        is_bin = s.is_bin;
        behind = omega arith;
        ends = s.ends;
        before = before;
      }

  -- a cell that begins ends within its bin
  pub cell_sound : {end at : ℕ} → CellStart bytes end at → IsCell bytes end at
  cell_sound {end} {at} start =
      let s : CellSlot bytes marks end at = cell_reached start in
      let c : CellMarked bytes marks (length bytes) s.slot = m.cells s.slot s.is_cell in
      let b : BinMarked bytes marks (length bytes) s.bin = m.bins s.bin s.is_bin in
      let at_is : at ≡ 8 * s.slot = s.at_is in
      let ends : end ≡ 8 * s.bin + bin_size bytes (8 * s.bin) = s.ends in
      let before : at < end = s.before in
      let pages : bin_size bytes (8 * s.bin) % 4096 ≡ 0 = b.sound.pages in
      let all_within : 8 * s.slot + cell_size bytes (8 * s.slot) ≤ length bytes = c.sound.within in
      let within : 8 * s.slot + cell_size bytes (8 * s.slot) ≤ end = elim (cases_lt end (8 * s.slot + cell_size bytes (8 * s.slot))) [
        | inl over ↦ absurd (
            let whole : end ≡ 8 * (end / 8) = omega arith in
            let none : mark_at marks (end / 8) ≡ Inside = c.inside (end / 8) (omega arith) (omega arith) in
            let some : mark_at marks (end / 8) ≡ Bin = b.behind (end / 8) (omega arith) (omega arith) in
            let no : ⊥ = cc in no
            )
        | inr under ↦ under
      ] in
      subst (λ (x : ℕ). IsCell bytes end x) (sym s.at_is) (record { eights = c.sound.eights; least = c.sound.least; within = within })

  -- ---- what is marked begins

  -- from a bin on, the one that 8 bytes lie in
  bin_from : (left k slot : ℕ) → k < slot + left → 8 * k < length bytes → slot ≤ k → BinStart bytes (8 * slot) → mark_at marks slot ≡ Bin → LiesInBin bytes marks k
  bin_from zero k slot near within after start is_bin = absurd (omega arith)
  bin_from (suc left) k slot near within after start is_bin =
      let b : BinMarked bytes marks (length bytes) slot = m.bins slot is_bin in
      let pages : bin_size bytes (8 * slot) % 4096 ≡ 0 = b.sound.pages in
      let some : bin_size bytes (8 * slot) ≢ 0 = b.sound.not_empty in
      elim (cases_lt (8 * k) (8 * slot + bin_size bytes (8 * slot))) [
        | inl here ↦ record { slot = slot; start = start; is_bin = is_bin; after = after; before = here }
        | inr past ↦ (
            let more : ℕ = bin_size bytes (8 * slot) / 8 in
            let behind : 8 * (slot + more) ≡ 8 * slot + bin_size bytes (8 * slot) = omega arith in
            bin_from left k (slot + more) (omega arith) within (omega arith)
            (next_bin (8 * slot) (8 * (slot + more)) start b.sound behind (omega arith))
            (b.behind (slot + more) behind (omega arith))
            )
      ]

  -- each 8 bytes of the data lie in a bin
  pub bin_over : (k : ℕ) → 8 * k < length bytes → LiesInBin bytes marks k
  bin_over k within = bin_from (suc k) k 0 (omega arith) within (omega arith) (first_bin (omega arith)) (m.first (omega arith))

  -- from a cell on, the one that 8 bytes lie in
  cell_from : (left end bin k slot : ℕ) → k < slot + left → mark_at marks bin ≡ Bin → end ≡ 8 * bin + bin_size bytes (8 * bin) → bin < slot → 8 * k < end → slot ≤ k → CellStart bytes end (8 * slot) → mark_at marks slot ≡ Cell → LiesInCell bytes marks end k
  cell_from zero end bin k slot near is_bin ends later within after start is_cell = absurd (omega arith)
  cell_from (suc left) end bin k slot near is_bin ends later within after start is_cell =
      let c : CellMarked bytes marks (length bytes) slot = m.cells slot is_cell in
      let b : BinMarked bytes marks (length bytes) bin = m.bins bin is_bin in
      let eights : cell_size bytes (8 * slot) % 8 ≡ 0 = c.sound.eights in
      let least : 8 ≤ cell_size bytes (8 * slot) = c.sound.least in
      let bin_within : 8 * bin + bin_size bytes (8 * bin) ≤ length bytes = b.sound.within in
      elim (cases_lt (8 * k) (8 * slot + cell_size bytes (8 * slot))) [
        | inl here ↦ record { slot = slot; start = start; is_cell = is_cell; after = after; before = here }
        | inr past ↦ (
            let more : ℕ = cell_size bytes (8 * slot) / 8 in
            let behind : 8 * (slot + more) ≡ 8 * slot + cell_size bytes (8 * slot) = omega arith in
            cell_from left end bin k (slot + more) (omega arith) is_bin ends (omega arith) within (omega arith)
            (next_cell (8 * slot) (8 * (slot + more)) start (cell_sound start) behind (omega arith))
            (cell_behind (slot + more) bin (omega arith) is_bin (omega arith) (c.behind (slot + more) behind (omega arith)))
            )
      ]

  -- each 8 bytes after a bin's header lie in a cell of the bin
  pub cell_over : (end k : ℕ) (w : LiesInBin bytes marks k) → end ≡ 8 * w.slot + bin_size bytes (8 * w.slot) → w.slot + 4 ≤ k → LiesInCell bytes marks end k
  cell_over end k w ends behind_header =
      let b : BinMarked bytes marks (length bytes) w.slot = m.bins w.slot w.is_bin in
      let within : 8 * w.slot + bin_size bytes (8 * w.slot) ≤ length bytes = b.sound.within in
      let before : 8 * k < 8 * w.slot + bin_size bytes (8 * w.slot) = w.before in
      cell_from (suc k) end w.slot k (w.slot + 4) (omega arith) w.is_bin ends (omega arith) (omega arith) behind_header
      (first_cell (8 * w.slot) (8 * (w.slot + 4)) w.start b.sound ends (omega arith))
      (b.first_cell (omega arith))

  -- a cell in whose bytes a cell is marked is that cell
  begins_at : {end : ℕ} (k : ℕ) → mark_at marks k ≡ Cell → LiesInCell bytes marks end k → CellStart bytes end (8 * k)
  begins_at {end} k is_cell d = elim (cases_eq d.slot k) [
    | inl same ↦ subst (λ (x : ℕ). CellStart bytes end (8 * x)) same d.start
    | inr apart ↦ absurd (let inside : mark_at marks k ≡ Inside = (m.cells d.slot d.is_cell).inside k (omega (arith, d.after)) d.before in let no : ⊥ = cc in no)
  ]

  -- a cell that is marked begins in a bin
  pub cell_marked : (k : ℕ) → mark_at marks k ≡ Cell → (end : ℕ) × CellStart bytes end (8 * k)
  cell_marked k is_cell =
      let c : CellMarked bytes marks (length bytes) k = m.cells k is_cell in
      let all_within : 8 * k + cell_size bytes (8 * k) ≤ length bytes = c.sound.within in
      let least : 8 ≤ cell_size bytes (8 * k) = c.sound.least in
      let w : LiesInBin bytes marks k = bin_over k (omega arith) in
      let b : BinMarked bytes marks (length bytes) w.slot = m.bins w.slot w.is_bin in
      let not_header : w.slot + 4 ≤ k = elim (cases_lt k (w.slot + 4)) [
        | inl low ↦ absurd (
            let bin_mark : mark_at marks w.slot ≡ Bin = w.is_bin in
            elim (cases_eq w.slot k) [
              | inl same ↦ (let no : ⊥ = cc in no)
              | inr apart ↦ (let inside : mark_at marks k ≡ Inside = b.header k (omega (arith, w.after)) low in let no : ⊥ = cc in no)
            ]
            )
        | inr high ↦ high
      ] in
      let end : ℕ = 8 * w.slot + bin_size bytes (8 * w.slot) in
      (end, begins_at k is_cell (cell_over end k w refl not_header))

-- bins and cells that are marked tile the data
pub marked_tiles : (bytes : List ℕ) (marks : List Mark) → IsMarked bytes marks → Tiles bytes
marked_tiles bytes marks m =
    record {
      pages = m.pages;
      bins = λ at start. let s : BinSlot bytes marks at = bin_reached bytes marks m.all start in subst (λ (x : ℕ). IsBin bytes x) (sym s.at_is) (m.all.bins s.slot s.is_bin).sound;
      cells = λ end at start. cell_sound bytes marks m.all start;
    }

-- a cell that is marked at an offset begins there
pub starts_at_mark : (bytes : List ℕ) (marks : List Mark) → IsMarked bytes marks → (at : ℕ) → IsCellMarkedAt marks at → (end : ℕ) × CellStart bytes end at
starts_at_mark bytes marks m at w =
    let slot : 8 * (at / 8) ≡ at = omega (arith, w.eights) in
    let found = cell_marked bytes marks m.all (at / 8) w.is_cell in
    (found.0, subst (λ (x : ℕ). CellStart bytes found.0 x) slot found.1)

-- and lies within the data
pub whole_at_mark : (bytes : List ℕ) (marks : List Mark) → IsMarked bytes marks → (at : ℕ) → IsCellMarkedAt marks at → IsWholeCell bytes at
whole_at_mark bytes marks m at w =
    let slot : 8 * (at / 8) ≡ at = omega (arith, w.eights) in
    let c : CellMarked bytes marks (length bytes) (at / 8) = m.all.cells (at / 8) w.is_cell in
    subst (λ (x : ℕ). IsWholeCell bytes x) slot (record { eights = omega arith; least = c.sound.least; within = c.sound.within })

-- a cell that begins at an offset is marked there
pub mark_at_start : (bytes : List ℕ) (marks : List Mark) → IsMarked bytes marks → (end at : ℕ) → CellStart bytes end at → IsCellMarkedAt marks at
mark_at_start bytes marks m end at start =
    let s : CellSlot bytes marks end at = cell_reached bytes marks m.all start in
    let at_is : at ≡ 8 * s.slot = s.at_is in
    let slot : s.slot ≡ at / 8 = omega arith in
    record { eights = omega arith; is_cell = subst (λ (x : ℕ). mark_at marks x ≡ Cell) slot s.is_cell }
