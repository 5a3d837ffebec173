-- Each byte of data that bins and cells tile lies in one tile.
use Rattle.std.proofs.Common.{◌≡◌, ◌≢◌, ℕ, ◌+◌, ◌*◌, ◌%◌, ◌/◌, ◌<◌, ◌≤◌, List, length, refl, sym, ◌∙◌, inl, inr, arith, ap}
use Rattle.std.proofs.lemmas.Bool.{cases_lt, cases_order}
use Rattle.hive_cells.specs.Tiles.{BinStart, CellStart, bin_size, cell_size, Tile, header, cell, IsTile, HoldsByte, LiesInOneTile}
use Rattle.hive_cells.specs.Marks.{Mark, Inside, Bin, Cell, mark_at, IsMarkedTo, IsMarked}
use Rattle.hive_cells.proofs.Reached.{BinSlot, CellSlot, LiesInBin, LiesInCell, bin_reached, cell_reached, bin_over, cell_over}

-- the slot at which a tile begins that has a byte: after it and up to the byte nothing else begins
record Span (marks : List Mark) (i at : ℕ) (kind : Mark) : Type 0 where
  slot : ℕ
  at_is : at ≡ 8 * slot
  kind_is : mark_at marks slot ≡ kind
  some : kind ≢ Inside
  after : 8 * slot ≤ i
  rest : (j : ℕ) → slot < j → 8 * j ≤ i → mark_at marks j ≡ Inside

-- tiles that have one byte begin at one offset
one_start : (marks : List Mark) (i at other : ℕ) (kind other_kind : Mark) → Span marks i at kind → Span marks i other other_kind → (other ≡ at) × (other_kind ≡ kind)
one_start marks i at other kind other_kind a b =
    let at_is : at ≡ 8 * a.slot = a.at_is in
    let other_is : other ≡ 8 * b.slot = b.at_is in
    elim (cases_order a.slot b.slot) [
      | inl same ↦ (omega arith, sym b.kind_is ∙ ap (mark_at marks) (sym same) ∙ a.kind_is)
      | inr apart ↦ elim apart [
        | inl lower ↦ absurd (b.some (sym b.kind_is ∙ a.rest b.slot lower b.after))
        | inr higher ↦ absurd (a.some (sym a.kind_is ∙ b.rest a.slot higher a.after))
      ]
    ]

module _ (bytes : List ℕ) (marks : List Mark) (m : IsMarkedTo bytes marks (length bytes)) where
  header_span : (at i : ℕ) → BinStart bytes at → (at ≤ i) × (i < at + 32) → Span marks i at Bin
  header_span at i start holds =
      let s : BinSlot bytes marks at = bin_reached bytes marks m start in
      let at_is : at ≡ 8 * s.slot = s.at_is in
      let low : at ≤ i = holds.0 in
      let high : i < at + 32 = holds.1 in
      record {
        slot = s.slot;
        at_is = s.at_is;
        kind_is = s.is_bin;
        some = λ no. cc;
        after = omega arith;
        rest = λ j later within. (m.bins s.slot s.is_bin).header j later (omega arith);
      }

  cell_span : (end at i : ℕ) → CellStart bytes end at → (at ≤ i) × (i < at + cell_size bytes at) → Span marks i at Cell
  cell_span end at i start holds =
      let s : CellSlot bytes marks end at = cell_reached bytes marks m start in
      let at_is : at ≡ 8 * s.slot = s.at_is in
      let size : cell_size bytes at ≡ cell_size bytes (8 * s.slot) = ap (cell_size bytes) s.at_is in
      let low : at ≤ i = holds.0 in
      let high : i < at + cell_size bytes at = holds.1 in
      record {
        slot = s.slot;
        at_is = s.at_is;
        kind_is = s.is_cell;
        some = λ no. cc;
        after = omega arith;
        rest = λ j later within. (m.cells s.slot s.is_cell).inside j later (omega arith);
      }

  only_header : (at i : ℕ) → BinStart bytes at → (at ≤ i) × (i < at + 32) → (other : Tile) → IsTile bytes other → HoldsByte bytes other i → other ≡ header at
  only_header at i start holds (header b) tile held =
      ap header (one_start marks i at b Bin Bin (header_span at i start holds) (header_span b i tile held)).0
  only_header at i start holds (cell b) tile held =
      absurd (let same : Cell ≡ Bin = (one_start marks i at b Bin Cell (header_span at i start holds) (cell_span tile.0 b i tile.1 held)).1 in let no : ⊥ = cc in no)

  only_cell : (end at i : ℕ) → CellStart bytes end at → (at ≤ i) × (i < at + cell_size bytes at) → (other : Tile) → IsTile bytes other → HoldsByte bytes other i → other ≡ cell at
  only_cell end at i start holds (header b) tile held =
      absurd (let same : Bin ≡ Cell = (one_start marks i at b Cell Bin (cell_span end at i start holds) (header_span b i tile held)).1 in let no : ⊥ = cc in no)
  only_cell end at i start holds (cell b) tile held =
      ap cell (one_start marks i at b Cell Cell (cell_span end at i start holds) (cell_span tile.0 b i tile.1 held)).0

  in_header : (i : ℕ) (w : LiesInBin bytes marks (i / 8)) → i < 8 * w.slot + 32 → LiesInOneTile bytes i
  in_header i w low =
      let after : w.slot ≤ i / 8 = w.after in
      let holds : (8 * w.slot ≤ i) × (i < 8 * w.slot + 32) = (omega arith, low) in
      (header (8 * w.slot), w.start, holds, only_header (8 * w.slot) i w.start holds)

  in_cell : (end i : ℕ) → LiesInCell bytes marks end (i / 8) → LiesInOneTile bytes i
  in_cell end i d =
      let after : d.slot ≤ i / 8 = d.after in
      let before : 8 * (i / 8) < 8 * d.slot + cell_size bytes (8 * d.slot) = d.before in
      let eights : cell_size bytes (8 * d.slot) % 8 ≡ 0 = (m.cells d.slot d.is_cell).sound.eights in
      let holds : (8 * d.slot ≤ i) × (i < 8 * d.slot + cell_size bytes (8 * d.slot)) = (omega arith, omega arith) in
      (cell (8 * d.slot), (end, d.start), holds, only_cell end (8 * d.slot) i d.start holds)

-- each byte lies in one tile
pub one_tile : (bytes : List ℕ) (marks : List Mark) → IsMarked bytes marks → (i : ℕ) → i < length bytes → LiesInOneTile bytes i
one_tile bytes marks m i within =
    let w : LiesInBin bytes marks (i / 8) = bin_over bytes marks m.all (i / 8) (omega arith) in
    elim (cases_lt i (8 * w.slot + 32)) [
      | inl low ↦ in_header bytes marks m.all i w low
      | inr high ↦ in_cell bytes marks m.all (8 * w.slot + bin_size bytes (8 * w.slot)) i (cell_over bytes marks m.all (8 * w.slot + bin_size bytes (8 * w.slot)) (i / 8) w refl (omega arith))
    ]
