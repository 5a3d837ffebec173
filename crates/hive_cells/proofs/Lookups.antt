-- Cells that are looked up by the bits of where cells begin.
use Rattle.std.proofs.Common.{◌≡◌, ◌≢◌, ℕ, ◌+◌, ◌*◌, ◌/◌, ◌%◌, ◌<◌, ◌≤◌, true, false, List, length, refl, sym, ◌∙◌, subst, inl, inr, arith, ap}
use Rattle.std.proofs.lemmas.Bool.{cases_eq, cases_lt, cases_order}
use Rattle.hive_cells.specs.Tiles.{BeginsCell, IsFreeCell, HasFree, cell_size}
use Rattle.hive_cells.specs.Marks.{Mark, Inside, Bin, Cell, mark_at, CellMarked, IsCellMarkedAt, IsWholeCell}
use Rattle.hive_cells.specs.Starts.{is_start, is_cell_mark, NoStart, IsLastStart, HasStartBits, AreBounds, AllBelow, bound_at}
use Rattle.hive_cells.proofs.Reached.{starts_at_mark}
use Rattle.hive_cells.proofs.CellChanges.{slot_of, cell_within}

cell_mark : (m : Mark) → is_cell_mark m ≡ true → m ≡ Cell
cell_mark Inside e = absurd (let no : ⊥ = cc in no)
cell_mark Bin e = absurd (let no : ⊥ = cc in no)
cell_mark Cell e = refl

-- the free cells from a slot up to another are no longer than a size
abbrev pub MostFrom : List ℕ → ℕ → ℕ → ℕ → Type 0
MostFrom bytes end high most = (at : ℕ) → IsFreeCell bytes at → end ≤ at / 8 → at / 8 < high → cell_size bytes at ≤ most

module _ (bytes words : List ℕ) (k : HasStartBits bytes words) where
  -- a bit that is set is a cell
  pub cell_of_bit : (at : ℕ) → at % 8 ≡ 0 → is_start words (at / 8) ≡ true → BeginsCell bytes at
  cell_of_bit at eights set = starts_at_mark bytes k.marks k.all at (record { eights = eights; is_cell = cell_mark (mark_at k.marks (at / 8)) (sym (k.starts.same (at / 8)) ∙ set) })

  -- a cell is a bit that is set
  pub bit_of_cell : (at : ℕ) → BeginsCell bytes at → (at % 8 ≡ 0) × (is_start words (at / 8) ≡ true)
  bit_of_cell at found =
      let w : IsCellMarkedAt k.marks at = slot_of bytes words k at found in
      (w.eights, k.starts.same (at / 8) ∙ ap is_cell_mark w.is_cell)

  -- no cell begins within a cell
  none_inside : (at slot : ℕ) → BeginsCell bytes at → at < 8 * slot → 8 * slot < at + cell_size bytes at → is_start words slot ≡ false
  none_inside at slot found after before =
      let w : IsCellMarkedAt k.marks at = slot_of bytes words k at found in
      let here : 8 * (at / 8) ≡ at = omega (arith, w.eights) in
      let c : CellMarked bytes k.marks (length bytes) (at / 8) = k.all.all.cells (at / 8) w.is_cell in
      let size : cell_size bytes (8 * (at / 8)) ≡ cell_size bytes at = ap (cell_size bytes) here in
      k.starts.same slot ∙ ap is_cell_mark (c.inside slot (omega arith) (omega arith))

  -- a cell that begins after another one begins after its end
  pub begins_apart : (at other : ℕ) → BeginsCell bytes at → BeginsCell bytes other → at < other → other < at + cell_size bytes at → ⊥
  begins_apart at other found behind after before =
      let b = bit_of_cell other behind in
      let no : is_start words (other / 8) ≡ false = none_inside at (other / 8) found (omega (arith, b.0)) (omega (arith, b.0)) in
      let yes : is_start words (other / 8) ≡ true = b.1 in
      cc

  -- ---- the cell before

  -- if no cell begins before an offset, none ends there
  pub none_ends : (at from : ℕ) → BeginsCell bytes at → NoStart words 0 (at / 8) → BeginsCell bytes from → from + cell_size bytes from ≢ at
  none_ends at from here none found ends =
      let b = bit_of_cell at here in
      let f = bit_of_cell from found in
      let least : 8 ≤ cell_size bytes from = (cell_within bytes words from k found).least in
      let no : is_start words (from / 8) ≡ false = none (from / 8) (omega arith) (omega (arith, b.0, f.0)) in
      let yes : is_start words (from / 8) ≡ true = f.1 in
      cc

  -- the one that ends there is the last that begins before
  pub last_ends : (at slot from : ℕ) → BeginsCell bytes at → IsLastStart words 0 (at / 8) slot → BeginsCell bytes from → from + cell_size bytes from ≡ at → from ≡ 8 * slot
  last_ends at slot from here last found ends =
      let b = bit_of_cell at here in
      let f = bit_of_cell from found in
      let least : 8 ≤ cell_size bytes from = (cell_within bytes words from k found).least in
      let yes : is_start words (from / 8) ≡ true = f.1 in
      elim (cases_order (from / 8) slot) [
        | inl same ↦ omega (arith, f.0)
        | inr apart ↦ elim apart [
          | inl lower ↦ absurd (
              let no : is_start words slot ≡ false = none_inside from slot found (omega (arith, f.0)) (omega (arith, b.0, last.before)) in
              let begins : is_start words slot ≡ true = last.begins in
              let bad : ⊥ = cc in bad
              )
          | inr higher ↦ absurd (
              let no : is_start words (from / 8) ≡ false = last.rest (from / 8) higher (omega (arith, b.0, f.0)) in
              let bad : ⊥ = cc in bad
              )
        ]
      ]

  -- ---- the free cells of a page

  -- the last start of a range, as an offset, is a cell
  pub last_begins : (low high slot : ℕ) → IsLastStart words low high slot → BeginsCell bytes (8 * slot)
  last_begins low high slot last =
      let here : 8 * slot / 8 ≡ slot = omega arith in
      cell_of_bit (8 * slot) (omega arith) (ap (is_start words) here ∙ last.begins)

  -- none begins in a range with no start
  none_begins : (low high at : ℕ) → NoStart words low high → low ≤ at / 8 → at / 8 < high → ¬ BeginsCell bytes at
  none_begins low high at none after before found =
      let no : is_start words (at / 8) ≡ false = none (at / 8) after before in
      let yes : is_start words (at / 8) ≡ true = (bit_of_cell at found).1 in
      cc

  -- one cell more was looked at
  pub most_on : (first end high slot most more : ℕ) → end ≤ high → IsLastStart words first end slot → MostFrom bytes end high most → most ≤ more
      → (IsFreeCell bytes (8 * slot) → cell_size bytes (8 * slot) ≤ more) → MostFrom bytes slot high more
  most_on first end high slot most more within last all grows here at free after before = elim (cases_eq (at / 8) slot) [
    | inl same ↦
        let b = bit_of_cell at free.0 in
        let at_is : 8 * slot ≡ at = omega (arith, b.0) in
        subst (λ (x : ℕ). cell_size bytes x ≤ more) at_is (here (subst (λ (x : ℕ). IsFreeCell bytes x) (sym at_is) free))
    | inr apart ↦ elim (cases_lt (at / 8) end) [
      | inl low ↦ absurd (none_begins (slot + 1) end at (λ j over below. last.rest j (omega arith) below) (omega arith) low free.0)
      | inr high_at ↦ omega (arith, all at free high_at before)
    ]
  ]

  -- all were looked at
  pub most_all : (first end most page at : ℕ) → first ≡ 512 * page → NoStart words first end → MostFrom bytes end (first + 512) most → IsFreeCell bytes at → at / 4096 ≡ page → cell_size bytes at ≤ most
  most_all first end most page at first_is none all free in_page = elim (cases_lt (at / 8) end) [
    | inl low ↦ absurd (none_begins first end at none (omega arith) low free.0)
    | inr high ↦ all at free high (omega arith)
  ]

-- ---- pages

-- if all bounds are below a size no free cell has it
pub none_free : (bytes words bounds : List ℕ) (size from : ℕ) → HasStartBits bytes words → AreBounds bytes bounds → AllBelow bounds 0 from size → AllBelow bounds from (length bytes / 4096) size → ¬ HasFree bytes size
none_free bytes words bounds size from k b low high found =
    let at : ℕ = found.0 in
    let free : IsFreeCell bytes at = found.1 in
    let fits : size ≤ cell_size bytes at = found.2 in
    let w : IsWholeCell bytes at = cell_within bytes words at k free.0 in
    let whole : length bytes % 4096 ≡ 0 = k.all.pages in
    let within : at / 4096 < length bytes / 4096 = omega (arith, w.least, w.within) in
    let bound : cell_size bytes at ≤ bound_at bounds at = b.most at free in
    elim (cases_lt (at / 4096) from) [
      | inl before ↦ omega (arith, low (at / 4096) (omega arith) before)
      | inr after ↦ omega (arith, high (at / 4096) after within)
    ]
