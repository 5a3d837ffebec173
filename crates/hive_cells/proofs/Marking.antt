-- One bin or one cell more is marked.
use Rattle.std.proofs.Common.{◌≡◌, ◌≢◌, ℕ, ◌+◌, ◌*◌, ◌%◌, ◌/◌, ◌<◌, ◌≤◌, List, length, refl, sym, ◌∙◌, subst, inl, inr, arith, ap}
use Rattle.std.specs.Prelude.{slice_set, replicate}
use Rattle.std.proofs.lemmas.Bool.{cases_eq, cases_lt, cases_order}
use Rattle.std.proofs.lemmas.List.{length-set, length-replicate, get_or-set_same, get_or-set_other, get_or-replicate, get_or_past}
use Rattle.hive_cells.specs.Tiles.{first_bin, next_bin, first_cell, next_cell, IsBin, bin_size, IsCell, cell_size}
use Rattle.hive_cells.specs.Marks.{Mark, Inside, Bin, Cell, mark_at, BinMarked, CellMarked, IsMarkedTo, IsMarked, IsBetweenBins, IsInBin}

-- one mark is set
pub record SetsMark (old new : List Mark) (n : ℕ) (mark : Mark) : Type 0 where
  pub len : length new ≡ length old
  pub here : mark_at new n ≡ mark
  pub others : (j : ℕ) → j ≢ n → mark_at new j ≡ mark_at old j

-- a bin is a page long at least
long_bin : (bytes : List ℕ) (at : ℕ) → IsBin bytes at → 4096 ≤ bin_size bytes at
long_bin bytes at b = omega arith

module _ (bytes : List ℕ) (old new : List Mark) (n : ℕ) where
  -- ---- a cell more

  cell_beside_cell : SetsMark old new n Cell → IsMarkedTo bytes old (8 * n) → (upto : ℕ) → 8 * n ≤ upto → (k : ℕ) → k ≢ n → mark_at new k ≡ Cell → CellMarked bytes new upto k
  cell_beside_cell s m upto more k apart e =
      let c : CellMarked bytes old (8 * n) k = m.cells k (sym (s.others k apart) ∙ e) in
      let ends : 8 * k + cell_size bytes (8 * k) ≤ 8 * n = c.sound.within in
      record {
        sound = record { eights = c.sound.eights; least = c.sound.least; within = omega arith };
        inside = λ j after before. let other : j ≢ n = omega arith in s.others j other ∙ c.inside j after before;
        behind = λ j is before. elim (cases_eq j n) [
          | inl same ↦ (λ no. let here : mark_at new n ≡ Cell = s.here in cc)
          | inr other ↦ (λ no. c.behind j is (omega arith) (sym (s.others j other) ∙ no))
        ];
      }

  cell_itself : SetsMark old new n Cell → IsMarkedTo bytes old (8 * n) → (end : ℕ) → IsCell bytes end (8 * n) → CellMarked bytes new (8 * n + cell_size bytes (8 * n)) n
  cell_itself s m end cell =
      record {
        sound = record { eights = cell.eights; least = cell.least; within = omega arith };
        inside = λ j after before. let other : j ≢ n = omega arith in s.others j other ∙ m.clear j (omega arith);
        behind = λ j is before. absurd (omega arith);
      }

  bin_beside_cell : SetsMark old new n Cell → (end : ℕ) → IsInBin bytes old end (8 * n) → IsCell bytes end (8 * n) → (k : ℕ) → mark_at new k ≡ Bin → BinMarked bytes new (8 * n + cell_size bytes (8 * n)) k
  bin_beside_cell s end w cell k e =
      let here : mark_at new n ≡ Cell = s.here in
      let apart : k ≢ n = (λ same. cc) in
      let is_bin : mark_at old k ≡ Bin = sym (s.others k apart) ∙ e in
      let b : BinMarked bytes old (8 * n) k = w.marked.bins k is_bin in
      let mine : BinMarked bytes old (8 * n) w.bin = w.marked.bins w.bin w.bin_is in
      let whole : 8 * k + 32 ≤ 8 * n = b.whole in
      let fits : 8 * n + cell_size bytes (8 * n) ≤ end = cell.within in
      let ends : end ≡ 8 * w.bin + bin_size bytes (8 * w.bin) = w.ends in
      let behind_header : 8 * w.bin + 32 ≤ 8 * n = w.behind_header in
      record {
        sound = b.sound;
        whole = omega arith;
        header = λ j after before. let other : j ≢ n = omega arith in s.others j other ∙ b.header j after before;
        first_cell = λ before. elim (cases_eq (k + 4) n) [
          | inl same ↦ ap (mark_at new) same ∙ s.here
          | inr other ↦ s.others (k + 4) other ∙ b.first_cell (omega arith)
        ];
        alone = λ j after before. elim (cases_eq j n) [
          | inl same ↦ (λ no. cc)
          | inr other ↦ (λ no. b.alone j after before (sym (s.others j other) ∙ no))
        ];
        behind = λ j is before. elim (cases_order k w.bin) [
          | inl same ↦ absurd (let size : bin_size bytes (8 * k) ≡ bin_size bytes (8 * w.bin) = ap (λ (x : ℕ). bin_size bytes (8 * x)) same in omega arith)
          | inr apart_bins ↦ elim apart_bins [
            | inl lower ↦ (
                let apart_ends : 8 * k + bin_size bytes (8 * k) ≤ 8 * w.bin = elim (cases_order (8 * w.bin) (8 * k + bin_size bytes (8 * k))) [
                  | inl touch ↦ omega arith
                  | inr rest ↦ elim rest [ inl over ↦ absurd (b.alone w.bin lower over w.bin_is) | inr under ↦ omega arith ]
                ] in
                let other : j ≢ n = omega arith in
                s.others j other ∙ b.behind j is (omega arith)
                )
            | inr higher ↦ absurd (mine.alone k higher (omega arith) is_bin)
          ]
        ];
      }

  -- the walk goes on after the cell
  pub cell_added : SetsMark old new n Cell → (end : ℕ) → IsInBin bytes old end (8 * n) → 8 * n < end → IsCell bytes end (8 * n) → IsInBin bytes new end (8 * n + cell_size bytes (8 * n))
  cell_added s end w before cell =
      let here : mark_at new n ≡ Cell = s.here in
      let fits : 8 * n + cell_size bytes (8 * n) ≤ end = cell.within in
      let least : 8 ≤ cell_size bytes (8 * n) = cell.least in
      let eights : cell_size bytes (8 * n) % 8 ≡ 0 = cell.eights in
      let m : IsMarkedTo bytes old (8 * n) = w.marked in
      let mine : BinMarked bytes old (8 * n) w.bin = m.bins w.bin w.bin_is in
      let bin_within : 8 * w.bin + bin_size bytes (8 * w.bin) ≤ length bytes = mine.sound.within in
      let ends : end ≡ 8 * w.bin + bin_size bytes (8 * w.bin) = w.ends in
      let behind_header : 8 * w.bin + 32 ≤ 8 * n = w.behind_header in
      let beside : w.bin ≢ n = omega arith in
      record {
        bin = w.bin;
        data_pages = w.data_pages;
        pages = w.pages;
        eights = omega arith;
        marked = record {
          len = omega (arith, m.len, s.len);
          within = omega arith;
          clear = λ k past. let other : k ≢ n = omega arith in s.others k other ∙ m.clear k (omega arith);
          first = λ some. let other : 0 ≢ n = omega arith in s.others 0 other ∙ m.first (omega arith);
          bins = bin_beside_cell s end w cell;
          cells = λ k e. elim (cases_eq k n) [
            | inl same ↦ subst (λ (x : ℕ). CellMarked bytes new (8 * n + cell_size bytes (8 * n)) x) (sym same) (cell_itself s m end cell)
            | inr other ↦ cell_beside_cell s m (8 * n + cell_size bytes (8 * n)) (omega arith) k other e
          ];
        };
        bin_is = s.others w.bin beside ∙ w.bin_is;
        bin_starts = w.bin_starts;
        ends = w.ends;
        behind_header = omega arith;
        before_end = fits;
        starts = λ more. next_cell (8 * n) (8 * n + cell_size bytes (8 * n)) (w.starts before) cell refl more;
      }

  -- ---- a bin more

  cell_beside_bin : SetsMark old new n Bin → IsMarkedTo bytes old (8 * n) → (upto : ℕ) → 8 * n ≤ upto → upto ≤ 8 * n + 32 → (k : ℕ) → mark_at new k ≡ Cell → CellMarked bytes new upto k
  cell_beside_bin s m upto more most k e =
      let here : mark_at new n ≡ Bin = s.here in
      let apart : k ≢ n = (λ same. cc) in
      let c : CellMarked bytes old (8 * n) k = m.cells k (sym (s.others k apart) ∙ e) in
      let ends : 8 * k + cell_size bytes (8 * k) ≤ 8 * n = c.sound.within in
      record {
        sound = record { eights = c.sound.eights; least = c.sound.least; within = omega arith };
        inside = λ j after before. let other : j ≢ n = omega arith in s.others j other ∙ c.inside j after before;
        behind = λ j is before. elim (cases_eq j n) [
          | inl same ↦ (λ no. cc)
          | inr other ↦ (λ no. c.behind j is (omega arith) (sym (s.others j other) ∙ no))
        ];
      }

  bin_beside_bin : SetsMark old new n Bin → IsBetweenBins bytes old (8 * n) → (k : ℕ) → k ≢ n → mark_at new k ≡ Bin → BinMarked bytes new (8 * n + 32) k
  bin_beside_bin s w k apart e =
      let is_bin : mark_at old k ≡ Bin = sym (s.others k apart) ∙ e in
      let b : BinMarked bytes old (8 * n) k = w.marked.bins k is_bin in
      let whole : 8 * k + 32 ≤ 8 * n = b.whole in
      let ends : 8 * k + bin_size bytes (8 * k) ≤ 8 * n = w.ended k is_bin in
      let long : 4096 ≤ bin_size bytes (8 * k) = long_bin bytes (8 * k) b.sound in
      record {
        sound = b.sound;
        whole = omega arith;
        header = λ j after before. let other : j ≢ n = omega arith in s.others j other ∙ b.header j after before;
        first_cell = λ before. let other : k + 4 ≢ n = omega arith in s.others (k + 4) other ∙ b.first_cell (omega arith);
        alone = λ j after before. let other : j ≢ n = omega arith in (λ no. b.alone j after before (sym (s.others j other) ∙ no));
        behind = λ j is before. elim (cases_eq j n) [
          | inl same ↦ ap (mark_at new) same ∙ s.here
          | inr other ↦ s.others j other ∙ b.behind j is (omega arith)
        ];
      }

  bin_itself : SetsMark old new n Bin → IsMarkedTo bytes old (8 * n) → IsBin bytes (8 * n) → BinMarked bytes new (8 * n + 32) n
  bin_itself s m bin =
      let long : 4096 ≤ bin_size bytes (8 * n) = long_bin bytes (8 * n) bin in
      record {
        sound = bin;
        whole = omega arith;
        header = λ j after before. let other : j ≢ n = omega arith in s.others j other ∙ m.clear j (omega arith);
        first_cell = λ before. absurd (omega arith);
        alone = λ j after before. let other : j ≢ n = omega arith in let inside : mark_at new j ≡ Inside = s.others j other ∙ m.clear j (omega arith) in (λ no. cc);
        behind = λ j is before. absurd (omega arith);
      }

  -- the walk goes on after the header
  pub bin_added : SetsMark old new n Bin → IsBetweenBins bytes old (8 * n) → 8 * n < length bytes → IsBin bytes (8 * n) → IsInBin bytes new (8 * n + bin_size bytes (8 * n)) (8 * n + 32)
  bin_added s w before bin =
      let long : 4096 ≤ bin_size bytes (8 * n) = long_bin bytes (8 * n) bin in
      let pages : bin_size bytes (8 * n) % 4096 ≡ 0 = bin.pages in
      let within : 8 * n + bin_size bytes (8 * n) ≤ length bytes = bin.within in
      let from : 8 * n % 4096 ≡ 0 = w.pages in
      let m : IsMarkedTo bytes old (8 * n) = w.marked in
      record {
        bin = n;
        data_pages = w.data_pages;
        pages = omega arith;
        eights = omega arith;
        marked = record {
          len = omega (arith, m.len, s.len);
          within = omega arith;
          clear = λ k past. let other : k ≢ n = omega arith in s.others k other ∙ m.clear k (omega arith);
          first = λ some. elim (cases_eq 0 n) [
            | inl same ↦ ap (mark_at new) same ∙ s.here
            | inr other ↦ s.others 0 other ∙ m.first (omega arith)
          ];
          bins = λ k e. elim (cases_eq k n) [
            | inl same ↦ subst (λ (x : ℕ). BinMarked bytes new (8 * n + 32) x) (sym same) (bin_itself s m bin)
            | inr other ↦ bin_beside_bin s w k other e
          ];
          cells = cell_beside_bin s m (8 * n + 32) (omega arith) (omega arith);
        };
        bin_is = s.here;
        bin_starts = w.starts before;
        ends = refl;
        behind_header = omega arith;
        before_end = omega arith;
        starts = λ more. first_cell (8 * n) (8 * n + 32) (w.starts before) bin refl refl;
      }

-- the walk is after the bin that ends here
pub bin_ended : (bytes : List ℕ) (marks : List Mark) (end : ℕ) → IsInBin bytes marks end end → IsBetweenBins bytes marks end
bin_ended bytes marks end w =
    let mine : BinMarked bytes marks end w.bin = w.marked.bins w.bin w.bin_is in
    let ends : end ≡ 8 * w.bin + bin_size bytes (8 * w.bin) = w.ends in
    record {
      data_pages = w.data_pages;
      pages = w.pages;
      marked = w.marked;
      ended = λ k is_bin. elim (cases_order k w.bin) [
        | inl same ↦ (let size : bin_size bytes (8 * k) ≡ bin_size bytes (8 * w.bin) = ap (λ (x : ℕ). bin_size bytes (8 * x)) same in omega arith)
        | inr apart ↦ elim apart [
          | inl lower ↦ elim (cases_order (8 * w.bin) (8 * k + bin_size bytes (8 * k))) [
            | inl touch ↦ omega arith
            | inr rest ↦ elim rest [ inl over ↦ absurd ((w.marked.bins k is_bin).alone w.bin lower over w.bin_is) | inr under ↦ omega arith ]
          ]
          | inr higher ↦ (let b : BinMarked bytes marks end k = w.marked.bins k is_bin in let whole : 8 * k + 32 ≤ end = b.whole in absurd (mine.alone k higher (omega arith) is_bin))
        ]
      ];
      starts = λ more. next_bin (8 * w.bin) end w.bin_starts mine.sound w.ends more;
    }

-- nothing is marked yet
pub none_marked : (bytes : List ℕ) (n : ℕ) → length bytes % 4096 ≡ 0 → length bytes ≡ 8 * n → IsBetweenBins bytes (replicate n Inside) 0
none_marked bytes n pages len =
    let inside : (k : ℕ) → mark_at (replicate n Inside) k ≡ Inside = (λ k. elim (cases_lt k n) [
      | inl within ↦ get_or-replicate n k Inside Inside within
      | inr past ↦ get_or_past (replicate n Inside) k Inside (omega (arith, length-replicate {A = Mark} n Inside))
    ]) in
    record {
      data_pages = pages;
      pages = refl;
      marked = record {
        len = omega (arith, length-replicate {A = Mark} n Inside);
        within = omega arith;
        clear = λ k past. inside k;
        first = λ some. absurd (omega arith);
        bins = λ k e. let none : mark_at (replicate n Inside) k ≡ Inside = inside k in cc;
        cells = λ k e. let none : mark_at (replicate n Inside) k ≡ Inside = inside k in cc;
      };
      ended = λ k e. let none : mark_at (replicate n Inside) k ≡ Inside = inside k in cc;
      starts = λ more. first_bin more;
    }

-- the mark that the code sets
pub set_mark : (marks : List Mark) (n : ℕ) (mark : Mark) → n < length marks → SetsMark marks (slice_set marks n mark) n mark
set_mark marks n mark within =
    record {
      len = length-set marks n mark;
      here = get_or-set_same marks n mark Inside within;
      others = λ j apart. get_or-set_other marks n j mark Inside apart;
    }

-- the mark that is set for a cell
pub cell_set : (bytes : List ℕ) (marks : List Mark) (end at behind : ℕ) → IsInBin bytes marks end at → at < end → IsCell bytes end at → behind ≡ at + cell_size bytes at → (at < behind) × IsInBin bytes (slice_set marks (at / 8) Cell) end behind
cell_set bytes marks end at behind w before cell is =
    let slot : at ≡ 8 * (at / 8) = omega (arith, w.eights) in
    let least : 8 ≤ cell_size bytes at = cell.least in
    let m : IsMarkedTo bytes marks at = w.marked in
    let mine : BinMarked bytes marks at w.bin = m.bins w.bin w.bin_is in
    let bin_within : 8 * w.bin + bin_size bytes (8 * w.bin) ≤ length bytes = mine.sound.within in
    let within : at / 8 < length marks = omega (arith, m.len, w.ends) in
    let done = cell_added bytes marks (slice_set marks (at / 8) Cell) (at / 8) (set_mark marks (at / 8) Cell within) end (subst (λ (x : ℕ). IsInBin bytes marks end x) slot w) (omega arith) (subst (λ (x : ℕ). IsCell bytes end x) slot cell) in
    (omega arith, subst (λ (x : ℕ). IsInBin bytes (slice_set marks (at / 8) Cell) end x) (ap (λ (x : ℕ). x + cell_size bytes x) (sym slot) ∙ sym is) done)

-- the mark that is set for a bin
pub bin_set : (bytes : List ℕ) (marks : List Mark) (at end : ℕ) → IsBetweenBins bytes marks at → at < length bytes → IsBin bytes at → end ≡ at + bin_size bytes at → (at + 32 < end) × IsInBin bytes (slice_set marks (at / 8) Bin) end (at + 32)
bin_set bytes marks at end w before bin is =
    let slot : at ≡ 8 * (at / 8) = omega (arith, w.pages) in
    let long : 4096 ≤ bin_size bytes at = long_bin bytes at bin in
    let m : IsMarkedTo bytes marks at = w.marked in
    let within : at / 8 < length marks = omega (arith, m.len) in
    let done = bin_added bytes marks (slice_set marks (at / 8) Bin) (at / 8) (set_mark marks (at / 8) Bin within) (subst (λ (x : ℕ). IsBetweenBins bytes marks x) slot w) (omega arith) (subst (λ (x : ℕ). IsBin bytes x) slot bin) in
    let upto = subst (λ (x : ℕ). IsInBin bytes (slice_set marks (at / 8) Bin) (x + bin_size bytes x) (x + 32)) (sym slot) done in
    (omega arith, subst (λ (x : ℕ). IsInBin bytes (slice_set marks (at / 8) Bin) x (at + 32)) (sym is) upto)

-- the walk ends after the last bin
pub all_marked : (bytes : List ℕ) (marks : List Mark) (at : ℕ) → IsBetweenBins bytes marks at → length bytes ≤ at → IsMarked bytes marks
all_marked bytes marks at w past =
    let m : IsMarkedTo bytes marks at = w.marked in
    let whole : at ≡ length bytes = omega (arith, m.within) in
    record { pages = w.data_pages; all = subst (λ (x : ℕ). IsMarkedTo bytes marks x) whole w.marked }
