-- The walk over the data, with the bits of where cells begin and the bounds of the free ones.
use Rattle.std.proofs.Common.{◌≡◌, ℕ, ◌+◌, ◌*◌, ◌/◌, ◌%◌, ◌<◌, ◌≤◌, true, false, eqb, List, length, refl, sym, ◌∙◌, subst, inl, inr, arith, ap}
use Rattle.std.specs.Prelude.{slice_index, slice_set, replicate}
use Rattle.std.specs.Int.{bit_at}
use Rattle.std.proofs.lemmas.Bool.{cases_eq, cases_lt}
use Rattle.std.proofs.lemmas.List.{length-replicate, get_or-replicate, get_or_past}
use Rattle.std.proofs.lemmas.Nat.Bits.{bit_at-zero}
use Rattle.refusals.specs.declared.limits.TheConstants.{MOST_BINS_BYTES}
use Rattle.hive_cells.specs.Tiles.{IsBin, bin_size, IsCell, cell_size, is_allocated}
use Rattle.hive_cells.specs.Marks.{Mark, Inside, Bin, Cell, mark_at, BinMarked, IsMarked, IsInBin, IsCellMarkedAt}
use Rattle.hive_cells.specs.Starts.{is_start, is_cell_mark, IsIndexed, SetsStartBit, WalkIsBetweenBins, WalkIsInBin, bound_at}
use Rattle.hive_cells.proofs.Marking.{SetsMark, set_mark, bin_set, cell_set, bin_ended, all_marked, none_marked}
use Rattle.hive_cells.proofs.Reached.{mark_at_start}
use Rattle.hive_cells.proofs.CellChanges.{puts_same}
use Rattle.hive_cells.proofs.NewBin.{inside_marks}

-- no word of zeros has a start
zero_word : (n i : ℕ) → slice_index (replicate n 0) i ≡ 0
zero_word n i = elim (cases_lt i n) [
  | inl within ↦ get_or-replicate n i 0 0 within
  | inr past ↦ get_or_past (replicate n 0) i 0 (omega (arith, length-replicate {A = ℕ} n 0))
]

pub no_start : (n k : ℕ) → is_start (replicate n 0) k ≡ false
no_start n k = ap (λ (w : ℕ). eqb (bit_at w (k % 64)) 1) (zero_word n (k / 64)) ∙ ap (λ (b : ℕ). eqb b 1) (bit_at-zero (k % 64))

-- the walk begins
pub walk_start : (bytes : List ℕ) (bounds : ℕ) → length bytes % 4096 ≡ 0 → length bytes / 4096 ≤ bounds → MOST_BINS_BYTES / 4096 ≤ bounds → WalkIsBetweenBins bytes (replicate (length bytes / 512) 0) (replicate bounds 0) 0
walk_start bytes bounds pages enough most_pages =
    let count : ℕ = length bytes / 8 in
    let inside : (k : ℕ) → mark_at (replicate count Inside) k ≡ Inside = inside_marks count in
    record {
      marks = replicate count Inside;
      walk = none_marked bytes count pages (omega arith);
      starts = record {
        len = omega (arith, length-replicate {A = ℕ} (length bytes / 512) 0);
        same = λ k. no_start (length bytes / 512) k ∙ ap is_cell_mark (sym (inside k));
      };
      free = record {
        len = omega (arith, length-replicate {A = ℕ} bounds 0);
        most_pages = omega (arith, length-replicate {A = ℕ} bounds 0);
        most = λ k marked. absurd (let none : mark_at (replicate count Inside) k ≡ Inside = inside k in let no : ⊥ = cc in no);
      };
    }

-- a bin ends within the data
pub bin_within : (bytes words bounds : List ℕ) (end at : ℕ) → WalkIsInBin bytes words bounds end at → end ≤ length bytes
bin_within bytes words bounds end at s =
    let mine : BinMarked bytes s.marks at s.walk.bin = s.walk.marked.bins s.walk.bin s.walk.bin_is in
    omega (arith, mine.sound.within, s.walk.ends)

-- the walk goes on after a cell
pub cell_walked : (bytes words words' bounds bounds' : List ℕ) (end at behind : ℕ) → WalkIsInBin bytes words bounds end at → at < end → IsCell bytes end at → behind ≡ at + cell_size bytes at
    → SetsStartBit words words' (at / 8) true → length bounds' ≡ length bounds → ((k : ℕ) → slice_index bounds k ≤ slice_index bounds' k) → (is_allocated bytes at ≡ false → cell_size bytes at ≤ bound_at bounds' at)
    → (at < behind) × WalkIsInBin bytes words' bounds' end behind
cell_walked bytes words words' bounds bounds' end at behind s before cell is put len more here =
    let done = cell_set bytes s.marks end at behind s.walk before cell is in
    let within : end ≤ length bytes = bin_within bytes words bounds end at s in
    let eights : at % 8 ≡ 0 = s.walk.eights in
    let slot : 8 * (at / 8) ≡ at = omega arith in
    let marks' : List Mark = slice_set s.marks (at / 8) Cell in
    let set : SetsMark s.marks (slice_set s.marks (at / 8) Cell) (at / 8) Cell = set_mark s.marks (at / 8) Cell (omega (arith, s.walk.marked.len)) in (
      done.0,
      record {
        marks = slice_set s.marks (at / 8) Cell;
        walk = done.1;
        starts = puts_same bytes bytes s.marks (slice_set s.marks (at / 8) Cell) words words' (at / 8) Cell s.starts set put refl;
        free = record {
          len = omega (arith, s.free.len);
          most_pages = omega (arith, s.free.most_pages);
          most = λ k marked free. elim (cases_eq k (at / 8)) [
            | inl same ↦
                let k_is : at ≡ 8 * k = omega arith in
                subst (λ (x : ℕ). cell_size bytes x ≤ bound_at bounds' x) k_is (here (ap (is_allocated bytes) k_is ∙ free))
            | inr other ↦ omega (arith, s.free.most k (sym (set.others k other) ∙ marked) free, more (8 * k / 4096))
          ];
        };
      },
    )

-- after a bin's header
pub bin_walked : (bytes words bounds : List ℕ) (at end : ℕ) → WalkIsBetweenBins bytes words bounds at → at < length bytes → IsBin bytes at → end ≡ at + bin_size bytes at → (at + 32 < end) × WalkIsInBin bytes words bounds end (at + 32)
bin_walked bytes words bounds at end s before bin is =
    let done = bin_set bytes s.marks at end s.walk before bin is in
    let pages : at % 4096 ≡ 0 = s.walk.pages in
    let set : SetsMark s.marks (slice_set s.marks (at / 8) Bin) (at / 8) Bin = set_mark s.marks (at / 8) Bin (omega (arith, s.walk.marked.len)) in
    let was : mark_at s.marks (at / 8) ≡ Inside = s.walk.marked.clear (at / 8) (omega arith) in (
      done.0,
      record {
        marks = slice_set s.marks (at / 8) Bin;
        walk = done.1;
        starts = record {
          len = s.starts.len;
          same = λ k. elim (cases_eq k (at / 8)) [
            | inl same ↦ ap (is_start words) same ∙ s.starts.same (at / 8) ∙ ap is_cell_mark was ∙ ap is_cell_mark (sym set.here) ∙ ap (λ (x : ℕ). is_cell_mark (mark_at (slice_set s.marks (at / 8) Bin) x)) (sym same)
            | inr other ↦ s.starts.same k ∙ ap is_cell_mark (sym (set.others k other))
          ];
        };
        free = record {
          len = s.free.len;
          most_pages = s.free.most_pages;
          most = λ k marked. elim (cases_eq k (at / 8)) [
            | inl same ↦ absurd (let here : mark_at (slice_set s.marks (at / 8) Bin) (at / 8) ≡ Bin = set.here in let no : ⊥ = cc in no)
            | inr other ↦ s.free.most k (sym (set.others k other) ∙ marked)
          ];
        };
      },
    )

-- after a bin
pub bin_done : (bytes words bounds : List ℕ) (end at : ℕ) → WalkIsInBin bytes words bounds end at → end ≤ at → WalkIsBetweenBins bytes words bounds end
bin_done bytes words bounds end at s past =
    let same : at ≡ end = omega (arith, s.walk.before_end) in
    record { marks = s.marks; walk = bin_ended bytes s.marks end (subst (λ (x : ℕ). IsInBin bytes s.marks end x) same s.walk); starts = s.starts; free = s.free }

-- after all bins
pub all_walked : (bytes words bounds : List ℕ) (at : ℕ) → WalkIsBetweenBins bytes words bounds at → length bytes ≤ at → IsIndexed bytes words bounds
all_walked bytes words bounds at s past =
    let all : IsMarked bytes s.marks = all_marked bytes s.marks at s.walk past in
    record {
      cells = record { marks = s.marks; all = all; starts = s.starts };
      most_pages = s.free.most_pages;
      free = record {
        len = s.free.len;
        most = λ cell found.
            let w : IsCellMarkedAt s.marks cell = mark_at_start bytes s.marks all found.0.0 cell found.0.1 in
            let slot : 8 * (cell / 8) ≡ cell = omega (arith, w.eights) in
            subst (λ (x : ℕ). cell_size bytes x ≤ bound_at bounds x) slot (s.free.most (cell / 8) w.is_cell (ap (is_allocated bytes) slot ∙ found.1));
      };
    }
