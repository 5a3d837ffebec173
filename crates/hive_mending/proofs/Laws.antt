-- What data that are mended to their end are.
use Rattle.std.proofs.Common.{◌≡◌, ◌≢◌, true, false, ℕ, ◌+◌, ◌-◌, ◌%◌, ◌<◌, ◌≤◌, List, [], ◌∷◌, ◌++◌, length, refl, sym, ◌∙◌, subst, inl, inr, arith, ap}
use Rattle.std.specs.Prelude.{slice_index, slice_range, ◌⊎◌}
use Rattle.std.specs.List.{AllByRecursion}
use Rattle.std.proofs.lemmas.Bool.{cases_lt}
use Rattle.std.proofs.lemmas.List.{ext_get_or}
use Rattle.hive_cells.specs.Tiles.{IsBin, bin_size, IsCell, cell_size, is_allocated, BinStart, first_bin, next_bin, CellStart, first_cell, next_cell, Tiles, IsAllocatedCell}
use Rattle.hive_cells.proofs.Region.{words_same, kind_same, range_same}
use Rattle.hive_mending.specs.declared.gap.Gap.{Gap}
use Rattle.hive_mending.specs.Breaks.{GoesOnAt}
use Rattle.hive_mending.specs.Mending.{SameWithin, IsMadePage, IsMadeCell, bad_bin, bad_cell, written_bytes, IsAtGapStart, FollowFrom, IsGap, WasCell, IsMended, Mending, nothing, bin_stays, page_made, cell_stays, cell_made, IsMendedTo}
use Rattle.hive_mending.proofs.Steps.{cell_again, size_again}
use Rattle.hive_mending.proofs.Mended.{bin_again}

-- a cell of mended data stood and stayed, or is free
abbrev CellFate : List ℕ → List ℕ → ℕ → ℕ → Type 0
CellFate old new end at = (IsCell old end at × SameWithin old new at (at + cell_size new at)) ⊎ (is_allocated new at ≡ false)

-- what is read from an offset on, in the bin that has this end, up to the end of data that bins and cells tile
data Onward (old new : List ℕ) : ℕ → ℕ → Type 0 where
  all_read : (end at : ℕ) → end ≡ at → at ≡ length new → Onward old new end at
  bin_read : (end at last next : ℕ) → end ≡ at → IsBin new at → last ≡ at + bin_size new at → next ≡ at + 32 → Onward old new last next → Onward old new end at
  cell_read : (end at next : ℕ) → IsCell new end at → CellFate old new end at → next ≡ at + cell_size new at → Onward old new end next → Onward old new end at

-- a page that was made is a bin with one free cell
made_bin : (old new : List ℕ) (at : ℕ) → at + 4096 ≤ length new → IsMadePage old new at → IsBin new at
made_bin old new at within page =
    let size : bin_size new at ≡ 4096 = page.size_is in
    record { signature = page.signature; own_offset = page.own_offset; pages = rw size refl; not_empty = λ none. absurd (omega (arith, none, size)); within = rw size within }

made_page_cell : (old new : List ℕ) (at : ℕ) → IsMadePage old new at → IsCell new (at + 4096) (at + 32)
made_page_cell old new at page =
    let size : cell_size new (at + 32) ≡ 4064 = page.cell_is in
    record { eights = rw size refl; least = omega (arith, size); within = omega (arith, size) }

-- what was made of the bytes up to where cells go on is a cell
made_is_cell : (old new : List ℕ) (end at next : ℕ) → at + 8 ≤ next → next ≤ end → IsMadeCell old new at next → IsCell new end at
made_is_cell old new end at next later within made =
    let size : cell_size new at ≡ next - at = made.size_is in
    record { eights = rw size made.eights; least = omega (arith, size, later); within = omega (arith, size, later, within) }

module _ (old new : List ℕ) (len : length new ≡ length old) where
  -- a bin that stayed is one
  stayed : (at : ℕ) → IsBin old at → SameWithin old new at (at + 32) → IsBin new at × (bin_size new at ≡ bin_size old at)
  stayed at bin kept = bin_again old new at len (λ i low high. kept i low (omega (arith, high))) bin

  stayed_cell : (end at next : ℕ) → IsCell old end at → SameWithin old new at next → next ≡ at + cell_size old at → IsCell new end at × (cell_size new at ≡ cell_size old at)
  stayed_cell end at next cell kept is =
      let least : 8 ≤ cell_size old at = cell.least in
      (cell_again old new end at (λ i low high. kept i low (omega (arith, high, is, least))) cell, size_again old new at (λ i low high. kept i low (omega (arith, high, is, least))))

  onward : (gaps : List Gap) (end at : ℕ) → Mending old new gaps end at → Onward old new end at → Onward old new 0 0
  onward gaps end at nothing r = r
  onward gaps end at (bin_stays _ from _ _ so_far bin kept end_is at_is) r =
      let b = stayed from bin kept in
      onward gaps from from so_far (bin_read from from end at refl b.0 (end_is ∙ ap (λ (n : ℕ). from + n) (sym b.1)) at_is r)
  onward gaps end at (page_made before _ from _ so_far within none page at_is gaps_is) r =
      let size : bin_size new from ≡ 4096 = page.size_is in
      let cell : cell_size new (from + 32) ≡ 4064 = page.cell_is in
      onward before from from so_far (bin_read from from end (from + 32) refl (made_bin old new from (omega (arith, within, len)) page) (omega (arith, at_is, size)) refl
      (cell_read end (from + 32) at (subst (λ (x : ℕ). IsCell new x (from + 32)) (sym at_is) (made_page_cell old new from page)) (inr page.is_free) (omega (arith, at_is, cell)) r))
  onward gaps end at (cell_stays _ _ from _ so_far cell kept at_is) r =
      let c = stayed_cell end from at cell kept at_is in
      let is : at ≡ from + cell_size new from = at_is ∙ ap (λ (n : ℕ). from + n) (sym c.1) in
      onward gaps end from so_far (cell_read end from at c.0 (inl (cell, subst (λ (x : ℕ). SameWithin old new from x) is kept)) is r)
  onward gaps end at (cell_made before _ _ from _ so_far later none goes made gaps_is) r =
      let size : cell_size new from ≡ at - from = made.size_is in
      onward before end from so_far (cell_read end from at (made_is_cell old new end from at later goes.within made) (inr made.is_free) (omega (arith, size, later)) r)

  -- what is read at a bin
  read_bin : (end at : ℕ) → end ≡ at → at < length new → Onward old new end at → IsBin new at × Onward old new (at + bin_size new at) (at + 32)
  read_bin end at same more (all_read _ _ _ done) = absurd (omega (arith, more, done))
  read_bin end at same more (bin_read _ _ last next _ bin last_is next_is r) =
      (bin, subst (λ (x : ℕ). Onward old new x (at + 32)) last_is (subst (λ (x : ℕ). Onward old new last x) next_is r))
  read_bin end at same more (cell_read _ _ next cell fate is r) = absurd (
      let least : 8 ≤ cell_size new at = cell.least in
      let within : at + cell_size new at ≤ end = cell.within in
      omega (arith, least, within, same)
      )

  -- at a cell
  read_cell : (end at : ℕ) → at < end → Onward old new end at → IsCell new end at × CellFate old new end at × Onward old new end (at + cell_size new at)
  read_cell end at before (all_read _ _ same done) = absurd (omega (arith, before, same))
  read_cell end at before (bin_read _ _ last next same bin last_is next_is r) = absurd (omega (arith, before, same))
  read_cell end at before (cell_read _ _ next cell fate is r) = (cell, fate, subst (λ (x : ℕ). Onward old new end x) is r)

  -- after the cells of a bin
  read_cells : (end at : ℕ) → at ≤ end → Onward old new end at → Onward old new end end
  read_cells end at low (all_read _ _ same done) = all_read end end refl (same ∙ done)
  read_cells end at low (bin_read _ _ last next same bin last_is next_is r) = subst (λ (x : ℕ). Onward old new end x) (sym same) (bin_read end at last next same bin last_is next_is r)
  read_cells end at low (cell_read _ _ next cell fate is r) = read_cells end next (let within : at + cell_size new at ≤ end = cell.within in omega (arith, within, is)) r

  -- each bin and cell that begins is read
  bin_onward : Onward old new 0 0 → (at : ℕ) → BinStart new at → Onward old new at at
  bin_onward all at (first_bin some) = all
  bin_onward all at (next_bin from _ start bin is more) =
      let pages : bin_size new from % 4096 ≡ 0 = bin.pages in
      let some : bin_size new from ≢ 0 = bin.not_empty in
      let within : from + bin_size new from ≤ length new = bin.within in
      let r = read_bin from from refl (omega (arith, within, some)) (bin_onward all from start) in
      subst (λ (x : ℕ). Onward old new x x) (sym is) (read_cells (from + bin_size new from) (from + 32) (omega (arith, pages, some)) r.1)

  cell_onward : Onward old new 0 0 → (end at : ℕ) → CellStart new end at → (at < end) × Onward old new end at
  cell_onward all end at (first_cell bin _ start is_bin ends is) =
      let pages : bin_size new bin % 4096 ≡ 0 = is_bin.pages in
      let some : bin_size new bin ≢ 0 = is_bin.not_empty in
      let within : bin + bin_size new bin ≤ length new = is_bin.within in
      let r = read_bin bin bin refl (omega (arith, within, some)) (bin_onward all bin start) in
      (omega (arith, pages, some, ends, is), subst (λ (x : ℕ). Onward old new x at) (sym ends) (subst (λ (x : ℕ). Onward old new (bin + bin_size new bin) x) (sym is) r.1))
  cell_onward all end at (next_cell from _ start cell is before) =
      let s = cell_onward all end from start in
      (before, subst (λ (x : ℕ). Onward old new end x) (sym is) (read_cell end from s.0 s.1).2)

  -- a bin ends within the data
  start_within : (at : ℕ) → BinStart new at → at < length new
  start_within at (first_bin some) = some
  start_within at (next_bin from _ start bin is more) = more

  end_within : (end at : ℕ) → CellStart new end at → end ≤ length new
  end_within end at (first_cell bin _ start is_bin ends is) = let within : bin + bin_size new bin ≤ length new = is_bin.within in omega (arith, within, ends)
  end_within end at (next_cell from _ start cell is before) = end_within end from start

  tiled : length new % 4096 ≡ 0 → Onward old new 0 0 → Tiles new
  tiled pages all =
      record {
        pages = pages;
        bins = λ at start. (read_bin at at refl (start_within at start) (bin_onward all at start)).0;
        cells = λ end at start. let s = cell_onward all end at start in (read_cell end at s.0 s.1).0;
      }

  -- an allocated cell was one
  was_cell : Onward old new 0 0 → (at : ℕ) → IsAllocatedCell new at → WasCell old new at
  was_cell all at found =
      let end : ℕ = found.0.0 in
      let start : CellStart new end at = found.0.1 in
      let s = cell_onward all end at start in
      let r = read_cell end at s.0 s.1 in
      let cell : IsCell new end at = r.0 in
      let least : 8 ≤ cell_size new at = cell.least in
      let within : at + cell_size new at ≤ end = cell.within in
      let end_in : end ≤ length new = end_within end at start in
      elim r.1 [
        | inl was ↦
            let kept : SameWithin old new at (at + cell_size new at) = was.1 in
            let word : SameWithin old new at (at + 4) = λ i low high. kept i low (omega (arith, high, least)) in
            let size : cell_size new at ≡ cell_size old at = size_again old new at word in
            let kind : is_allocated new at ≡ is_allocated old at = kind_same old new at (words_same old new at word) in
            record {
              end = end;
              starts = start;
              cell = was.0;
              allocated = sym kind ∙ found.1;
              data_is = range_same old new (at + 4) (at + cell_size new at) (omega (arith, within, end_in)) (omega (arith, within, end_in, len)) (λ i low high. kept i (omega (arith, low)) high)
                  ∙ ap (λ (n : ℕ). slice_range old (at + 4) (at + n)) size;
            }
        | inr free ↦ absurd (let yes : is_allocated new at ≡ true = found.1 in let no : ⊥ = cc in no)
      ]

  -- ---- where it is, and what the gaps say

  starts : (gaps : List Gap) (end at : ℕ) → Mending old new gaps end at → (at < end → CellStart new end at) × (end < length new → BinStart new end)
  starts gaps end at nothing = ((λ no. absurd (omega (arith, no))), (λ some. first_bin some))
  starts gaps end at (bin_stays _ from _ _ so_far bin kept end_is at_is) =
      let b = stayed from bin kept in
      let pages : bin_size old from % 4096 ≡ 0 = bin.pages in
      let some : bin_size old from ≢ 0 = bin.not_empty in
      let within : from + bin_size old from ≤ length old = bin.within in
      let start : BinStart new from = (starts gaps from from so_far).1 (omega (arith, within, some, len)) in
      let is : end ≡ from + bin_size new from = end_is ∙ ap (λ (n : ℕ). from + n) (sym b.1) in
      ((λ before. first_cell from at start b.0 is at_is), (λ more. next_bin from end start b.0 is more))
  starts gaps end at (page_made before _ from _ so_far within none page at_is gaps_is) =
      let start : BinStart new from = (starts before from from so_far).1 (omega (arith, within, len)) in
      let size : bin_size new from ≡ 4096 = page.size_is in
      ((λ no. absurd (omega (arith, no))), (λ more. next_bin from end start (made_bin old new from (omega (arith, within, len)) page) (omega (arith, at_is, size)) more))
  starts gaps end at (cell_stays _ _ from _ so_far cell kept at_is) =
      let c = stayed_cell end from at cell kept at_is in
      let is : at ≡ from + cell_size new from = at_is ∙ ap (λ (n : ℕ). from + n) (sym c.1) in
      let least : 8 ≤ cell_size old from = cell.least in
      let s = starts gaps end from so_far in
      ((λ before. next_cell from at (s.0 (omega (arith, before, at_is))) c.0 is before), s.1)
  starts gaps end at (cell_made before _ _ from _ so_far later none goes made gaps_is) =
      let size : cell_size new from ≡ at - from = made.size_is in
      let s = starts before end from so_far in
      ((λ inside. next_cell from at (s.0 (omega (arith, later, inside))) (made_is_cell old new end from at later goes.within made) (omega (arith, size, later)) inside), s.1)

  -- a list with one element more
  all_snoc : (P : Gap → Type 0) (gaps : List Gap) (gap : Gap) → AllByRecursion P gaps → P gap → AllByRecursion P (gaps ++ gap ∷ [])
  all_snoc P [] gap all it = (it, tt)
  all_snoc P (g ∷ gaps) gap all it = (all.0, all_snoc P gaps gap all.1 it)

  truths : (gaps : List Gap) (end at : ℕ) → Mending old new gaps end at → AllByRecursion (IsGap old new) gaps
  truths gaps end at nothing = tt
  truths gaps end at (bin_stays _ from _ _ so_far bin kept end_is at_is) = truths gaps from from so_far
  truths gaps end at (page_made before _ from _ so_far within none page at_is gaps_is) =
      rw gaps_is (all_snoc (IsGap old new) before (bad_bin from) (truths before from from so_far) ((starts before from from so_far).1 (omega (arith, within, len)), none, refl, page))
  truths gaps end at (cell_stays _ _ from _ so_far cell kept at_is) = truths gaps end from so_far
  truths gaps end at (cell_made before _ _ from _ so_far later none goes made gaps_is) =
      let within : at ≤ end = goes.within in
      let there : at ≡ from + (at - from) = omega (arith, later) in
      rw gaps_is (all_snoc (IsGap old new) before (bad_cell from at) (truths before end from so_far)
      (end, (starts before end from so_far).0 (omega (arith, later, within)), none, subst (λ (x : ℕ). GoesOnAt old end from x) there goes, subst (λ (x : ℕ). IsMadeCell old new from x) there made))

  -- where the last gap ends
  last_end : ℕ → List Gap → ℕ
  last_end from [] = from
  last_end from (g ∷ gaps) = last_end (g.at + g.bytes) gaps

  follow_more : (from : ℕ) (gaps : List Gap) (gap : Gap) → FollowFrom from gaps → last_end from gaps ≤ gap.at → FollowFrom from (gaps ++ gap ∷ []) × (last_end from (gaps ++ gap ∷ []) ≡ gap.at + gap.bytes)
  unfolding last_end
  follow_more from [] gap all low = ((low, tt), refl)
  follow_more from (g ∷ gaps) gap all low = let more = follow_more (g.at + g.bytes) gaps gap all.1 low in ((all.0, more.0), more.1)

  follow : (gaps : List Gap) (end at : ℕ) → Mending old new gaps end at → FollowFrom 0 gaps × (last_end 0 gaps ≤ at)
  unfolding last_end
  follow gaps end at nothing = (tt, omega arith)
  follow gaps end at (bin_stays _ from _ _ so_far bin kept end_is at_is) = let f = follow gaps from from so_far in (f.0, omega (arith, f.1, at_is))
  follow gaps end at (page_made before _ from _ so_far within none page at_is gaps_is) =
      let f = follow before from from so_far in
      let more = follow_more 0 before (bad_bin from) f.0 f.1 in
      rw gaps_is (more.0, omega (arith, more.1, at_is))
  follow gaps end at (cell_stays _ _ from _ so_far cell kept at_is) = let f = follow gaps end from so_far in (f.0, omega (arith, f.1, at_is))
  follow gaps end at (cell_made before _ _ from _ so_far later none goes made gaps_is) =
      let f = follow before end from so_far in
      let more = follow_more 0 before (bad_cell from at) f.0 f.1 in
      rw gaps_is (more.0, omega (arith, more.1, later))

  -- which bytes are written
  written_before : (gaps : List Gap) (gap : Gap) (i : ℕ) → IsAtGapStart gaps i → IsAtGapStart (gaps ++ gap ∷ []) i
  written_before [] gap i none = absurd none
  written_before (g ∷ gaps) gap i w = elim w [
    | inl here ↦ inl here
    | inr there ↦ inr (written_before gaps gap i there)
  ]

  written_last : (gaps : List Gap) (gap : Gap) (i : ℕ) → gap.at ≤ i → i < gap.at + written_bytes gap.kind → IsAtGapStart (gaps ++ gap ∷ []) i
  written_last [] gap i low high = inl (low, high)
  written_last (g ∷ gaps) gap i low high = inr (written_last gaps gap i low high)

  kept_bytes : (gaps : List Gap) (end at i : ℕ) → Mending old new gaps end at → i < at → IsAtGapStart gaps i ⊎ (slice_index new i ≡ slice_index old i)
  kept_bytes gaps end at i nothing before = absurd (omega (arith, before))
  kept_bytes gaps end at i (bin_stays _ from _ _ so_far bin kept end_is at_is) before = elim (cases_lt i from) [
    | inl low ↦ kept_bytes gaps from from i so_far low
    | inr high ↦ inr (kept i high (omega (arith, before, at_is)))
  ]
  kept_bytes gaps end at i (page_made earlier _ from _ so_far within none page at_is gaps_is) before = elim (cases_lt i from) [
    | inl low ↦ elim (kept_bytes earlier from from i so_far low) [
      | inl w ↦ inl (rw gaps_is (written_before earlier (bad_bin from) i w))
      | inr same ↦ inr same
    ]
    | inr high ↦ elim (cases_lt i (from + 36)) [
      | inl head ↦ inl (rw gaps_is (written_last earlier (bad_bin from) i high head))
      | inr rest ↦ inr (page.rest i rest (omega (arith, before, at_is)))
    ]
  ]
  kept_bytes gaps end at i (cell_stays _ _ from _ so_far cell kept at_is) before = elim (cases_lt i from) [
    | inl low ↦ kept_bytes gaps end from i so_far low
    | inr high ↦ inr (kept i high before)
  ]
  kept_bytes gaps end at i (cell_made earlier _ _ from _ so_far later none goes made gaps_is) before = elim (cases_lt i from) [
    | inl low ↦ elim (kept_bytes earlier end from i so_far low) [
      | inl w ↦ inl (rw gaps_is (written_before earlier (bad_cell from at) i w))
      | inr same ↦ inr same
    ]
    | inr high ↦ elim (cases_lt i (from + 4)) [
      | inl head ↦ inl (rw gaps_is (written_last earlier (bad_cell from at) i high head))
      | inr rest ↦ inr (made.rest i rest before)
    ]
  ]

  -- data without gaps are as they were
  no_gaps : (gaps : List Gap) (end : ℕ) → Mending old new gaps end (length old) → gaps ≡ [] → new ≡ old
  no_gaps gaps end all none = ext_get_or 0 new old len (λ i within. elim (kept_bytes gaps end (length old) i all (omega (arith, within, len))) [
    | inl w ↦ absurd (subst (λ (gs : List Gap). IsAtGapStart gs i) none w)
    | inr same ↦ same
  ])

  -- data that tile have no gap
  no_gap : Tiles old → (gaps : List Gap) (end at : ℕ) → Mending old new gaps end at → (gaps ≡ []) × (at < end → CellStart old end at) × (end < length old → BinStart old end)
  no_gap t gaps end at nothing = (refl, (λ no. absurd (omega (arith, no))), (λ some. first_bin some))
  no_gap t gaps end at (bin_stays _ from _ _ so_far bin kept end_is at_is) =
      let some : bin_size old from ≢ 0 = bin.not_empty in
      let within : from + bin_size old from ≤ length old = bin.within in
      let s = no_gap t gaps from from so_far in
      let start : BinStart old from = s.2 (omega (arith, within, some)) in
      (s.0, (λ before. first_cell from at start bin end_is at_is), (λ more. next_bin from end start bin end_is more))
  no_gap t gaps end at (page_made before _ from _ so_far within none page at_is gaps_is) =
      absurd (none (t.bins from ((no_gap t before from from so_far).2 (omega (arith, within)))))
  no_gap t gaps end at (cell_stays _ _ from _ so_far cell kept at_is) =
      let least : 8 ≤ cell_size old from = cell.least in
      let s = no_gap t gaps end from so_far in
      (s.0, (λ before. next_cell from at (s.1 (omega (arith, before, at_is))) cell at_is before), s.2)
  no_gap t gaps end at (cell_made before _ _ from _ so_far later none goes made gaps_is) =
      let within : at ≤ end = goes.within in
      absurd (none (t.cells end from ((no_gap t before end from so_far).1 (omega (arith, later, within)))))

-- data that are mended to their end
pub mended : (old new : List ℕ) (gaps : List Gap) (at : ℕ) → length old % 4096 ≡ 0 → at ≤ length new → length new ≤ at → IsMendedTo old new gaps at at → IsMended old new gaps
mended old new gaps at pages low high s =
    let len : length new ≡ length old = s.len in
    let at_is : at ≡ length old = omega (arith, low, high, len) in
    let all : Mending old new gaps (length old) (length old) = subst (λ (x : ℕ). Mending old new gaps x x) at_is s.so_far in
    let read : Onward old new 0 0 = onward old new len gaps (length old) (length old) all (all_read (length old) (length old) refl (sym len)) in
    record {
      tiles = tiled old new len (omega (arith, pages, len)) read;
      len = len;
      bytes = λ i within. kept_bytes old new len gaps (length old) (length old) i all within;
      order = (follow old new len gaps (length old) (length old) all).0;
      gaps_are = truths old new len gaps (length old) (length old) all;
      whole = λ t. let none : gaps ≡ [] = (no_gap old new len t gaps (length old) (length old) all).0 in (none, no_gaps old new len gaps (length old) all none);
      none = no_gaps old new len gaps (length old) all;
      cells = was_cell old new len read;
      steps = all;
    }
