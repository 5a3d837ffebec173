-- Mending goes on by a cell or a bin.
use Rattle.std.proofs.Common.{◌≡◌, ◌≢◌, false, ℕ, ◌+◌, ◌-◌, ◌*◌, ◌/◌, ◌%◌, ◌<◌, ◌≤◌, List, [], ◌∷◌, ◌++◌, length, refl, sym, ◌∙◌, subst, inl, inr, arith, ap}
use Rattle.std.specs.Prelude.{slice_index, ◌⊎◌}
use Rattle.std.proofs.lemmas.Bool.{cases_eq}
use Rattle.hive_cells.specs.Tiles.{u32_at, IsBin, bin_size, IsCell, cell_size, is_allocated}
use Rattle.hive_cells.proofs.Region.{words_same, size_same, kind_same}
use Rattle.hive_mending.specs.declared.gap.Gap.{Gap}
use Rattle.hive_mending.specs.Breaks.{Chain, no_cell, GoesOnAt}
use Rattle.hive_mending.specs.Restarts.{HaveRestarts}
use Rattle.hive_mending.specs.Mending.{SameWithin, SameFrom, IsMadePage, IsMadeCell, bad_bin, bad_cell, Mending, nothing, bin_stays, page_made, cell_stays, cell_made, IsMendedTo, MendsCell, MendsCells, MendsBin}
use Rattle.hive_mending.proofs.Steps.{cell_again, size_again, no_cell_again, goes_on_again, chain_unique}

-- a bin is one in bytes whose header is the same
pub bin_again : (old new : List ℕ) (at : ℕ) → length new ≡ length old → SameWithin old new at (at + 12) → IsBin old at → IsBin new at × (bin_size new at ≡ bin_size old at)
bin_again old new at len same b =
    let size : u32_at new (at + 8) ≡ u32_at old (at + 8) = words_same old new (at + 8) (λ i after before. same i (omega arith) (omega arith)) in
    let within : at + u32_at old (at + 8) ≤ length old = b.within in (
      record {
        signature = words_same old new at (λ i after before. same i (omega arith) (omega arith)) ∙ b.signature;
        own_offset = words_same old new (at + 4) (λ i after before. same i (omega arith) (omega arith)) ∙ b.own_offset;
        pages = rw size b.pages;
        not_empty = λ none. b.not_empty (sym size ∙ none);
        within = rw (size, len) within;
      },
      size,
    )

-- what was mended stays mended if no byte of it is written
pub mending_again : (older old new : List ℕ) (gaps : List Gap) (end at : ℕ) → SameWithin old new 0 at → Mending older old gaps end at → Mending older new gaps end at
mending_again older old new gaps end at same nothing = nothing
mending_again older old new gaps end at same (bin_stays _ from _ _ so_far bin kept end_is at_is) =
    bin_stays gaps from end at (mending_again older old new gaps from from (λ i low high. same i low (omega (arith, high, at_is))) so_far) bin
    (λ i low high. same i (omega arith) (omega (arith, high, at_is)) ∙ kept i low high) end_is at_is
mending_again older old new gaps end at same (page_made before _ from _ so_far within none page at_is gaps_is) =
    page_made before gaps from at (mending_again older old new before from from (λ i low high. same i low (omega (arith, high, at_is))) so_far) within none
    (record {
      signature = words_same old new from (λ i low high. same i (omega arith) (omega (arith, high, at_is))) ∙ page.signature;
      own_offset = words_same old new (from + 4) (λ i low high. same i (omega arith) (omega (arith, high, at_is))) ∙ page.own_offset;
      size_is = words_same old new (from + 8) (λ i low high. same i (omega arith) (omega (arith, high, at_is))) ∙ page.size_is;
      cell_is = size_same old new (from + 32) (words_same old new (from + 32) (λ i low high. same i (omega arith) (omega (arith, high, at_is)))) ∙ page.cell_is;
      is_free = kind_same old new (from + 32) (words_same old new (from + 32) (λ i low high. same i (omega arith) (omega (arith, high, at_is)))) ∙ page.is_free;
      header = λ i low high. same i (omega arith) (omega (arith, high, at_is)) ∙ page.header i low high;
      rest = λ i low high. same i (omega arith) (omega (arith, high, at_is)) ∙ page.rest i low high;
    }) at_is gaps_is
mending_again older old new gaps end at same (cell_stays _ _ from _ so_far cell kept at_is) =
    cell_stays gaps end from at (mending_again older old new gaps end from (λ i low high. same i low (omega (arith, high, at_is))) so_far) cell
    (λ i low high. same i (omega arith) high ∙ kept i low high) at_is
mending_again older old new gaps end at same (cell_made before _ _ from _ so_far later none goes made gaps_is) =
    cell_made before gaps end from at (mending_again older old new before end from (λ i low high. same i low (omega (arith, high, later))) so_far) later none goes
    (record {
      size_is = size_same old new from (words_same old new from (λ i low high. same i (omega arith) (omega (arith, high, later)))) ∙ made.size_is;
      eights = made.eights;
      is_free = kind_same old new from (words_same old new from (λ i low high. same i (omega arith) (omega (arith, high, later)))) ∙ made.is_free;
      rest = λ i low high. same i (omega arith) high ∙ made.rest i low high;
    }) gaps_is

-- a cell that stands stays
pub cell_kept : (older bytes : List ℕ) (gaps : List Gap) (end at next : ℕ) → IsCell bytes end at → next ≡ at + cell_size bytes at → IsMendedTo older bytes gaps end at → IsMendedTo older bytes gaps end next
cell_kept older bytes gaps end at next cell is s =
    let back : SameWithin bytes older at (at + 4) = λ i low high. sym (s.rest i low) in
    let size : cell_size older at ≡ cell_size bytes at = size_again bytes older at back in
    record {
      len = s.len;
      so_far = cell_stays gaps end at next s.so_far (cell_again bytes older end at back cell) (λ i low high. s.rest i low) (is ∙ ap (λ (n : ℕ). at + n) (sym size));
      rest = λ i low. s.rest i (omega (arith, low, is));
    }

-- one cell more is mended
pub cell_on : (older old new : List ℕ) (before gaps : List Gap) (end at next : ℕ) → at % 8 ≡ 0 → MendsCell old new before gaps end at next → IsMendedTo older old before end at → IsMendedTo older new gaps end next
cell_on older old new before gaps end at next eight m s = elim m.step [
  | inl stays ↦ rw (stays.1, stays.2) (cell_kept older old before end at next stays.0 stays.3 s)
  | inr made ↦
      let back : SameFrom old older at = λ i low. sym (s.rest i low) in
      let it : IsMadeCell old new at next = made.2 in
      let after : SameFrom old new next = made.4 in
      let later : at < next = m.later in
      let next_eight : next % 8 ≡ 0 = m.eights in
      record {
        len = m.len ∙ s.len;
        so_far = cell_made before gaps end at next (mending_again older old new before end at made.3 s.so_far) (omega (arith, later, eight, next_eight))
            (no_cell_again old older end at (λ i low high. back i low) made.0) (goes_on_again old older end at next back made.1)
            (record { size_is = it.size_is; eights = it.eights; is_free = it.is_free; rest = λ i low high. it.rest i low high ∙ s.rest i (omega (arith, low)) })
            made.5;
        rest = λ i low. after i low ∙ s.rest i (omega (arith, low, later));
      }
]

-- where cells go on lies after an offset that is no cell
pub goes_later : (bytes : List ℕ) (end at next : ℕ) → at < end → at % 8 ≡ 0 → (¬ IsCell bytes end at) → GoesOnAt bytes end at next → at + 8 ≤ next
goes_later bytes end at next before eight none g =
    let after : at ≤ next = g.after in
    let next_eight : next % 8 ≡ 0 = g.eights in
    elim (cases_eq next at) [
      | inl same ↦ absurd (
          let no_count : g.count ≡ 0 = chain_unique bytes end at g.count 0 (subst (λ (x : ℕ). Chain bytes end x g.count) same g.chain) (no_cell at none) in
          omega (arith, before, same, g.none no_count)
          )
      | inr apart ↦ omega (arith, after, next_eight, eight, apart)
    ]

-- a gap is made of a cell that doesn't stand
pub cell_gap : (old new : List ℕ) (before gaps : List Gap) (end at next : ℕ) → at < end → at % 8 ≡ 0 → (¬ IsCell old end at) → GoesOnAt old end at next → length new ≡ length old
    → cell_size new at ≡ next - at → is_allocated new at ≡ false → ((i : ℕ) → ((i < at) ⊎ (at + 4 ≤ i)) → slice_index new i ≡ slice_index old i) → gaps ≡ before ++ bad_cell at next ∷ [] → MendsCell old new before gaps end at next
cell_gap old new before gaps end at next start eight none g len size free others gaps_is =
    let later : at + 8 ≤ next = goes_later old end at next start eight none g in
    let next_eight : next % 8 ≡ 0 = g.eights in
    record {
      len = len;
      later = omega (arith, later);
      within = g.within;
      eights = g.eights;
      step = inr (
        none,
        g,
        record { size_is = size; eights = omega (arith, eight, next_eight, later); is_free = free; rest = λ i low high. others i (inr low) },
        (λ i low high. others i (inl high)),
        (λ i low. others i (inr (omega (arith, low, later)))),
        gaps_is,
      );
    }

-- no cell of a bin is mended yet
pub cells_start : (bytes : List ℕ) (gaps : List Gap) (end first : ℕ) → first ≤ end → first % 8 ≡ 0 → MendsCells bytes bytes gaps gaps end first first
cells_start bytes gaps end first order eight = record { len = refl; within = order; eights = eight; rest = λ i low. refl; mended = λ older s. s }

-- after one cell more that stands
pub sound_on : (bytes : List ℕ) (gaps : List Gap) (end first at next : ℕ) → IsCell bytes end at → next ≡ at + cell_size bytes at → MendsCells bytes bytes gaps gaps end first at → MendsCells bytes bytes gaps gaps end first next
sound_on bytes gaps end first at next cell is m =
    let within : at + cell_size bytes at ≤ end = cell.within in
    let eights : cell_size bytes at % 8 ≡ 0 = cell.eights in
    let eight : at % 8 ≡ 0 = m.eights in
    record {
      len = refl;
      within = omega (arith, within, is);
      eights = omega (arith, eights, eight, is);
      rest = λ i low. refl;
      mended = λ older s. cell_kept older bytes gaps end at next cell is (m.mended older s);
    }

-- after one cell more
pub cells_on : (old mid new : List ℕ) (before between gaps : List Gap) (end first at next : ℕ) → MendsCells old mid before between end first at → MendsCell mid new between gaps end at next → MendsCells old new before gaps end first next
cells_on old mid new before between gaps end first at next m c =
    let later : at < next = c.later in
    record {
      len = c.len ∙ m.len;
      within = c.within;
      eights = c.eights;
      rest = λ i low. elim c.step [
        | inl stays ↦ ap (λ (bytes : List ℕ). slice_index bytes i) stays.1 ∙ m.rest i (omega (arith, low, later))
        | inr made ↦ made.4 i low ∙ m.rest i (omega (arith, low, later))
      ];
      mended = λ older s. cell_on older mid new between gaps end at next m.eights c (m.mended older s);
    }

-- where cells go on in the bytes of now
pub restart_now : (old new : List ℕ) (before gaps : List Gap) (end first at : ℕ) (next : List ℕ) → first % 8 ≡ 0 → first ≤ at → HaveRestarts old end first next → MendsCells old new before gaps end first at → GoesOnAt new end at (slice_index next ((at - first) / 8))
restart_now old new before gaps end first at next first_eight after have m =
    let eight : at % 8 ≡ 0 = m.eights in
    let within : at ≤ end = m.within in
    let there : first + 8 * ((at - first) / 8) ≡ at = omega (arith, eight, after, first_eight) in
    goes_on_again old new end at (slice_index next ((at - first) / 8)) m.rest
    (subst (λ (x : ℕ). GoesOnAt old end x (slice_index next ((at - first) / 8))) there (have.each ((at - first) / 8) (omega (arith, there, within))))

-- cells up to a break, and cells after it
pub cells_both : (old new : List ℕ) (before gaps : List Gap) (end first broken : ℕ) → MendsCells old old before before end first broken → MendsCells old new before gaps end broken end → MendsCells old new before gaps end first end
cells_both old new before gaps end first broken m n =
    record { len = n.len; within = n.within; eights = n.eights; rest = n.rest; mended = λ older s. n.mended older (m.mended older s) }

-- cells that all stand
pub cells_sound : (bytes : List ℕ) (gaps : List Gap) (end first broken : ℕ) → broken ≡ end → MendsCells bytes bytes gaps gaps end first broken → MendsCells bytes bytes gaps gaps end first end
cells_sound bytes gaps end first broken is m = subst (λ (x : ℕ). MendsCells bytes bytes gaps gaps end first x) is m

-- a bin that stands, with its cells
pub bin_on : (old new : List ℕ) (before gaps : List Gap) (at end : ℕ) → length old % 4096 ≡ 0 → at % 4096 ≡ 0 → IsBin old at → end ≡ at + bin_size old at → MendsCells old new before gaps end (at + 32) end → MendsBin old new before gaps at end
bin_on old new before gaps at end all_pages here bin is m =
    let pages : bin_size old at % 4096 ≡ 0 = bin.pages in
    let some : bin_size old at ≢ 0 = bin.not_empty in
    let within : at + bin_size old at ≤ length old = bin.within in
    record {
      len = m.len;
      later = omega (arith, pages, some, is);
      within = omega (arith, within, is);
      pages = omega (arith, pages, here, is);
      mended = λ older s. m.mended older (
          let back : SameWithin old older at (at + 12) = λ i low high. sym (s.rest i low) in
          let b = bin_again old older at (sym s.len) back bin in
          record {
            len = s.len;
            so_far = bin_stays before at end (at + 32) s.so_far b.0 (λ i low high. s.rest i low) (is ∙ ap (λ (n : ℕ). at + n) (sym b.1)) refl;
            rest = λ i low. s.rest i (omega (arith, low));
          });
    }

-- a page that is made a bin
pub page_on : (old new : List ℕ) (before gaps : List Gap) (at : ℕ) → length old % 4096 ≡ 0 → at % 4096 ≡ 0 → at < length old → (¬ IsBin old at) → length new ≡ length old → IsMadePage old new at → SameWithin old new 0 at → SameFrom old new (at + 4096) → gaps ≡ before ++ bad_bin at ∷ [] → MendsBin old new before gaps at (at + 4096)
page_on old new before gaps at all_pages here start none len page front rest gaps_is =
    record {
      len = len;
      later = omega arith;
      within = omega (arith, all_pages, here, start);
      pages = omega (arith, here);
      mended = λ older s.
          record {
            len = len ∙ s.len;
            so_far = page_made before gaps at (at + 4096) (mending_again older old new before at at front s.so_far) (omega (arith, all_pages, here, start, s.len))
                (λ bin. none (bin_again older old at s.len (λ i low high. s.rest i low) bin).0)
                (record { signature = page.signature; own_offset = page.own_offset; size_is = page.size_is; cell_is = page.cell_is; is_free = page.is_free; header = λ i low high. page.header i low high ∙ s.rest i (omega (arith, low)); rest = λ i low high. page.rest i low high ∙ s.rest i (omega (arith, low)) })
                refl gaps_is;
            rest = λ i low. rest i low ∙ s.rest i (omega (arith, low));
          };
    }

-- the header and the cell of a page are written
pub page_laid : (a b c d e : List ℕ) (at : ℕ)
    → u32_at b at ≡ 0x6e69_6268 → ((i : ℕ) → ((i < at) ⊎ (at + 4 ≤ i)) → slice_index b i ≡ slice_index a i)
    → u32_at c (at + 4) ≡ at → ((i : ℕ) → ((i < at + 4) ⊎ (at + 4 + 4 ≤ i)) → slice_index c i ≡ slice_index b i)
    → u32_at d (at + 8) ≡ 4096 → ((i : ℕ) → ((i < at + 8) ⊎ (at + 8 + 4 ≤ i)) → slice_index d i ≡ slice_index c i)
    → cell_size e (at + 32) ≡ 4064 → is_allocated e (at + 32) ≡ false → ((i : ℕ) → ((i < at + 32) ⊎ (at + 32 + 4 ≤ i)) → slice_index e i ≡ slice_index d i)
    → IsMadePage a e at × SameWithin a e 0 at × SameFrom a e (at + 4096)
page_laid a b c d e at sig b_same own c_same size d_same cell free e_same = (
  record {
    signature = words_same b e at (λ i low high. e_same i (inl (omega (arith, high))) ∙ d_same i (inl (omega (arith, high))) ∙ c_same i (inl (omega (arith, high)))) ∙ sig;
    own_offset = words_same c e (at + 4) (λ i low high. e_same i (inl (omega (arith, high))) ∙ d_same i (inl (omega (arith, high)))) ∙ own;
    size_is = words_same d e (at + 8) (λ i low high. e_same i (inl (omega (arith, high)))) ∙ size;
    cell_is = cell;
    is_free = free;
    header = λ i low high. e_same i (inl high) ∙ d_same i (inr (omega (arith, low))) ∙ c_same i (inr (omega (arith, low))) ∙ b_same i (inr (omega (arith, low)));
    rest = λ i low high. e_same i (inr (omega (arith, low))) ∙ d_same i (inr (omega (arith, low))) ∙ c_same i (inr (omega (arith, low))) ∙ b_same i (inr (omega (arith, low)));
  },
  (λ i low high. e_same i (inl (omega (arith, high))) ∙ d_same i (inl (omega (arith, high))) ∙ c_same i (inl (omega (arith, high))) ∙ b_same i (inl high)),
  (λ i low. e_same i (inr (omega (arith, low))) ∙ d_same i (inr (omega (arith, low))) ∙ c_same i (inr (omega (arith, low))) ∙ b_same i (inr (omega (arith, low)))),
)

-- nothing is mended yet
pub mending_start : (bytes : List ℕ) (gaps : List Gap) → gaps ≡ [] → IsMendedTo bytes bytes gaps 0 0
mending_start bytes gaps none = rw none (record { len = refl; so_far = nothing; rest = λ i low. refl })

-- one bin more is mended
pub bins_on : (old mid new : List ℕ) (before gaps : List Gap) (at next : ℕ) → IsMendedTo old mid before at at → MendsBin mid new before gaps at next → IsMendedTo old new gaps next next
bins_on old mid new before gaps at next s m = m.mended old s
