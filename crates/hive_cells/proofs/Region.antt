-- Bytes and marks change within a run of cells of one bin, and what is marked tiles again.
use Rattle.std.proofs.Common.{◌≡◌, ◌≢◌, ℕ, ◌+◌, ◌-◌, ◌*◌, ◌%◌, ◌/◌, ◌<◌, ◌≤◌, true, false, List, length, take, drop, refl, sym, ◌∙◌, inl, inr, arith, ap}
use Rattle.std.specs.Prelude.{slice_index, slice_range, ◌⊎◌}
use Rattle.std.proofs.lemmas.List.{length-take, length-drop, get_or-take, get_or-drop, ext_get_or}
use Rattle.std.proofs.lemmas.Bool.{cases_eq, cases_lt, cases_order}
use Rattle.hive_cells.specs.Changes.{StaysAt}
use Rattle.hive_cells.specs.Starts.{SameCell}
use Rattle.hive_cells.proofs.Reached.{starts_at_mark, mark_at_start}
use Rattle.hive_cells.specs.Tiles.{BeginsCell, IsFreeCell, u32_at, cell_size, is_allocated, cell_data}
use Rattle.hive_cells.specs.Marks.{Mark, Inside, Bin, Cell, mark_at, BinMarked, CellMarked, IsMarkedTo, IsMarked, IsCellMarkedAt}

-- the cells from the slot `from` on, up to the slot `to`, become others; `from` and `to` are in 8 bytes
pub record ChangesCells (bytes bytes' : List ℕ) (marks marks' : List Mark) (from to : ℕ) : Type 0 where
  pub len : length bytes' ≡ length bytes
  pub marks_len : length marks' ≡ length marks
  pub some : from < to
  pub within : 8 * to ≤ length bytes
  pub begins : mark_at marks from ≡ Cell
  pub ends : 8 * to < length bytes → mark_at marks to ≢ Inside
  pub one_bin : (j : ℕ) → from < j → j < to → mark_at marks j ≢ Bin
  pub bytes_before : (i : ℕ) → i < 8 * from → slice_index bytes' i ≡ slice_index bytes i
  pub bytes_behind : (i : ℕ) → 8 * to ≤ i → slice_index bytes' i ≡ slice_index bytes i
  pub marks_before : (j : ℕ) → j < from → mark_at marks' j ≡ mark_at marks j
  pub marks_behind : (j : ℕ) → to ≤ j → mark_at marks' j ≡ mark_at marks j
  pub begins_again : mark_at marks' from ≡ Cell
  pub no_bin : (j : ℕ) → from ≤ j → j < to → mark_at marks' j ≢ Bin
  pub cells : (j : ℕ) → from ≤ j → j < to → mark_at marks' j ≡ Cell → CellMarked bytes' marks' (8 * to) j

-- words in which no byte changed
pub words_same : (bytes bytes' : List ℕ) (at : ℕ) → ((i : ℕ) → at ≤ i → i < at + 4 → slice_index bytes' i ≡ slice_index bytes i) → u32_at bytes' at ≡ u32_at bytes at
unfolding u32_at
words_same bytes bytes' at same = rw (same at (omega arith) (omega arith), same (at + 1) (omega arith) (omega arith), same (at + 2) (omega arith) (omega arith), same (at + 3) (omega arith) (omega arith)) refl

-- the size and the kind of a cell are given by its word
pub size_same : (bytes bytes' : List ℕ) (at : ℕ) → u32_at bytes' at ≡ u32_at bytes at → cell_size bytes' at ≡ cell_size bytes at
unfolding cell_size is_allocated
size_same bytes bytes' at same = rw same refl

pub kind_same : (bytes bytes' : List ℕ) (at : ℕ) → u32_at bytes' at ≡ u32_at bytes at → is_allocated bytes' at ≡ is_allocated bytes at
unfolding is_allocated
kind_same bytes bytes' at same = rw same refl

-- a free cell that is the same was free, with its size
pub free_was : (old new : List ℕ) (at : ℕ) → SameCell old new at → IsFreeCell new at → IsFreeCell old at × (cell_size new at ≡ cell_size old at)
free_was old new at s free =
    let word : u32_at new at ≡ u32_at old at = s.word (s.began free.0) in
    ((s.began free.0, sym (kind_same old new at word) ∙ free.1), size_same old new at word)

-- and is free, with its size
pub free_is : (old new : List ℕ) (at : ℕ) → SameCell old new at → IsFreeCell old at → IsFreeCell new at × (cell_size new at ≡ cell_size old at)
free_is old new at s free =
    let word : u32_at new at ≡ u32_at old at = s.word free.0 in
    ((s.begins free.0, kind_same old new at word ∙ free.1), size_same old new at word)

-- a part of the data in which no byte changed
pub range_same : (bytes bytes' : List ℕ) (from to : ℕ) → to ≤ length bytes' → to ≤ length bytes → ((i : ℕ) → from ≤ i → i < to → slice_index bytes' i ≡ slice_index bytes i) → slice_range bytes' from to ≡ slice_range bytes from to
range_same bytes bytes' from to within' within same =
    let n : ℕ = to - from in
    let long : length (take n (drop from bytes')) ≡ length (take n (drop from bytes)) =
    omega (arith, length-take n (drop from bytes'), length-drop from bytes', length-take n (drop from bytes), length-drop from bytes) in
    ext_get_or 0 (take n (drop from bytes')) (take n (drop from bytes)) long (λ i before.
    let within_part : i < n = omega (arith, length-take n (drop from bytes'), length-drop from bytes') in
    get_or-take n (drop from bytes') i 0 within_part ∙ get_or-drop from bytes' i 0 ∙ same (from + i) (omega arith) (omega arith)
    ∙ sym (get_or-drop from bytes i 0) ∙ sym (get_or-take n (drop from bytes) i 0 within_part))

module _ (bytes bytes' : List ℕ) (marks marks' : List Mark) (from to : ℕ) (m : IsMarkedTo bytes marks (length bytes)) (c : ChangesCells bytes bytes' marks marks' from to) where
  -- a bin that begins outside has its header outside
  bin_outside : (k : ℕ) → mark_at marks k ≡ Bin → ((8 * k + 32 ≤ 8 * from) ⊎ (to ≤ k))
  bin_outside k is_bin =
      let begins : mark_at marks from ≡ Cell = c.begins in
      elim (cases_order k from) [
        | inl same ↦ absurd (let no : ⊥ = cc in no)
        | inr apart ↦ elim apart [
          | inl lower ↦ inl (elim (cases_lt from (k + 4)) [
            | inl low ↦ absurd (let inside : mark_at marks from ≡ Inside = (m.bins k is_bin).header from lower low in let no : ⊥ = cc in no)
            | inr high ↦ omega arith
          ])
          | inr higher ↦ inr (elim (cases_lt k to) [
            | inl low ↦ absurd (c.one_bin k higher low is_bin)
            | inr high ↦ high
          ])
        ]
      ]

  -- a cell that begins outside lies outside
  cell_outside : (k : ℕ) → mark_at marks k ≡ Cell → ((k < from) ⊎ (to ≤ k)) → ((8 * k + cell_size bytes (8 * k) ≤ 8 * from) ⊎ (to ≤ k))
  cell_outside k is_cell (inr high) = inr high
  cell_outside k is_cell (inl low) =
      let begins : mark_at marks from ≡ Cell = c.begins in
      elim (cases_lt (8 * from) (8 * k + cell_size bytes (8 * k))) [
        | inl over ↦ absurd (let inside : mark_at marks from ≡ Inside = (m.cells k is_cell).inside from low over in let no : ⊥ = cc in no)
        | inr under ↦ inl under
      ]

  mark_outside : (j : ℕ) → ((j < from) ⊎ (to ≤ j)) → mark_at marks' j ≡ mark_at marks j
  mark_outside j (inl low) = c.marks_before j low
  mark_outside j (inr high) = c.marks_behind j high

  word_outside : (at : ℕ) → ((at + 4 ≤ 8 * from) ⊎ (8 * to ≤ at)) → u32_at bytes' at ≡ u32_at bytes at
  word_outside at (inl low) = words_same bytes bytes' at (λ i after before. c.bytes_before i (omega arith))
  word_outside at (inr high) = words_same bytes bytes' at (λ i after before. c.bytes_behind i (omega arith))

  bin_again : (k : ℕ) → mark_at marks k ≡ Bin → ((8 * k + 32 ≤ 8 * from) ⊎ (to ≤ k)) → BinMarked bytes' marks' (length bytes') k
  bin_again k is_bin out =
      let b : BinMarked bytes marks (length bytes) k = m.bins k is_bin in
      let here : u32_at bytes' (8 * k) ≡ u32_at bytes (8 * k) = word_outside (8 * k) (elim out [ inl low ↦ inl (omega arith) | inr high ↦ inr (omega arith) ]) in
      let own : u32_at bytes' (8 * k + 4) ≡ u32_at bytes (8 * k + 4) = word_outside (8 * k + 4) (elim out [ inl low ↦ inl (omega arith) | inr high ↦ inr (omega arith) ]) in
      let size : u32_at bytes' (8 * k + 8) ≡ u32_at bytes (8 * k + 8) = word_outside (8 * k + 8) (elim out [ inl low ↦ inl (omega arith) | inr high ↦ inr (omega arith) ]) in
      let len : length bytes' ≡ length bytes = c.len in
      let within : 8 * k + u32_at bytes (8 * k + 8) ≤ length bytes = b.sound.within in
      let pages : u32_at bytes (8 * k + 8) % 4096 ≡ 0 = b.sound.pages in
      let not_empty : u32_at bytes (8 * k + 8) ≢ 0 = b.sound.not_empty in
      record {
        sound = record {
          signature = here ∙ b.sound.signature;
          own_offset = own ∙ b.sound.own_offset;
          pages = omega arith;
          not_empty = λ none. not_empty (sym size ∙ none);
          within = omega arith;
        };
        whole = omega (arith, b.whole);
        header = λ j after before. mark_outside j (elim out [ inl low ↦ inl (omega arith) | inr high ↦ inr (omega arith) ]) ∙ b.header j after before;
        first_cell = λ before. elim (cases_eq (k + 4) from) [
          | inl same ↦ ap (mark_at marks') same ∙ c.begins_again
          | inr apart ↦ mark_outside (k + 4) (elim out [ inl low ↦ inl (omega arith) | inr high ↦ inr (omega arith) ]) ∙ b.first_cell (omega arith)
        ];
        alone = λ j after before bin_mark. elim (cases_lt j from) [
          | inl low ↦ b.alone j after (omega arith) (sym (c.marks_before j low) ∙ bin_mark)
          | inr past ↦ elim (cases_lt j to) [
            | inl inner ↦ c.no_bin j past inner bin_mark
            | inr high ↦ b.alone j after (omega arith) (sym (c.marks_behind j high) ∙ bin_mark)
          ]
        ];
        behind = λ j is before.
            let was : mark_at marks j ≡ Bin = b.behind j (omega arith) (omega arith) in
            let begins : mark_at marks from ≡ Cell = c.begins in
            elim (cases_lt j from) [
              | inl low ↦ c.marks_before j low ∙ was
              | inr past ↦ elim (cases_lt j to) [
                | inl inner ↦ absurd (elim (cases_eq j from) [
                  | inl same ↦ (let no : ⊥ = cc in no)
                  | inr apart ↦ c.one_bin j (omega arith) inner was
                ])
                | inr high ↦ c.marks_behind j high ∙ was
              ]
            ];
      }

  cell_again : (k : ℕ) → mark_at marks k ≡ Cell → ((8 * k + cell_size bytes (8 * k) ≤ 8 * from) ⊎ (to ≤ k)) → CellMarked bytes' marks' (length bytes') k
  cell_again k is_cell out =
      let d : CellMarked bytes marks (length bytes) k = m.cells k is_cell in
      let least : 8 ≤ cell_size bytes (8 * k) = d.sound.least in
      let within : 8 * k + cell_size bytes (8 * k) ≤ length bytes = d.sound.within in
      let eights : cell_size bytes (8 * k) % 8 ≡ 0 = d.sound.eights in
      let len : length bytes' ≡ length bytes = c.len in
      let size : cell_size bytes' (8 * k) ≡ cell_size bytes (8 * k) = size_same bytes bytes' (8 * k) (word_outside (8 * k) (elim out [ inl low ↦ inl (omega arith) | inr high ↦ inr (omega arith) ])) in
      record {
        sound = record { eights = omega arith; least = omega arith; within = omega arith };
        inside = λ j after before. mark_outside j (elim out [ inl low ↦ inl (omega arith) | inr high ↦ inr (omega arith) ]) ∙ d.inside j after (omega arith);
        behind = λ j is before none. elim (cases_eq j from) [
          | inl same ↦ (let begins : mark_at marks' from ≡ Cell = c.begins_again in let no : ⊥ = cc in no)
          | inr apart ↦ d.behind j (omega arith) (omega arith) (sym (mark_outside j (elim out [ inl low ↦ inl (omega arith) | inr high ↦ inr (omega arith) ])) ∙ none)
        ];
      }

  inner_cell : (k : ℕ) → from ≤ k → k < to → mark_at marks' k ≡ Cell → CellMarked bytes' marks' (length bytes') k
  inner_cell k after before is_cell =
      let d : CellMarked bytes' marks' (8 * to) k = c.cells k after before is_cell in
      let within : 8 * k + cell_size bytes' (8 * k) ≤ 8 * to = d.sound.within in
      let all_within : 8 * to ≤ length bytes = c.within in
      let len : length bytes' ≡ length bytes = c.len in
      record {
        sound = record { eights = d.sound.eights; least = d.sound.least; within = omega arith };
        inside = d.inside;
        behind = λ j is inner none. elim (cases_lt j to) [
          | inl low ↦ d.behind j is (omega arith) none
          | inr high ↦ (
              let same : j ≡ to = omega arith in
              c.ends (omega arith) (ap (mark_at marks) (sym same) ∙ sym (c.marks_behind j high) ∙ none)
              )
        ];
      }

  -- the changed cells are marked again, and all else as before
  pub changed_marked : IsMarkedTo bytes' marks' (length bytes')
  changed_marked =
      let some : from < to = c.some in
      let within : 8 * to ≤ length bytes = c.within in
      let len : length bytes' ≡ length bytes = c.len in
      record {
        len = omega (arith, m.len, c.marks_len);
        within = omega arith;
        clear = λ k past. c.marks_behind k (omega arith) ∙ m.clear k (omega arith);
        first = λ _. elim (cases_eq 0 from) [
          | inl same ↦ absurd (
              let begins : mark_at marks from ≡ Cell = c.begins in
              let first : mark_at marks 0 ≡ Bin = m.first (omega arith) in
              let no : ⊥ = cc in no
              )
          | inr apart ↦ c.marks_before 0 (omega arith) ∙ m.first (omega arith)
        ];
        bins = λ k bin_mark.
            let out : (k < from) ⊎ (to ≤ k) = elim (cases_lt k from) [
              | inl low ↦ inl low
              | inr past ↦ elim (cases_lt k to) [ inl inner ↦ absurd (c.no_bin k past inner bin_mark) | inr high ↦ inr high ]
            ] in
            let was : mark_at marks k ≡ Bin = sym (mark_outside k out) ∙ bin_mark in
            bin_again k was (bin_outside k was);
        cells = λ k is_cell. elim (cases_lt k from) [
          | inl low ↦ (let was : mark_at marks k ≡ Cell = sym (c.marks_before k low) ∙ is_cell in cell_again k was (cell_outside k was (inl low)))
          | inr past ↦ elim (cases_lt k to) [
            | inl inner ↦ inner_cell k past inner is_cell
            | inr high ↦ (let was : mark_at marks k ≡ Cell = sym (c.marks_behind k high) ∙ is_cell in cell_again k was (inr high))
          ]
        ];
      }

  -- ---- which allocated cells stay

  pub all_again : IsMarked bytes marks → IsMarked bytes' marks'
  all_again all = record { pages = omega (arith, all.pages, c.len); all = changed_marked }

  kind_outside : (at : ℕ) → at % 8 ≡ 0 → ((at / 8 < from) ⊎ (to ≤ at / 8)) → u32_at bytes' at ≡ u32_at bytes at
  kind_outside at eights out = word_outside at (elim out [ inl low ↦ inl (omega arith) | inr high ↦ inr (omega arith) ])

  -- the data of a cell outside are not written
  data_outside : (at : ℕ) → IsCellMarkedAt marks at → ((at / 8 < from) ⊎ (to ≤ at / 8)) → cell_data bytes' at ≡ cell_data bytes at
  data_outside at w out =
      let eights : at % 8 ≡ 0 = w.eights in
      let slot : 8 * (at / 8) ≡ at = omega arith in
      let far : ((8 * (at / 8) + cell_size bytes (8 * (at / 8)) ≤ 8 * from) ⊎ (to ≤ at / 8)) = cell_outside (at / 8) w.is_cell out in
      let whole : 8 * (at / 8) + cell_size bytes (8 * (at / 8)) ≤ length bytes = (m.cells (at / 8) w.is_cell).sound.within in
      let size_here : cell_size bytes (8 * (at / 8)) ≡ cell_size bytes at = ap (cell_size bytes) slot in
      let size : cell_size bytes' at ≡ cell_size bytes at = size_same bytes bytes' at (kind_outside at eights out) in
      let within : at + cell_size bytes at ≤ length bytes = omega arith in
      ap (slice_range bytes' (at + 4)) (ap (λ (x : ℕ). at + x) size) ∙ range_same bytes bytes' (at + 4) (at + cell_size bytes at) (omega (arith, c.len)) within (λ i after before. elim far [
        | inl low ↦ c.bytes_before i (omega arith)
        | inr high ↦ c.bytes_behind i (omega arith)
      ])

  -- at an offset outside all is as it was
  stays_outside : IsMarked bytes marks → (at : ℕ) → ((at / 8 < from) ⊎ (to ≤ at / 8)) → StaysAt bytes bytes' at
  stays_outside all at out =
      let mark : mark_at marks' (at / 8) ≡ mark_at marks (at / 8) = mark_outside (at / 8) out in
      record {
        same = (
          λ found.
              let w : IsCellMarkedAt marks' at = mark_at_start bytes' marks' (all_again all) found.0.0 at found.0.1 in
              let kind : is_allocated bytes' at ≡ is_allocated bytes at = kind_same bytes bytes' at (kind_outside at w.eights out) in
              (starts_at_mark bytes marks all at (record { eights = w.eights; is_cell = sym mark ∙ w.is_cell }), sym kind ∙ found.1),
          λ found.
              let w : IsCellMarkedAt marks at = mark_at_start bytes marks all found.0.0 at found.0.1 in
              let kind : is_allocated bytes' at ≡ is_allocated bytes at = kind_same bytes bytes' at (kind_outside at w.eights out) in
              (starts_at_mark bytes' marks' (all_again all) at (record { eights = w.eights; is_cell = mark ∙ w.is_cell }), kind ∙ found.1),
        );
        size = λ found. size_same bytes bytes' at (kind_outside at (mark_at_start bytes marks all found.0.0 at found.0.1).eights out);
        kept = λ found. data_outside at (mark_at_start bytes marks all found.0.0 at found.0.1) out;
      }

  -- if no allocated cell begins among the changed ones, before and after, all is as it was
  pub stays_at : IsMarked bytes marks → (at : ℕ)
      → (from ≤ at / 8 → at / 8 < to → IsCellMarkedAt marks at → is_allocated bytes at ≡ false)
      → (from ≤ at / 8 → at / 8 < to → IsCellMarkedAt marks' at → is_allocated bytes' at ≡ false)
      → StaysAt bytes bytes' at
  stays_at all at old_free new_free =
      elim (cases_lt (at / 8) from) [
        | inl low ↦ stays_outside all at (inl low)
        | inr past ↦ elim (cases_lt (at / 8) to) [
          | inl inner ↦ record {
            same = (
              λ found. absurd (let free : is_allocated bytes' at ≡ false = new_free past inner (mark_at_start bytes' marks' (all_again all) found.0.0 at found.0.1) in let yes : is_allocated bytes' at ≡ true = found.1 in let no : ⊥ = cc in no),
              λ found. absurd (let free : is_allocated bytes at ≡ false = old_free past inner (mark_at_start bytes marks all found.0.0 at found.0.1) in let yes : is_allocated bytes at ≡ true = found.1 in let no : ⊥ = cc in no),
            );
            size = λ found. absurd (let free : is_allocated bytes at ≡ false = old_free past inner (mark_at_start bytes marks all found.0.0 at found.0.1) in let yes : is_allocated bytes at ≡ true = found.1 in let no : ⊥ = cc in no);
            kept = λ found. absurd (let free : is_allocated bytes at ≡ false = old_free past inner (mark_at_start bytes marks all found.0.0 at found.0.1) in let yes : is_allocated bytes at ≡ true = found.1 in let no : ⊥ = cc in no);
          }
          | inr high ↦ stays_outside all at (inr high)
        ]
      ]

  -- an offset that isn't among the changed cells
  outside : (at : ℕ) → (from ≤ at / 8 → at / 8 < to → ⊥) → ((at / 8 < from) ⊎ (to ≤ at / 8))
  outside at not_inner = elim (cases_lt (at / 8) from) [
    | inl low ↦ inl low
    | inr past ↦ elim (cases_lt (at / 8) to) [ inl inner ↦ absurd (not_inner past inner) | inr high ↦ inr high ]
  ]

  -- if no cell begins among the changed ones, before and after, the cells are the same
  pub same_at : IsMarked bytes marks → (at : ℕ)
      → (from ≤ at / 8 → at / 8 < to → IsCellMarkedAt marks at → ⊥)
      → (from ≤ at / 8 → at / 8 < to → IsCellMarkedAt marks' at → ⊥)
      → SameCell bytes bytes' at
  same_at all at old_none new_none =
      let was : BeginsCell bytes at → IsCellMarkedAt marks at = (λ found. mark_at_start bytes marks all found.0 at found.1) in
      let now : BeginsCell bytes' at → IsCellMarkedAt marks' at = (λ found. mark_at_start bytes' marks' (all_again all) found.0 at found.1) in
      record {
        begins = λ found.
            let w : IsCellMarkedAt marks at = was found in
            let out : (at / 8 < from) ⊎ (to ≤ at / 8) = outside at (λ past inner. old_none past inner w) in
            starts_at_mark bytes' marks' (all_again all) at (record { eights = w.eights; is_cell = mark_outside (at / 8) out ∙ w.is_cell });
        began = λ found.
            let w : IsCellMarkedAt marks' at = now found in
            let out : (at / 8 < from) ⊎ (to ≤ at / 8) = outside at (λ past inner. new_none past inner w) in
            starts_at_mark bytes marks all at (record { eights = w.eights; is_cell = sym (mark_outside (at / 8) out) ∙ w.is_cell });
        word = λ found.
            let w : IsCellMarkedAt marks at = was found in
            kind_outside at w.eights (outside at (λ past inner. old_none past inner w));
      }
