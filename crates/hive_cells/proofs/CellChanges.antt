-- The three changes of cells: a cell becomes allocated or free, a free cell is split, two free cells are joined.
use Rattle.std.proofs.Common.{◌≡◌, ◌≢◌, ℕ, ◌+◌, ◌-◌, ◌*◌, ◌%◌, ◌/◌, ◌<◌, ◌≤◌, Bool, false, List, length, refl, sym, ◌∙◌, subst, inl, inr, arith, ap, true}
use Rattle.std.specs.Prelude.{slice_set, ◌⊎◌}
use Rattle.std.proofs.lemmas.Bool.{cases_eq, cases_lt, cases_order}
use Rattle.hive_cells.specs.Tiles.{u32_at, cell_size, is_allocated, BeginsCell, IsAllocatedCell, IsFreeCell}
use Rattle.hive_cells.specs.Marks.{Mark, Inside, Bin, Cell, mark_at, CellMarked, IsMarked, IsCellMarkedAt, IsWholeCell}
use Rattle.hive_cells.specs.Changes.{OthersStay, AllStay, PutsSize, RewritesWithin, StaysFree, Writes}
use Rattle.hive_cells.proofs.Region.{free_was, free_is}
use Rattle.hive_cells.specs.Starts.{HasStartBits, AreStarts, SetsStartBit, is_cell_mark, is_start, OtherCells}
use Rattle.hive_cells.proofs.Reached.{whole_at_mark, starts_at_mark, mark_at_start}
use Rattle.hive_cells.proofs.Marking.{SetsMark, set_mark}
use Rattle.hive_cells.proofs.Region.{ChangesCells, size_same, kind_same, all_again, stays_at, same_at, words_same}

-- a size that is put leaves the words before and after it
pub puts_beside : (old new : List ℕ) (at size : ℕ) (kind : Bool) → PutsSize old new at size kind → (other : ℕ) → ((other + 4 ≤ at) ⊎ (at + 4 ≤ other)) → u32_at new other ≡ u32_at old other
puts_beside old new at size kind p other (inl low) = words_same old new other (λ i after before. p.others i (inl (omega arith)))
puts_beside old new at size kind p other (inr high) = words_same old new other (λ i after before. p.others i (inr (omega arith)))

-- ---- a cell becomes allocated or free, or gets other data

module _ (bytes bytes' : List ℕ) (marks : List Mark) (k : ℕ) (m : IsMarked bytes marks) (is_cell : mark_at marks k ≡ Cell) (r : RewritesWithin bytes bytes' (8 * k) (8 * k + cell_size bytes (8 * k))) (same_size : cell_size bytes' (8 * k) ≡ cell_size bytes (8 * k)) where
  turns : ChangesCells bytes bytes' marks marks k (k + cell_size bytes (8 * k) / 8)
  turns =
      let c : CellMarked bytes marks (length bytes) k = m.all.cells k is_cell in
      let eights : cell_size bytes (8 * k) % 8 ≡ 0 = c.sound.eights in
      let least : 8 ≤ cell_size bytes (8 * k) = c.sound.least in
      let within : 8 * k + cell_size bytes (8 * k) ≤ length bytes = c.sound.within in
      let size : cell_size bytes' (8 * k) ≡ cell_size bytes (8 * k) = same_size in
      let to : 8 * (k + cell_size bytes (8 * k) / 8) ≡ 8 * k + cell_size bytes (8 * k) = omega arith in
      record {
        len = r.len;
        marks_len = refl;
        some = omega arith;
        within = omega arith;
        begins = is_cell;
        ends = λ before. c.behind (k + cell_size bytes (8 * k) / 8) to before;
        one_bin = λ j after before is_bin. (let inside : mark_at marks j ≡ Inside = c.inside j after (omega arith) in let no : ⊥ = cc in no);
        bytes_before = λ i before. r.others i (inl before);
        bytes_behind = λ i after. r.others i (inr (omega arith));
        marks_before = λ j before. refl;
        marks_behind = λ j after. refl;
        begins_again = is_cell;
        no_bin = λ j after before is_bin. elim (cases_eq j k) [
          | inl same ↦ (let no : ⊥ = cc in no)
          | inr apart ↦ (let inside : mark_at marks j ≡ Inside = c.inside j (omega arith) (omega arith) in let no : ⊥ = cc in no)
        ];
        cells = λ j after before found. elim (cases_eq j k) [
          | inl same ↦ subst (λ (x : ℕ). CellMarked bytes' marks (8 * (k + cell_size bytes (8 * k) / 8)) x) (sym same) (record {
            sound = record { eights = omega arith; least = omega arith; within = omega arith };
            inside = λ i later inner. c.inside i later (omega arith);
            behind = λ i is inner. absurd (omega arith);
          })
          | inr apart ↦ absurd (let inside : mark_at marks j ≡ Inside = c.inside j (omega arith) (omega arith) in let no : ⊥ = cc in no)
        ];
      }

  -- what is marked tiles again
  pub turned_marked : IsMarked bytes' marks
  turned_marked = all_again bytes bytes' marks marks k (k + cell_size bytes (8 * k) / 8) m.all turns m

  -- all other allocated cells stay
  pub turned_stay : OthersStay bytes bytes' (8 * k)
  turned_stay at apart =
      let c : CellMarked bytes marks (length bytes) k = m.all.cells k is_cell in
      let eights : cell_size bytes (8 * k) % 8 ≡ 0 = c.sound.eights in
      let other : k ≤ at / 8 → at / 8 < k + cell_size bytes (8 * k) / 8 → IsCellMarkedAt marks at → ⊥ =
      (λ after before w.
      let slot : 8 * (at / 8) ≡ at = omega (arith, w.eights) in
      let inside : mark_at marks (at / 8) ≡ Inside = c.inside (at / 8) (omega arith) (omega arith) in
      let found : mark_at marks (at / 8) ≡ Cell = w.is_cell in
      cc) in
      stays_at bytes bytes' marks marks k (k + cell_size bytes (8 * k) / 8) m.all turns m at (λ after before w. absurd (other after before w)) (λ after before w. absurd (other after before w))

  -- and all other cells are the same
  pub turned_same : OtherCells bytes bytes' (8 * k) (8 * k)
  turned_same at apart _ =
      let c : CellMarked bytes marks (length bytes) k = m.all.cells k is_cell in
      let eights : cell_size bytes (8 * k) % 8 ≡ 0 = c.sound.eights in
      let other : k ≤ at / 8 → at / 8 < k + cell_size bytes (8 * k) / 8 → IsCellMarkedAt marks at → ⊥ =
      (λ after before w.
      let slot : 8 * (at / 8) ≡ at = omega (arith, w.eights) in
      let inside : mark_at marks (at / 8) ≡ Inside = c.inside (at / 8) (omega arith) (omega arith) in
      let found : mark_at marks (at / 8) ≡ Cell = w.is_cell in
      cc) in
      same_at bytes bytes' marks marks k (k + cell_size bytes (8 * k) / 8) m.all turns m at other other

-- ---- a free cell is split

module _ (bytes half bytes' : List ℕ) (marks : List Mark) (k a rest : ℕ) (m : IsMarked bytes marks) (is_cell : mark_at marks k ≡ Cell) (is_free : is_allocated bytes (8 * k) ≡ false) (whole : cell_size bytes (8 * k) ≡ 8 * a + rest) (some : 0 < a) (more : 8 ≤ rest)
    (p : PutsSize bytes half (8 * (k + a)) rest false) (q : PutsSize half bytes' (8 * k) (8 * a) false) where
  split_marks : List Mark
  split_marks = slice_set marks (k + a) Cell

  split_set : SetsMark marks split_marks (k + a) Cell
  unfolding split_marks
  split_set =
      let within : 8 * k + cell_size bytes (8 * k) ≤ length bytes = (m.all.cells k is_cell).sound.within in
      set_mark marks (k + a) Cell (omega (arith, m.all.len))

  second_size : cell_size bytes' (8 * (k + a)) ≡ rest
  second_size = size_same half bytes' (8 * (k + a)) (puts_beside half bytes' (8 * k) (8 * a) false q (8 * (k + a)) (inr (omega arith))) ∙ p.size_is

  second_free : is_allocated bytes' (8 * (k + a)) ≡ false
  second_free = kind_same half bytes' (8 * (k + a)) (puts_beside half bytes' (8 * k) (8 * a) false q (8 * (k + a)) (inr (omega arith))) ∙ p.kind_is

  splits : ChangesCells bytes bytes' marks split_marks k (k + a + rest / 8)
  splits =
      let c : CellMarked bytes marks (length bytes) k = m.all.cells k is_cell in
      let s : SetsMark marks split_marks (k + a) Cell = split_set in
      let eights : cell_size bytes (8 * k) % 8 ≡ 0 = c.sound.eights in
      let within : 8 * k + cell_size bytes (8 * k) ≤ length bytes = c.sound.within in
      let first_size : cell_size bytes' (8 * k) ≡ 8 * a = q.size_is in
      let behind_size : cell_size bytes' (8 * (k + a)) ≡ rest = second_size in
      let rest_eights : rest % 8 ≡ 0 = omega arith in
      let to : 8 * (k + a + rest / 8) ≡ 8 * k + cell_size bytes (8 * k) = omega arith in
      record {
        len = q.len ∙ p.len;
        marks_len = s.len;
        some = omega arith;
        within = omega arith;
        begins = is_cell;
        ends = λ before. c.behind (k + a + rest / 8) to before;
        one_bin = λ j after before is_bin. (let inside : mark_at marks j ≡ Inside = c.inside j after (omega arith) in let no : ⊥ = cc in no);
        bytes_before = λ i before. q.others i (inl before) ∙ p.others i (inl (omega arith));
        bytes_behind = λ i after. q.others i (inr (omega arith)) ∙ p.others i (inr (omega arith));
        marks_before = λ j before. s.others j (omega arith);
        marks_behind = λ j after. s.others j (omega arith);
        begins_again = s.others k (omega arith) ∙ is_cell;
        no_bin = λ j after before is_bin. elim (cases_eq j (k + a)) [
          | inl same ↦ (let here : mark_at split_marks (k + a) ≡ Cell = s.here in let no : ⊥ = cc in no)
          | inr apart ↦ (
              let was : mark_at marks j ≡ Bin = sym (s.others j apart) ∙ is_bin in
              elim (cases_eq j k) [
                | inl same ↦ (let no : ⊥ = cc in no)
                | inr other ↦ (let inside : mark_at marks j ≡ Inside = c.inside j (omega arith) (omega arith) in let no : ⊥ = cc in no)
              ]
              )
        ];
        cells = λ j after before found. elim (cases_eq j (k + a)) [
          | inl same ↦ subst (λ (x : ℕ). CellMarked bytes' split_marks (8 * (k + a + rest / 8)) x) (sym same) (record {
            sound = record { eights = omega arith; least = omega arith; within = omega arith };
            inside = λ i later inner. s.others i (omega arith) ∙ c.inside i (omega arith) (omega arith);
            behind = λ i is inner. absurd (omega arith);
          })
          | inr apart ↦ elim (cases_eq j k) [
            | inl same ↦ subst (λ (x : ℕ). CellMarked bytes' split_marks (8 * (k + a + rest / 8)) x) (sym same) (record {
              sound = record { eights = omega arith; least = omega arith; within = omega arith };
              inside = λ i later inner. s.others i (omega arith) ∙ c.inside i later (omega arith);
              behind = λ i is inner none. (
                  let here : mark_at split_marks (k + a) ≡ Cell = s.here in
                  let at_is : i ≡ k + a = omega arith in
                  let no : ⊥ = cc in no
                  );
            })
            | inr other ↦ absurd (
                let was : mark_at marks j ≡ Cell = sym (s.others j apart) ∙ found in
                let inside : mark_at marks j ≡ Inside = c.inside j (omega arith) (omega arith) in
                let no : ⊥ = cc in no
                )
          ]
        ];
      }

  pub split_marked : IsMarked bytes' (slice_set marks (k + a) Cell)
  unfolding split_marks
  split_marked = all_again bytes bytes' marks split_marks k (k + a + rest / 8) m.all splits m

  -- all allocated cells stay
  pub split_stay : AllStay bytes bytes'
  split_stay at =
      let c : CellMarked bytes marks (length bytes) k = m.all.cells k is_cell in
      let s : SetsMark marks split_marks (k + a) Cell = split_set in
      let eights : cell_size bytes (8 * k) % 8 ≡ 0 = c.sound.eights in
      stays_at bytes bytes' marks split_marks k (k + a + rest / 8) m.all splits m at
      (λ after before w.
      let slot : 8 * (at / 8) ≡ at = omega (arith, w.eights) in
      let found : mark_at marks (at / 8) ≡ Cell = w.is_cell in
      elim (cases_eq (at / 8) k) [
        | inl same ↦ (let at_is : at ≡ 8 * k = omega arith in ap (is_allocated bytes) at_is ∙ is_free)
        | inr other ↦ absurd (let inside : mark_at marks (at / 8) ≡ Inside = c.inside (at / 8) (omega arith) (omega arith) in let no : ⊥ = cc in no)
      ])
      (λ after before w.
      let slot : 8 * (at / 8) ≡ at = omega (arith, w.eights) in
      let found : mark_at split_marks (at / 8) ≡ Cell = w.is_cell in
      elim (cases_eq (at / 8) k) [
        | inl same ↦ (let at_is : at ≡ 8 * k = omega arith in ap (is_allocated bytes') at_is ∙ q.kind_is)
        | inr other ↦ elim (cases_eq (at / 8) (k + a)) [
          | inl same ↦ (let at_is : at ≡ 8 * (k + a) = omega arith in ap (is_allocated bytes') at_is ∙ second_free)
          | inr apart ↦ absurd (
              let was : mark_at marks (at / 8) ≡ Cell = sym (s.others (at / 8) apart) ∙ found in
              let inside : mark_at marks (at / 8) ≡ Inside = c.inside (at / 8) (omega arith) (omega arith) in
              let no : ⊥ = cc in no
              )
        ]
      ])

  -- and all other cells are the same
  pub split_same : OtherCells bytes bytes' (8 * k) (8 * (k + a))
  split_same at not_first not_second =
      let c : CellMarked bytes marks (length bytes) k = m.all.cells k is_cell in
      let s : SetsMark marks split_marks (k + a) Cell = split_set in
      let eights : cell_size bytes (8 * k) % 8 ≡ 0 = c.sound.eights in
      same_at bytes bytes' marks split_marks k (k + a + rest / 8) m.all splits m at
      (λ after before w.
      let slot : 8 * (at / 8) ≡ at = omega (arith, w.eights) in
      let found : mark_at marks (at / 8) ≡ Cell = w.is_cell in
      let inside : mark_at marks (at / 8) ≡ Inside = c.inside (at / 8) (omega arith) (omega arith) in
      cc)
      (λ after before w.
      let slot : 8 * (at / 8) ≡ at = omega (arith, w.eights) in
      let found : mark_at split_marks (at / 8) ≡ Cell = w.is_cell in
      let was : mark_at marks (at / 8) ≡ Cell = sym (s.others (at / 8) (omega arith)) ∙ found in
      let inside : mark_at marks (at / 8) ≡ Inside = c.inside (at / 8) (omega arith) (omega arith) in
      cc)

  -- both cells begin
  pub split_first : BeginsCell bytes' (8 * k)
  unfolding split_marks
  split_first =
      let slot : 8 * k / 8 ≡ k = omega arith in
      starts_at_mark bytes' split_marks split_marked (8 * k) (record { eights = omega arith; is_cell = ap (mark_at split_marks) slot ∙ split_set.others k (omega arith) ∙ is_cell })

  pub split_second : BeginsCell bytes' (8 * (k + a))
  unfolding split_marks
  split_second =
      let slot : 8 * (k + a) / 8 ≡ k + a = omega arith in
      starts_at_mark bytes' split_marks split_marked (8 * (k + a)) (record { eights = omega arith; is_cell = ap (mark_at split_marks) slot ∙ split_set.here })

-- ---- two free cells are joined

module _ (bytes bytes' : List ℕ) (marks : List Mark) (k a rest : ℕ) (m : IsMarked bytes marks) (is_cell : mark_at marks k ≡ Cell) (is_next : mark_at marks (k + a) ≡ Cell)
    (first_free : is_allocated bytes (8 * k) ≡ false) (next_free : is_allocated bytes (8 * (k + a)) ≡ false) (first_size : cell_size bytes (8 * k) ≡ 8 * a) (next_size : cell_size bytes (8 * (k + a)) ≡ rest)
    (q : PutsSize bytes bytes' (8 * k) (8 * a + rest) false) where
  join_marks : List Mark
  join_marks = slice_set marks (k + a) Inside

  join_set : SetsMark marks join_marks (k + a) Inside
  unfolding join_marks
  join_set =
      let within : 8 * (k + a) + cell_size bytes (8 * (k + a)) ≤ length bytes = (m.all.cells (k + a) is_next).sound.within in
      let least : 8 ≤ cell_size bytes (8 * (k + a)) = (m.all.cells (k + a) is_next).sound.least in
      set_mark marks (k + a) Inside (omega (arith, m.all.len))

  joins : ChangesCells bytes bytes' marks join_marks k (k + a + rest / 8)
  joins =
      let c : CellMarked bytes marks (length bytes) k = m.all.cells k is_cell in
      let d : CellMarked bytes marks (length bytes) (k + a) = m.all.cells (k + a) is_next in
      let s : SetsMark marks join_marks (k + a) Inside = join_set in
      let least : 8 ≤ cell_size bytes (8 * k) = c.sound.least in
      let next_least : 8 ≤ cell_size bytes (8 * (k + a)) = d.sound.least in
      let next_eights : cell_size bytes (8 * (k + a)) % 8 ≡ 0 = d.sound.eights in
      let within : 8 * (k + a) + cell_size bytes (8 * (k + a)) ≤ length bytes = d.sound.within in
      let size : cell_size bytes' (8 * k) ≡ 8 * a + rest = q.size_is in
      let rest_eights : rest % 8 ≡ 0 = omega arith in
      let to : 8 * (k + a + rest / 8) ≡ 8 * (k + a) + cell_size bytes (8 * (k + a)) = omega arith in
      let inner : (j : ℕ) → k < j → j < k + a + rest / 8 → mark_at join_marks j ≡ Inside =
      (λ j after before. elim (cases_order j (k + a)) [
        | inl same ↦ ap (mark_at join_marks) same ∙ s.here
        | inr apart ↦ elim apart [
          | inl low ↦ s.others j (omega arith) ∙ c.inside j after (omega arith)
          | inr high ↦ s.others j (omega arith) ∙ d.inside j high (omega arith)
        ]
      ]) in
      record {
        len = q.len;
        marks_len = s.len;
        some = omega arith;
        within = omega arith;
        begins = is_cell;
        ends = λ before. d.behind (k + a + rest / 8) to before;
        one_bin = λ j after before is_bin. elim (cases_eq j (k + a)) [
          | inl same ↦ (let no : ⊥ = cc in no)
          | inr apart ↦ (let inside : mark_at join_marks j ≡ Inside = inner j after before in let was : mark_at join_marks j ≡ mark_at marks j = s.others j apart in let no : ⊥ = cc in no)
        ];
        bytes_before = λ i before. q.others i (inl before);
        bytes_behind = λ i after. q.others i (inr (omega arith));
        marks_before = λ j before. s.others j (omega arith);
        marks_behind = λ j after. s.others j (omega arith);
        begins_again = s.others k (omega arith) ∙ is_cell;
        no_bin = λ j after before is_bin. elim (cases_eq j k) [
          | inl same ↦ (let begins : mark_at join_marks k ≡ Cell = s.others k (omega arith) ∙ is_cell in let no : ⊥ = cc in no)
          | inr apart ↦ (let inside : mark_at join_marks j ≡ Inside = inner j (omega arith) before in let no : ⊥ = cc in no)
        ];
        cells = λ j after before found. elim (cases_eq j k) [
          | inl same ↦ subst (λ (x : ℕ). CellMarked bytes' join_marks (8 * (k + a + rest / 8)) x) (sym same) (record {
            sound = record { eights = omega arith; least = omega arith; within = omega arith };
            inside = λ i later low. inner i later (omega arith);
            behind = λ i is low. absurd (omega arith);
          })
          | inr apart ↦ absurd (let inside : mark_at join_marks j ≡ Inside = inner j (omega arith) before in let no : ⊥ = cc in no)
        ];
      }

  pub joined_marked : IsMarked bytes' (slice_set marks (k + a) Inside)
  unfolding join_marks
  joined_marked = all_again bytes bytes' marks join_marks k (k + a + rest / 8) m.all joins m

  -- all allocated cells stay
  pub joined_stay : AllStay bytes bytes'
  joined_stay at =
      let c : CellMarked bytes marks (length bytes) k = m.all.cells k is_cell in
      let d : CellMarked bytes marks (length bytes) (k + a) = m.all.cells (k + a) is_next in
      let s : SetsMark marks join_marks (k + a) Inside = join_set in
      let next_eights : cell_size bytes (8 * (k + a)) % 8 ≡ 0 = d.sound.eights in
      let was_inside : (j : ℕ) → k < j → j ≢ k + a → j < k + a + rest / 8 → mark_at marks j ≡ Inside =
      (λ j after apart before. elim (cases_lt j (k + a)) [
        | inl low ↦ c.inside j after (omega arith)
        | inr high ↦ d.inside j (omega arith) (omega arith)
      ]) in
      stays_at bytes bytes' marks join_marks k (k + a + rest / 8) m.all joins m at
      (λ after before w.
      let slot : 8 * (at / 8) ≡ at = omega (arith, w.eights) in
      let found : mark_at marks (at / 8) ≡ Cell = w.is_cell in
      elim (cases_eq (at / 8) k) [
        | inl same ↦ (let at_is : at ≡ 8 * k = omega arith in ap (is_allocated bytes) at_is ∙ first_free)
        | inr other ↦ elim (cases_eq (at / 8) (k + a)) [
          | inl same ↦ (let at_is : at ≡ 8 * (k + a) = omega arith in ap (is_allocated bytes) at_is ∙ next_free)
          | inr apart ↦ absurd (let inside : mark_at marks (at / 8) ≡ Inside = was_inside (at / 8) (omega arith) apart before in let no : ⊥ = cc in no)
        ]
      ])
      (λ after before w.
      let slot : 8 * (at / 8) ≡ at = omega (arith, w.eights) in
      let found : mark_at join_marks (at / 8) ≡ Cell = w.is_cell in
      elim (cases_eq (at / 8) k) [
        | inl same ↦ (let at_is : at ≡ 8 * k = omega arith in ap (is_allocated bytes') at_is ∙ q.kind_is)
        | inr other ↦ elim (cases_eq (at / 8) (k + a)) [
          | inl same ↦ absurd (let here : mark_at join_marks (k + a) ≡ Inside = s.here in let no : ⊥ = cc in no)
          | inr apart ↦ absurd (
              let was : mark_at marks (at / 8) ≡ Cell = sym (s.others (at / 8) apart) ∙ found in
              let inside : mark_at marks (at / 8) ≡ Inside = was_inside (at / 8) (omega arith) apart before in
              let no : ⊥ = cc in no
              )
        ]
      ])

  -- and all other cells are the same
  pub joined_same : OtherCells bytes bytes' (8 * k) (8 * (k + a))
  joined_same at not_first not_next =
      let c : CellMarked bytes marks (length bytes) k = m.all.cells k is_cell in
      let d : CellMarked bytes marks (length bytes) (k + a) = m.all.cells (k + a) is_next in
      let s : SetsMark marks join_marks (k + a) Inside = join_set in
      let next_eights : cell_size bytes (8 * (k + a)) % 8 ≡ 0 = d.sound.eights in
      let was_inside : (j : ℕ) → k < j → j ≢ k + a → j < k + a + rest / 8 → mark_at marks j ≡ Inside =
      (λ j after apart before. elim (cases_lt j (k + a)) [
        | inl low ↦ c.inside j after (omega arith)
        | inr high ↦ d.inside j (omega arith) (omega arith)
      ]) in
      same_at bytes bytes' marks join_marks k (k + a + rest / 8) m.all joins m at
      (λ after before w.
      let slot : 8 * (at / 8) ≡ at = omega (arith, w.eights) in
      let found : mark_at marks (at / 8) ≡ Cell = w.is_cell in
      let inside : mark_at marks (at / 8) ≡ Inside = was_inside (at / 8) (omega arith) (omega arith) before in
      cc)
      (λ after before w.
      let slot : 8 * (at / 8) ≡ at = omega (arith, w.eights) in
      let found : mark_at join_marks (at / 8) ≡ Cell = w.is_cell in
      let was : mark_at marks (at / 8) ≡ Cell = sym (s.others (at / 8) (omega arith)) ∙ found in
      let inside : mark_at marks (at / 8) ≡ Inside = was_inside (at / 8) (omega arith) (omega arith) before in
      cc)

  -- the first cell begins where it did, and the other one no more
  pub joined_first : BeginsCell bytes' (8 * k)
  unfolding join_marks
  joined_first =
      let slot : 8 * k / 8 ≡ k = omega arith in
      let least : 8 ≤ cell_size bytes (8 * k) = (m.all.cells k is_cell).sound.least in
      starts_at_mark bytes' join_marks joined_marked (8 * k) (record { eights = omega arith; is_cell = ap (mark_at join_marks) slot ∙ join_set.others k (omega arith) ∙ is_cell })

  pub joined_gone : ¬ BeginsCell bytes' (8 * (k + a))
  unfolding join_marks
  joined_gone found =
      let slot : 8 * (k + a) / 8 ≡ k + a = omega arith in
      let marked : mark_at join_marks (k + a) ≡ Cell = ap (mark_at join_marks) (sym slot) ∙ (mark_at_start bytes' join_marks joined_marked found.0 (8 * (k + a)) found.1).is_cell in
      let here : mark_at join_marks (k + a) ≡ Inside = join_set.here in
      cc

-- ---- the same by offsets, with the bits

-- a change leaves what is kept, what stays, and all cells but for the cells at two offsets; a cell begins at the first
-- of them
pub record Changed (old new words : List ℕ) (Stay : Type 0) (a b : ℕ) : Type 0 where
  pub kept : HasStartBits new words
  pub stay : Stay
  pub cells : OtherCells old new a b
  pub begins : BeginsCell new a

-- the bits if one mark is set
pub puts_same : (bytes bytes' : List ℕ) (marks marks' : List Mark) (words words' : List ℕ) (n : ℕ) (kind : Mark) → AreStarts bytes marks words → SetsMark marks marks' n kind → SetsStartBit words words' n (is_cell_mark kind) → length bytes' ≡ length bytes → AreStarts bytes' marks' words'
puts_same bytes bytes' marks marks' words words' n kind b s p len =
    record {
      len = omega (arith, b.len, p.len);
      same = λ j. elim (cases_eq j n) [
        | inl same ↦ ap (is_start words') same ∙ p.here ∙ ap is_cell_mark (sym s.here) ∙ ap (λ (x : ℕ). is_cell_mark (mark_at marks' x)) (sym same)
        | inr other ↦ p.others j other ∙ b.same j ∙ ap is_cell_mark (sym (s.others j other))
      ];
    }

-- where a cell that begins is marked
pub slot_of : (bytes words : List ℕ) (k : HasStartBits bytes words) (at : ℕ) → BeginsCell bytes at → IsCellMarkedAt k.marks at
slot_of bytes words k at found = mark_at_start bytes k.marks k.all found.0 at found.1

-- a cell that was written and kept its size
pub rewritten : (bytes bytes' words : List ℕ) (at : ℕ) → HasStartBits bytes words → BeginsCell bytes at → RewritesWithin bytes bytes' at (at + cell_size bytes at) → cell_size bytes' at ≡ cell_size bytes at → Changed bytes bytes' words (OthersStay bytes bytes' at) at at
rewritten bytes bytes' words at k found r same =
    let w : IsCellMarkedAt k.marks at = slot_of bytes words k at found in
    let slot : 8 * (at / 8) ≡ at = omega (arith, w.eights) in
    let here : RewritesWithin bytes bytes' (8 * (at / 8)) (8 * (at / 8) + cell_size bytes (8 * (at / 8))) = subst (λ (x : ℕ). RewritesWithin bytes bytes' x (x + cell_size bytes x)) (sym slot) r in
    let size : cell_size bytes' (8 * (at / 8)) ≡ cell_size bytes (8 * (at / 8)) = subst (λ (x : ℕ). cell_size bytes' x ≡ cell_size bytes x) (sym slot) same in
    let all : IsMarked bytes' k.marks = turned_marked bytes bytes' k.marks (at / 8) k.all w.is_cell here size in
    record {
      kept = record { marks = k.marks; all = all; starts = record { len = r.len ∙ k.starts.len; same = k.starts.same } };
      stay = subst (λ (x : ℕ). OthersStay bytes bytes' x) slot (turned_stay bytes bytes' k.marks (at / 8) k.all w.is_cell here size);
      cells = subst (λ (x : ℕ). OtherCells bytes bytes' x x) slot (turned_same bytes bytes' k.marks (at / 8) k.all w.is_cell here size);
      begins = starts_at_mark bytes' k.marks all at w;
    }

-- a cell that turned
pub turned : (bytes bytes' words : List ℕ) (at size : ℕ) (kind : Bool) → HasStartBits bytes words → BeginsCell bytes at → size ≡ cell_size bytes at → PutsSize bytes bytes' at size kind → Changed bytes bytes' words (OthersStay bytes bytes' at) at at
turned bytes bytes' words at size kind k found size_is p =
    let least : 8 ≤ cell_size bytes at = (whole_at_mark bytes k.marks k.all at (slot_of bytes words k at found)).least in
    rewritten bytes bytes' words at k found (record { len = p.len; others = λ i out. p.others i (elim out [ inl low ↦ inl low | inr high ↦ inr (omega arith) ]) }) (p.size_is ∙ size_is)

-- a free cell that was split
pub was_split : (bytes half bytes' words words' : List ℕ) (at size rest : ℕ) → HasStartBits bytes words → IsFreeCell bytes at → cell_size bytes at ≡ size + rest → size % 8 ≡ 0 → 8 ≤ size → 8 ≤ rest
    → PutsSize bytes half (at + size) rest false → PutsSize half bytes' at size false → SetsStartBit words words' ((at + size) / 8) true
    → Changed bytes bytes' words' (AllStay bytes bytes') at (at + size) × IsFreeCell bytes' (at + size)
was_split bytes half bytes' words words' at size rest k f whole eights least more p q put =
    let w : IsCellMarkedAt k.marks at = slot_of bytes words k at f.0 in
    let slot : at ≡ 8 * (at / 8) = omega (arith, w.eights) in
    let size_is : size ≡ 8 * (size / 8) = omega arith in
    let whole_here : cell_size bytes (8 * (at / 8)) ≡ 8 * (size / 8) + rest = ap (cell_size bytes) (sym slot) ∙ whole ∙ ap (λ (x : ℕ). x + rest) size_is in
    let free : is_allocated bytes (8 * (at / 8)) ≡ false = ap (is_allocated bytes) (sym slot) ∙ f.1 in
    let sum_is : at + size ≡ 8 * (at / 8 + size / 8) = omega arith in
    let mid : (at + size) / 8 ≡ at / 8 + size / 8 = omega arith in
    let second : PutsSize bytes half (8 * (at / 8 + size / 8)) rest false = subst (λ (x : ℕ). PutsSize bytes half x rest false) sum_is p in
    let first : PutsSize half bytes' (8 * (at / 8)) size false = subst (λ (x : ℕ). PutsSize half bytes' x size false) slot q in
    let first_put : PutsSize half bytes' (8 * (at / 8)) (8 * (size / 8)) false = subst (λ (x : ℕ). PutsSize half bytes' (8 * (at / 8)) x false) size_is first in
    let within : at + cell_size bytes at ≤ length bytes = (whole_at_mark bytes k.marks k.all at w).within in
    let set : SetsMark k.marks (slice_set k.marks ((at + size) / 8) Cell) ((at + size) / 8) Cell = set_mark k.marks ((at + size) / 8) Cell (omega (arith, k.all.all.len)) in (
      record {
        kept = record {
          marks = slice_set k.marks ((at + size) / 8) Cell;
          all = subst (λ (x : ℕ). IsMarked bytes' (slice_set k.marks x Cell)) (sym mid) (split_marked bytes half bytes' k.marks (at / 8) (size / 8) rest k.all w.is_cell free whole_here (omega arith) more second first_put);
          starts = puts_same bytes bytes' k.marks (slice_set k.marks ((at + size) / 8) Cell) words words' ((at + size) / 8) Cell k.starts set put (q.len ∙ p.len);
        };
        stay = split_stay bytes half bytes' k.marks (at / 8) (size / 8) rest k.all w.is_cell free whole_here (omega arith) more second first_put;
        cells = subst (λ (x : ℕ). OtherCells bytes bytes' x (at + size)) (sym slot) (subst (λ (x : ℕ). OtherCells bytes bytes' (8 * (at / 8)) x) (sym sum_is)
            (split_same bytes half bytes' k.marks (at / 8) (size / 8) rest k.all w.is_cell free whole_here (omega arith) more second first_put));
        begins = subst (λ (x : ℕ). BeginsCell bytes' x) (sym slot) (split_first bytes half bytes' k.marks (at / 8) (size / 8) rest k.all w.is_cell free whole_here (omega arith) more second first_put);
      },
      (
        subst (λ (x : ℕ). BeginsCell bytes' x) (sym sum_is) (split_second bytes half bytes' k.marks (at / 8) (size / 8) rest k.all w.is_cell free whole_here (omega arith) more second first_put),
        kind_same half bytes' (at + size) (puts_beside half bytes' at size false q (at + size) (inr (omega arith))) ∙ p.kind_is,
      ),
    )

-- two free cells that were joined
pub were_joined : (bytes bytes' words words' : List ℕ) (at next size : ℕ) → HasStartBits bytes words → IsFreeCell bytes at → IsFreeCell bytes next → next ≡ at + cell_size bytes at
    → size ≡ cell_size bytes at + cell_size bytes next → PutsSize bytes bytes' at size false → SetsStartBit words words' (next / 8) false
    → Changed bytes bytes' words' (AllStay bytes bytes') at next × (¬ BeginsCell bytes' next)
were_joined bytes bytes' words words' at next size k f g behind sum_is q put =
    let w : IsCellMarkedAt k.marks at = slot_of bytes words k at f.0 in
    let v : IsCellMarkedAt k.marks next = slot_of bytes words k next g.0 in
    let slot : at ≡ 8 * (at / 8) = omega (arith, w.eights) in
    let next_slot : next ≡ 8 * (next / 8) = omega (arith, v.eights) in
    let a : ℕ = next / 8 - at / 8 in
    let later : next / 8 ≡ at / 8 + a = omega arith in
    let next_is : next ≡ 8 * (at / 8 + a) = omega arith in
    let first_size : cell_size bytes (8 * (at / 8)) ≡ 8 * a = ap (cell_size bytes) (sym slot) ∙ omega arith in
    let next_size : cell_size bytes (8 * (at / 8 + a)) ≡ cell_size bytes next = ap (cell_size bytes) (sym next_is) in
    let free : is_allocated bytes (8 * (at / 8)) ≡ false = ap (is_allocated bytes) (sym slot) ∙ f.1 in
    let next_free : is_allocated bytes (8 * (at / 8 + a)) ≡ false = ap (is_allocated bytes) (sym next_is) ∙ g.1 in
    let is_next : mark_at k.marks (at / 8 + a) ≡ Cell = ap (mark_at k.marks) (sym later) ∙ v.is_cell in
    let size_is : size ≡ 8 * a + cell_size bytes next = omega arith in
    let here : PutsSize bytes bytes' (8 * (at / 8)) size false = subst (λ (x : ℕ). PutsSize bytes bytes' x size false) slot q in
    let puts : PutsSize bytes bytes' (8 * (at / 8)) (8 * a + cell_size bytes next) false = subst (λ (x : ℕ). PutsSize bytes bytes' (8 * (at / 8)) x false) size_is here in
    let within : next + cell_size bytes next ≤ length bytes = (whole_at_mark bytes k.marks k.all next v).within in
    let least : 8 ≤ cell_size bytes next = (whole_at_mark bytes k.marks k.all next v).least in
    let set : SetsMark k.marks (slice_set k.marks (next / 8) Inside) (next / 8) Inside = set_mark k.marks (next / 8) Inside (omega (arith, k.all.all.len)) in (
      record {
        kept = record {
          marks = slice_set k.marks (next / 8) Inside;
          all = subst (λ (x : ℕ). IsMarked bytes' (slice_set k.marks x Inside)) (sym later) (joined_marked bytes bytes' k.marks (at / 8) a (cell_size bytes next) k.all w.is_cell is_next free next_free first_size next_size puts);
          starts = puts_same bytes bytes' k.marks (slice_set k.marks (next / 8) Inside) words words' (next / 8) Inside k.starts set put q.len;
        };
        stay = joined_stay bytes bytes' k.marks (at / 8) a (cell_size bytes next) k.all w.is_cell is_next free next_free first_size next_size puts;
        cells = subst (λ (x : ℕ). OtherCells bytes bytes' x next) (sym slot) (subst (λ (x : ℕ). OtherCells bytes bytes' (8 * (at / 8)) x) (sym next_is)
            (joined_same bytes bytes' k.marks (at / 8) a (cell_size bytes next) k.all w.is_cell is_next free next_free first_size next_size puts));
        begins = subst (λ (x : ℕ). BeginsCell bytes' x) (sym slot) (joined_first bytes bytes' k.marks (at / 8) a (cell_size bytes next) k.all w.is_cell is_next free next_free first_size next_size puts);
      },
      subst (λ (x : ℕ). ¬ BeginsCell bytes' x) (sym next_is) (joined_gone bytes bytes' k.marks (at / 8) a (cell_size bytes next) k.all w.is_cell is_next free next_free first_size next_size puts),
    )

-- what is free stays so if all cells but an allocated one are the same
free_elsewhere : (old new : List ℕ) (at other : ℕ) → IsAllocatedCell old at → IsAllocatedCell new at → OtherCells old new at at → StaysFree old new other
free_elsewhere old new at other was is cells = elim (cases_eq other at) [
  | inl here ↦ record {
    same = (
      (λ free. let kind : is_allocated new other ≡ false = free.1 in let no : is_allocated new other ≡ true = ap (is_allocated new) here ∙ is.1 in absurd (let e : ⊥ = cc in e)),
      (λ free. let kind : is_allocated old other ≡ false = free.1 in let no : is_allocated old other ≡ true = ap (is_allocated old) here ∙ was.1 in absurd (let e : ⊥ = cc in e)),
    );
    size = λ free. let kind : is_allocated old other ≡ false = free.1 in let no : is_allocated old other ≡ true = ap (is_allocated old) here ∙ was.1 in absurd (let e : ⊥ = cc in e);
  }
  | inr apart ↦ record {
    same = ((λ free. (free_was old new other (cells other apart apart) free).0), (λ free. (free_is old new other (cells other apart apart) free).0));
    size = λ free. (free_is old new other (cells other apart apart) free).1;
  }
]

-- a cell whose data were written
pub written : (bytes bytes' words : List ℕ) (at from len : ℕ) → HasStartBits bytes words → IsAllocatedCell bytes at → at + 4 ≤ from → from + len ≤ at + cell_size bytes at
    → RewritesWithin bytes bytes' from (from + len) → Changed bytes bytes' words (Writes bytes bytes' at from (from + len)) at at
written bytes bytes' words at from len k found low high r =
    let word : u32_at bytes' at ≡ u32_at bytes at = words_same bytes bytes' at (λ i after before. r.others i (inl (omega arith))) in
    let wide : RewritesWithin bytes bytes' at (at + cell_size bytes at) = record { len = r.len; others = λ i out. r.others i (elim out [ inl under ↦ inl (omega arith) | inr over ↦ inr (omega arith) ]) } in
    let all : Changed bytes bytes' words (OthersStay bytes bytes' at) at at = rewritten bytes bytes' words at k found.0 wide (size_same bytes bytes' at word) in
    record {
      kept = all.kept;
      stay = record {
        was = found;
        begins = (all.begins, kind_same bytes bytes' at word ∙ found.1);
        size = size_same bytes bytes' at word;
        others = all.stay;
        free = λ other. free_elsewhere bytes bytes' at other (found.0, found.1) (all.begins, kind_same bytes bytes' at word ∙ found.1) all.cells;
        within = r;
      };
      cells = all.cells;
      begins = all.begins;
    }

-- a cell that begins lies within the data
pub cell_within : (bytes words : List ℕ) (at : ℕ) → HasStartBits bytes words → BeginsCell bytes at → IsWholeCell bytes at
cell_within bytes words at k found = whole_at_mark bytes k.marks k.all at (slot_of bytes words k at found)
