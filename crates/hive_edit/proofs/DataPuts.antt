-- New data of a value, put into cells.
use Rattle.std.proofs.Common.{◌≡◌, inl, ℕ, ◌<◌, ◌≤◌, true, false, List, [], ◌∷◌, ◌++◌, length, drop, Some, refl, ap, ◌∙◌, arith}
use Rattle.hive_tree_model.specs.Lists.{Once}
use Rattle.hive_cells.specs.Tiles.{Tiles, cell_data}
use Rattle.hive_cells.specs.Bins.{Cells}
use Rattle.hive_edit_laws.proofs.CellWrites.{data_long, fields_over, small_over, begins_over}
use Rattle.hive_edit_laws.proofs.CellsShown.{shown_here}
use Rattle.hive_edit_laws.proofs.ValueRecords.{in_record, in_cell}
use Rattle.hive_savepoint.specs.Puts.{HasData, Overlays, ChangesCell}
use Rattle.hive_edit.specs.DataPlaces.{IsInRecord, IsAtOffset, ReadsData, PutsData}
use Rattle.hive_edit.specs.declared.value_data.NewData.{NewData}
use Rattle.hive_edit.proofs.Words.{same_word}

none_twice : (at : ℕ) → Once (at ∷ [])
none_twice at = ((λ i. i), tt)

-- data in the record are read
pub record_reads : (cells : Cells) (new : NewData) (text : List ℕ) → IsInRecord text new → ReadsData cells [] new text
record_reads cells new text r after kind old now stays long put =
    let t = put.0 in
    let o = put.2 in
    in_record true after now text ((fields_over old now t o (put.1).len).1 ∙ (put.1).size ∙ r.size) r.few
    (small_over old now t text o (put.1).len long r.few (λ i h. (put.1).field i (let f = r.few in omega (arith, h, f)) ∙ r.field i h))

-- data in one cell are read
pub cell_reads : (cells : Cells) (at : ℕ) (new : NewData) (text more : List ℕ) → IsAtOffset text at new → 0 < length text → length text ≤ 16_344 → cells at ≡ Some (text ++ more) → ReadsData cells (at ∷ []) new text
cell_reads cells at new text more r some few here after kind old now stays long put =
    let t = put.0 in
    let f = fields_over old now t put.2 (put.1).len in
    in_cell true after now text more at (f.1 ∙ (put.1).size ∙ r.size)
    (f.2 ∙ same_word t new.field 4 0 ((put.1).field 0 (omega arith)) ((put.1).field 1 (omega arith)) ((put.1).field 2 (omega arith)) ((put.1).field 3 (omega arith)) ∙ r.field)
    some (omega (arith, few)) (λ _. few) (stays at (inl refl) ∙ here)

-- data in the record: no cell changes
pub put_nowhere : (bytes old text : List ℕ) (new : NewData) → IsInRecord text new → PutsData bytes bytes old text new
put_nowhere bytes old text new r before shows = (
  before,
  shows,
  record {
    own = [];
    once = tt;
    takes = λ cell i. absurd i;
    in_place = λ e. absurd (case_of new.in_place r.moved e);
    moved = λ e cell i. absurd i;
    stays = λ cell there apart. refl;
    reads = record_reads before new text r;
  },
)
  where
    case_of : (b : _) → b ≡ false → b ≡ true → ⊥
    case_of b e f = grind (arith, e, f)

-- data in the cell that the old data had
pub put_here : (old_bytes new_bytes : List ℕ) (at : ℕ) (text : List ℕ) (new : NewData) → Tiles old_bytes → HasData old_bytes at (length text) → ChangesCell old_bytes new_bytes at (λ its now. Overlays its now 0 text)
    → IsAtOffset text at new → new.in_place ≡ true → 0 < length text → length text ≤ 16_344 → PutsData old_bytes new_bytes (at ∷ []) text new
put_here old_bytes new_bytes at text new tiles has change is place some few before shows =
    let s = change.cells before shows in
    let d = s.3 (cell_data old_bytes at) (shown_here old_bytes before shows at has.0) in
    let long : length text ≤ length (cell_data old_bytes at) = (let l = data_long old_bytes at tiles has.0 in omega (arith, l, has.1)) in (
      s.0,
      s.1,
      record {
        own = at ∷ [];
        once = none_twice at;
        takes = λ cell i. inl i;
        in_place = λ e cell i. i;
        moved = λ e. absurd (case_of new.in_place place e);
        stays = λ cell there apart. s.2 cell (λ e. apart (inl e));
        reads = cell_reads s.0 at new text (drop (length text) d.0) is some few (d.1 ∙ ap Some (begins_over (cell_data old_bytes at) d.0 text d.2 long));
      },
    )
  where
    case_of : (b : _) → b ≡ true → b ≡ false → ⊥
    case_of b e f = grind (arith, e, f)
