-- A key's list of values with one less.
use Rattle.std.proofs.Common.{◌≡◌, inl, inr, ℕ, suc, ◌+◌, ◌-◌, ◌*◌, ◌≤◌, List, [], ◌∷◌, slice_index, refl, sym, ap, ◌∙◌, arith}
use Rattle.hive_tree_model.specs.Lists.{IsIn}
use Rattle.hive_cells.specs.Tiles.{Tiles, cell_data}
use Rattle.hive_edit_laws.specs.Shifts.{ShiftsOut}
use Rattle.hive_edit_laws.proofs.CellWrites.{data_long}
use Rattle.hive_edit_laws.proofs.CellsShown.{shown_here}
use Rattle.hive_edit_laws.proofs.Shifts.{words_out}
use Rattle.hive_savepoint.specs.Puts.{HasData, Moves, ChangesCell}
use Rattle.hive_edit.specs.DataPlaces.{FreesCells}
use Rattle.hive_edit.specs.ValueLists.{IsListOf, ValuesArePut, TakesFromList}
use Rattle.hive_edit.specs.declared.node_edit.ValueList.{ValueList}

-- bytes moved
pub moved_out : (old new : List ℕ) (all n i : ℕ) → all ≡ suc n → i ≤ n → Moves old new (4 * (i + 1)) (4 * i) (4 * (all - (i + 1))) → ShiftsOut old new 0 4 n i
moved_out old new all n i one most m = record {
  wide = omega arith;
  before = λ j low high. m.before j (omega (arith, high));
  after = λ j low high. ap (slice_index new) (omega (arith, low)) ∙ m.its (j - 4 * i) (omega (arith, low, high, most, one)) ∙ ap (slice_index old) (omega (arith, low));
}

pub shortened : (bytes mid new : List ℕ) (key index n moment : ℕ) (list : ValueList) → Tiles bytes → IsListOf bytes key list → list.count ≡ suc n → index ≤ n →
    ChangesCell bytes mid list.at (λ its now. Moves its now (4 * (index + 1)) (4 * index) (4 * (list.count - (index + 1)))) → ChangesCell mid new key (ValuesArePut n list.at moment) → TakesFromList bytes new key index moment
shortened bytes mid new key index n moment list tiles is count most moves puts before shows =
    let has : HasData bytes list.at list.room = is.there (λ e. absurd (omega (arith, e, count))) in
    let s = moves.cells before shows in
    let t = puts.cells s.0 s.1 in
    let d = s.3 (cell_data bytes list.at) (shown_here bytes before shows list.at has.0) in
    let e = t.3 (cell_data bytes key) (s.2 key (λ same. is.apart (sym same)) ∙ shown_here bytes before shows key (is.node).0) in (
      t.0,
      t.1,
      record {
        count = n;
        list = list.at;
        new_node = e.0;
        new_is = e.1;
        put = e.2;
        count_was = sym is.count ∙ count;
        old_list = cell_data bytes list.at;
        old_list_is = ap before (sym is.at) ∙ shown_here bytes before shows list.at has.0;
        new_list = d.0;
        new_list_is = λ some. t.2 list.at is.apart ∙ d.1;
        long = λ some. (let l = data_long bytes list.at tiles has.0 in let same = (d.2).same_length in let f = is.full in omega (arith, l, same, f, count, has.1));
        listed = words_out (cell_data bytes list.at) d.0 0 4 n index most (moved_out (cell_data bytes list.at) d.0 list.count n index count most d.2);
        list_same = λ some. is.at;
        stays = λ cell no no_list. t.2 cell no ∙ s.2 cell (λ same. no_list (same ∙ is.at));
      },
    )

pub dropped : (bytes mid new : List ℕ) (key none moment : ℕ) (list : ValueList) → IsListOf bytes key list → list.count ≡ 1 →
    ChangesCell bytes mid key (ValuesArePut 0 none moment) → FreesCells mid new (list.at ∷ []) → TakesFromList bytes new key 0 moment
dropped bytes mid new key none moment list is count puts frees before shows =
    let has : HasData bytes list.at list.room = is.there (λ e. absurd (omega (arith, e, count))) in
    let s = puts.cells before shows in
    let t = frees s.0 s.1 in
    let e = s.3 (cell_data bytes key) (shown_here bytes before shows key (is.node).0) in (
      t.0,
      t.1,
      record {
        count = 0;
        list = none;
        new_node = e.0;
        new_is = t.2 key (not_in list.at key (λ same. is.apart (sym same))) ∙ e.1;
        put = e.2;
        count_was = sym is.count ∙ count;
        old_list = cell_data bytes list.at;
        old_list_is = ap before (sym is.at) ∙ shown_here bytes before shows list.at has.0;
        new_list = [];
        new_list_is = λ some. absurd (some refl);
        long = λ some. absurd (some refl);
        listed = refl;
        list_same = λ some. absurd (some refl);
        stays = λ cell no no_list. t.2 cell (not_in list.at cell (λ same. no_list (same ∙ is.at))) ∙ s.2 cell no;
      },
    )
  where
    not_in : (at cell : ℕ) → (cell ≡ at → ⊥) → IsIn cell (at ∷ []) → ⊥
    not_in at cell apart i = elim i [ inl e ↦ apart e | inr e ↦ e ]
