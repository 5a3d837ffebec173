-- A key's list of values with one more.
use Rattle.std.proofs.Common.{◌≡◌, ◌≢◌, inl, inr, ℕ, suc, ◌+◌, ◌-◌, ◌*◌, ◌<◌, ◌≤◌, ◌==◌, ne_eqb, List, [], ◌∷◌, ◌++◌, length, take, replicate, slice_index, Some, is_some, refl, sym, ap, subst, ◌∙◌, arith}
use Rattle.std.proofs.lemmas.List.{get_or-take, get_or_append_left}
use Rattle.hive_tree_model.specs.Lists.{IsIn}
use Rattle.hive_tree_model.proofs.Basics.{some_none, no_if}
use Rattle.hive_cells.specs.Tiles.{Tiles, u32_at, cell_data}
use Rattle.hive_records.specs.Numbers.{words_from}
use Rattle.hive_edit_laws.specs.Shifts.{with_at, ShiftsIn}
use Rattle.hive_edit_laws.specs.ValueEdits.{list_cells}
use Rattle.hive_edit_laws.proofs.CellWrites.{data_long}
use Rattle.hive_edit_laws.proofs.CellsShown.{shown_here, shown_some}
use Rattle.hive_edit_laws.proofs.KeyPlaces.{none_there}
use Rattle.hive_edit_laws.proofs.Shifts.{words_in}
use Rattle.hive_savepoint.specs.Puts.{HasData, Moves, Overlays, ChangesCell, AddsCell}
use Rattle.hive_edit.specs.ValueLists.{IsListOf, ValuesArePut, RoomIsGiven, GivesRoom, TakesWord, FreesList, AddsToList}
use Rattle.hive_edit.specs.declared.node_edit.ValueList.{ValueList}
use Rattle.hive_edit.proofs.ValueNodes.{word_put}

-- bytes are moved behind a gap, and a word is written into it
pub word_in : (old half new text : List ℕ) (n i word : ℕ) → i ≤ n → Moves old half (4 * i) (4 * (i + 1)) (4 * (n - i)) → Overlays half new (4 * i) text → length text ≡ 4 → u32_at text 0 ≡ word → TakesWord n i word old new
word_in old half new text n i word most m o four is = (
  record {
    wide = omega arith;
    before = λ j low high. o.before j (omega (arith, high)) ∙ m.before j (omega (arith, high));
    here = ap (u32_at new) (omega arith) ∙ word_put half new (4 * i) text o four ∙ is;
    after = λ j low high. o.after (j + 4) (omega (arith, low, four))
        ∙ ap (slice_index half) (omega (arith, low)) ∙ m.its (j - 4 * i) (omega (arith, low, high, most)) ∙ ap (slice_index old) (omega (arith, low));
  },
  o.len ∙ m.same_length,
)

-- the list's own cell
pub kept_room : (bytes : List ℕ) (list : ValueList) → list.count ≢ 0 → HasData bytes list.at list.room → GivesRoom bytes bytes list list.at
kept_room bytes list some has before shows = (
  before,
  shows,
  record {
    its = cell_data bytes list.at;
    here = shown_here bytes before shows list.at has.0;
    same = λ i h. refl;
    takes = inl (some, refl);
    stays = λ cell is. refl;
  },
)

-- a new cell that begins with the list's offsets
pub moved_room : (old_bytes new_bytes : List ℕ) (list : ValueList) (words : List ℕ) (at : ℕ) → words ≡ take (4 * list.count) (cell_data old_bytes list.at) → length words ≡ 4 * list.count → AddsCell old_bytes new_bytes at words → GivesRoom old_bytes new_bytes list at
moved_room old_bytes new_bytes list words at is long adds before shows =
    let s = adds.cells before shows in (
      s.1,
      s.2,
      record {
        its = words ++ replicate s.4 0;
        here = s.5;
        same = λ i h. get_or_append_left words (replicate s.4 0) 0 i (omega (arith, h, long)) ∙ ap (λ (z : List ℕ). slice_index z i) is ∙ get_or-take (4 * list.count) (cell_data old_bytes list.at) i 0 h;
        takes = inr s.0;
        stays = λ cell there. s.3 cell (λ e. none_there (before cell) there (ap before e ∙ s.0));
      },
    )

-- the same elements, of another cell
relay : (its now words : List ℕ) (n i word : ℕ) → i ≤ n → ShiftsIn its now 0 4 n i word → ((j : ℕ) → j < 4 * n → slice_index its j ≡ slice_index words j) → ShiftsIn words now 0 4 n i word
relay its now words n i word most s same = record {
  wide = s.wide;
  before = λ j low high. s.before j low high ∙ same j (omega (arith, high, most));
  here = s.here;
  after = λ j low high. s.after j low high ∙ same j (omega (arith, high));
}

pub in_list : (node : List ℕ) (cell : ℕ) → u32_at node 36 ≢ 0 → cell ≡ u32_at node 40 → IsIn cell (list_cells node)
in_list node cell some e = subst (λ (z : List ℕ). IsIn cell z) (sym (no_if (u32_at node 36 == 0) [] (u32_at node 40 ∷ []) (ne_eqb (u32_at node 36) 0 some))) (inl e)

pub added_to_list : (bytes first then half new : List ℕ) (key index word moment : ℕ) (list : ValueList) (at : ℕ) → Tiles first → IsListOf bytes key list → index ≤ list.count → GivesRoom bytes first list at → HasData first at (4 * (list.count + 1)) →
    ChangesCell first then at (TakesWord list.count index word) → ChangesCell then half key (ValuesArePut (list.count + 1) at moment) → FreesList half new list at → AddsToList bytes new key index word moment
added_to_list bytes first then half new key index word moment list at tiles is most room has takes puts frees before shows =
    let s = room before shows in
    let r : RoomIsGiven before s.0 list (cell_data bytes list.at) at = s.2 in
    let key_here : before key ≡ Some (cell_data bytes key) = shown_here bytes before shows key (is.node).0 in
    let not_key : at ≡ key → ⊥ = λ q. elim r.takes [ inl h ↦ is.apart (sym h.1 ∙ q) | inr h ↦ some_none _ (sym h ∙ ap before q ∙ key_here) ] in
    let some_of : list.count ≢ 0 → u32_at (cell_data bytes key) 36 ≢ 0 = λ some q. some (is.count ∙ q) in
    let t = takes.cells s.0 s.1 in
    let d = t.3 r.its r.here in
    let u = puts.cells t.0 t.1 in
    let e = u.3 (cell_data bytes key) (t.2 key (λ q. not_key (sym q)) ∙ r.stays key (ap is_some key_here) ∙ key_here) in
    let v = frees u.0 u.1 in
    let shown = shown_some first s.0 s.1 at r.its r.here in (
      v.0,
      v.1,
      record {
        node = cell_data bytes key;
        node_is = key_here;
        list = at;
        new_node = e.0;
        new_is = v.2 key (λ some no q. is.apart (sym q)) ∙ e.1;
        put = subst (λ (k : ℕ). ValuesArePut k at moment (cell_data bytes key) e.0) (let k = is.count in omega (arith, k)) e.2;
        old_list = cell_data bytes list.at;
        old_list_is = λ some. ap before (sym is.at) ∙ shown_here bytes before shows list.at (is.there (λ q. some (sym is.count ∙ q))).0;
        new_list = d.0;
        new_list_is = v.2 at (λ some no q. no (sym q)) ∙ u.2 at not_key ∙ d.1;
        long = (let a : length d.0 ≡ length r.its = (d.2).1 in let b : length r.its ≡ length (cell_data first at) = ap length shown.1 in let l = data_long first at tiles has.0 in let k = is.count in omega (arith, a, b, l, k, has.1));
        listed = subst (λ (k : ℕ). words_from d.0 0 4 (suc k) ≡ with_at index word (words_from (cell_data bytes list.at) 0 4 k)) is.count
            (words_in (cell_data bytes list.at) d.0 0 4 list.count index word most (relay r.its d.0 (cell_data bytes list.at) list.count index word most (d.2).0 r.same));
        takes = elim r.takes [ inl h ↦ inl (in_list (cell_data bytes key) at (some_of h.0) (h.1 ∙ is.at)) | inr h ↦ inr h ];
        stays = λ cell there no no_list. v.2 cell (λ some apart q. no_list (in_list (cell_data bytes key) cell (some_of some) (q ∙ is.at)))
            ∙ u.2 cell no
            ∙ t.2 cell (λ q. elim r.takes [ inl h ↦ no_list (in_list (cell_data bytes key) cell (some_of h.0) (q ∙ h.1 ∙ is.at)) | inr h ↦ none_there (before cell) there (ap before q ∙ h) ])
            ∙ r.stays cell there;
      },
    )
