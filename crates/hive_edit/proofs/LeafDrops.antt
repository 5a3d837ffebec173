-- A key's list of subkeys after one of its leaves was taken out, which had one subkey.
use Rattle.std.proofs.Common.{◌≡◌, ◌≢◌, inl, inr, ℕ, suc, ◌+◌, ◌*◌, ◌≤◌, true, List, [], ◌∷◌, ◌++◌, length, take, drop, flat_map, slice_get, Some, refl, sym, ap, subst, ◌∙◌, arith}
use Rattle.hive_tree_model.specs.Lists.{IsIn, Once}
use Rattle.hive_tree_model.proofs.Basics.{in_front, in_back, in_either}
use Rattle.hive_cells.specs.Tiles.{cell_data}
use Rattle.hive_cells.specs.Bins.{Cells, Shows}
use Rattle.hive_records.specs.Numbers.{u16_at, words_from}
use Rattle.hive_records.specs.Fields.{Gives}
use Rattle.hive_records.specs.Lists.{is_indirect, subkeys_at}
use Rattle.hive_records.specs.Heads.{stride_of}
use Rattle.hive_records.specs.RecordReaders.{elements_of}
use Rattle.hive_edit_laws.specs.Shifts.{without_at}
use Rattle.hive_edit_laws.specs.SubkeyLists.{OneMore}
use Rattle.hive_edit_laws.specs.Found.{LeavesHave, list_words}
use Rattle.hive_edit_laws.proofs.CellsShown.{shown_here}
use Rattle.hive_edit_laws.proofs.LeafBytes.{list_has_leaves, lists_read, lists_like, list_length, leaf_says, leaves_none}
use Rattle.hive_edit_laws.proofs.ListChanges.{leaves_with}
use Rattle.hive_edit_laws.proofs.ListParts.{more_in_new, more_long, words_long}
use Rattle.hive_edit_laws.proofs.ListSearch.{get_in, around_index, leaf_there, leaf_read}
use Rattle.hive_edit_laws.proofs.Shifts.{words_out, without_cut}
use Rattle.hive_edit.specs.Searches.{IsLeafSlot, IsLeafAt}
use Rattle.hive_edit.specs.SubkeyPlaces.{LeafLoses}
use Rattle.hive_edit.proofs.LeafLosses.{elements_words, beside_in, beside_other}

pub only_one : (xs : List ℕ) (x : ℕ) → length xs ≡ 1 → IsIn x xs → xs ≡ x ∷ []
only_one [] x e i = absurd i
only_one (y ∷ []) x e (inl p) = ap (λ (z : ℕ). z ∷ []) (sym p)
only_one (y ∷ []) x e (inr i) = absurd i
only_one (y ∷ z ∷ zs) x e i = absurd (omega (arith, e))

-- a list in which nothing is twice, without one of its elements
once_without : (front : List ℕ) (x : ℕ) (back : List ℕ) → Once (front ++ x ∷ back) → Once (front ++ back)
once_without [] x back o = o.1
once_without (y ∷ front) x back o = (
  (λ i. o.0 (elim (in_either y front back i) [ inl j ↦ in_front y front (x ∷ back) j | inr j ↦ in_back y front (x ∷ back) (inr j) ])),
  once_without front x back o.1,
)

-- what is left of a key's list
pub record LeafDropped (after : Cells) (left at : ℕ) (own its : List ℕ) (leaf subkey : ℕ) : Type 0 where
  pub subkeys : List ℕ
  pub own_now : List ℕ
  pub reads : Gives (subkeys_at left at) after own_now [] subkeys
  pub once_now : Once own_now
  pub within : (cell : ℕ) → IsIn cell own_now → IsIn cell own
  pub apart : IsIn leaf own_now → ⊥
  pub leaf_own : IsIn leaf own
  pub top_own : IsIn at own
  pub more : OneMore subkey subkeys its

module _ (bytes : List ℕ) (before : Cells) (shows : Shows bytes before) (count : ℕ) (own its : List ℕ) (once : Once own) (some : count ≢ 0) (left : ℕ) (is : count ≡ suc left) (some_left : left ≢ 0) (leaf index subkey : ℕ) (s : IsLeafSlot bytes leaf index subkey) (single : u16_at (cell_data bytes leaf) 2 ≡ 1)
    (at : ℕ) (h : Gives (subkeys_at count at) before own [] its) (place : ℕ) (a : IsLeafAt bytes at place leaf) where
  abbrev top : List ℕ
  top = cell_data bytes at

  abbrev words : List ℕ
  words = list_words top

  abbrev words_left : List ℕ
  words_left = take place words ++ drop (suc place) words

  indirect : is_indirect top ≡ true
  indirect = sym (a.is).indirect ∙ a.indirect

  top_here : before at ≡ Some top
  top_here = shown_here bytes before shows at a.holds.0

  get : slice_get words place ≡ Some leaf
  get = ap (λ (z : List ℕ). slice_get z place) (sym (elements_words top a.list a.is indirect)) ∙ a.here

  around : words ≡ take place words ++ leaf ∷ drop (suc place) words
  around = around_index words place leaf get

  own_is : own ≡ at ∷ words
  own_is = (list_has_leaves before count at own [] its top h some top_here indirect).1

  once_all : Once (at ∷ words)
  once_all = subst (λ (z : List ℕ). Once z) own_is once

  in_words : (other : ℕ) → IsIn other words_left → IsIn other words
  in_words other i = beside_in words place leaf get other i

  leaf_in : IsIn leaf words
  leaf_in = get_in words place leaf get

  top_apart : at ≢ leaf
  top_apart e = once_all.0 (subst (λ (n : ℕ). IsIn n words) (sym e) leaf_in)

  once_left : Once (at ∷ words_left)
  once_left = ((λ i. once_all.0 (in_words at i)), once_without (take place words) leaf (drop (suc place) words) (subst (λ (z : List ℕ). Once z) around once_all.1))

  dropped_leaf_own : IsIn leaf own
  dropped_leaf_own = subst (λ (z : List ℕ). IsIn leaf z) (sym own_is) (inr leaf_in)

  pub dropped_top_own : IsIn at own
  dropped_top_own = subst (λ (z : List ℕ). IsIn at z) (sym own_is) (inl refl)

  module _ (after : Cells) (new : List ℕ) (there : after at ≡ Some new) (others : (cell : ℕ) → IsIn cell own → cell ≢ at → after cell ≡ before cell) (n : ℕ) (count_is : u16_at top 2 ≡ suc n) (most : place ≤ n) (loses : LeafLoses top new 4 n place) (long : 4 + 4 * n ≤ length top) where
    words_now : words_from new 4 4 n ≡ words_left
    words_now = words_out top new 4 4 n place most loses.shifts ∙ ap (λ (k : ℕ). without_at place (words_from top 4 4 k)) (sym count_is) ∙ without_cut words place

    pub leaf_dropped : LeafDropped after left at own its leaf subkey
    leaf_dropped =
        let all = list_has_leaves before count at own [] its top h some top_here indirect in
        let mine = leaf_there bytes before shows count at own [] its h some a.list a.is a.indirect leaf (get_in (elements_of a.list) place leaf a.here) in
        let like = lists_like top new n all.0 loses.letters loses.count_is (subst (λ (l : ℕ). 4 + 4 * n ≤ l) (sym loses.len) long) in
        let w = leaves_with before after words place leaf mine.0 all.2 [] [] all.3 get mine.1 (leaves_none after)
        (λ other i. others other (subst (λ (z : List ℕ). IsIn other z) (sym own_is) (inr (in_words other i))) (λ e. once_left.0 (subst (λ (z : ℕ). IsIn z words_left) e i))) in
        let single_is : mine.0 ≡ subkey ∷ [] = only_one mine.0 subkey
        (ap length (leaf_says (cell_data bytes leaf) before leaf (shown_here bytes before shows leaf s.holds.0) mine.0 mine.1).1 ∙ words_long (cell_data bytes leaf) 4 (stride_of (cell_data bytes leaf)) (u16_at (cell_data bytes leaf) 2) ∙ single)
        (subst (λ (z : List ℕ). IsIn subkey z) (leaf_read bytes before shows leaf mine.0 mine.1 s.list s.is).1 (get_in (elements_of s.list) index subkey s.here)) in
        let words_are : list_words new ≡ words_left = like.1 ∙ words_now in
        let leaves_now : LeavesHave after (list_words new) (w.0 ++ w.1) = subst (λ (z : List ℕ). LeavesHave after z (w.0 ++ w.1)) (sym words_are) w.3 in
        let more : OneMore subkey (flat_map (λ (l : List ℕ). l) (w.0 ++ w.1)) its = subst (λ (z : List ℕ). OneMore subkey (flat_map (λ (l : List ℕ). l) (w.0 ++ w.1)) z)
        (sym (all.4 ∙ ap (flat_map (λ (l : List ℕ). l)) (w.2 ∙ ap (λ (z : List ℕ). w.0 ++ z ∷ w.1) single_is))) (more_in_new subkey w.0 w.1) in
        let fewer : suc (length (flat_map (λ (l : List ℕ). l) (w.0 ++ w.1))) ≡ suc left = sym (more_long subkey _ its more) ∙ list_length before count at own [] its top h some top_here ∙ is in
        record {
          subkeys = flat_map (λ (l : List ℕ). l) (w.0 ++ w.1);
          own_now = at ∷ words_left;
          reads = subst (λ (z : List ℕ). Gives (subkeys_at left at) after (at ∷ z) [] (flat_map (λ (l : List ℕ). l) (w.0 ++ w.1))) words_are
              (lists_read new after at there left (w.0 ++ w.1) some_left like.0 leaves_now (omega (arith, fewer)));
          once_now = once_left;
          within = λ cell i. subst (λ (z : List ℕ). IsIn cell z) (sym own_is) (elim i [ inl e ↦ inl e | inr j ↦ inr (in_words cell j) ]);
          apart = λ i. elim i [ inl e ↦ top_apart (sym e) | inr j ↦ beside_other words place leaf once_all.1 get leaf j refl ];
          leaf_own = dropped_leaf_own;
          top_own = dropped_top_own;
          more = more;
        }
