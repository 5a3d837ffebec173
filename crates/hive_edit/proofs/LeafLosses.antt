-- A key's list of subkeys after one of its leaves lost an element.
use Rattle.std.proofs.Common.{◌≡◌, ◌≢◌, inl, inr, ℕ, suc, ◌+◌, ◌*◌, ◌≤◌, ◌==◌, nat_le, ◌&&◌, ◌||◌, Bool, true, false, if◌then◌else◌, List, [], ◌∷◌, ◌++◌, length, take, drop, flat_map, slice_index, slice_get, Option, None, Some, refl, sym, ap, subst, ◌∙◌, arith}
use Rattle.std.proofs.lemmas.Bool.Decides.{eqb_tells}
use Rattle.hive_tree_model.specs.Lists.{IsIn, Once}
use Rattle.hive_tree_model.proofs.Basics.{clash, in_front, in_back, in_either}
use Rattle.hive_cells.specs.Tiles.{cell_data}
use Rattle.hive_cells.specs.Bins.{Cells, Shows}
use Rattle.hive_records.specs.Numbers.{u16_at, words_from, begins_with}
use Rattle.hive_records.specs.Fields.{Gives}
use Rattle.hive_records.specs.Lists.{is_hinted, is_indirect, leaf_at, subkeys_at}
use Rattle.hive_records.specs.Heads.{IsSubkeyList, stride_of}
use Rattle.hive_records.specs.RecordReaders.{elements_of}
use Rattle.hive_records.specs.declared.list_record.SubkeyList.{SubkeyList}
use Rattle.hive_edit_laws.specs.Shifts.{without_at, ShiftsOut}
use Rattle.hive_edit_laws.specs.SubkeyLists.{OneMore}
use Rattle.hive_edit_laws.specs.Found.{LeavesHave, list_words}
use Rattle.hive_edit_laws.proofs.CellsShown.{shown_here}
use Rattle.hive_edit_laws.proofs.CellWrites.{range_index}
use Rattle.hive_edit_laws.proofs.LeafBytes.{leaf_fewer, list_is_leaf, list_has_leaves, lists_read, list_length, leaves_one, words_copied}
use Rattle.hive_edit_laws.proofs.ListChanges.{list_without, leaves_with}
use Rattle.hive_edit_laws.proofs.ListParts.{more_without, more_in_leaf, more_long}
use Rattle.hive_edit_laws.proofs.ListSearch.{get_in, around_index, list_read, leaf_there, leaf_read}
use Rattle.hive_edit.specs.Searches.{IsLeafSlot, IsLeafAt, IsLeafOf}
use Rattle.hive_edit.specs.SubkeyPlaces.{LeafLoses}

and_second : (a b : Bool) → (a && b) ≡ true → b ≡ true
and_second true b e = e
and_second false b e = absurd (case_of e)
  where
    case_of : false ≡ true → ⊥
    case_of f = grind (arith, f)

and_false : (a : Bool) → (a && false) ≡ false
and_false true = refl
and_false false = refl

-- a list of lists has no hints
pub indirect_stride : (bytes : List ℕ) → is_indirect bytes ≡ true → stride_of bytes ≡ 4
indirect_stride bytes e = λ i. if not_hinted i then 8 else 4
  where
    letters : u16_at bytes 0 ≡ 0x6972
    letters = elim (eqb_tells (u16_at bytes 0) 0x6972) [ inl k ↦ k.1 | inr k ↦ clash (u16_at bytes 0 == 0x6972) (and_second (nat_le 4 (length bytes)) (u16_at bytes 0 == 0x6972) e) k.0 ]

    not_plain_hint : begins_with bytes 0x666c 4 ≡ false
    not_plain_hint = ap (λ (u : ℕ). nat_le 4 (length bytes) && (u == 0x666c)) letters ∙ and_false (nat_le 4 (length bytes))

    not_hash : begins_with bytes 0x686c 4 ≡ false
    not_hash = ap (λ (u : ℕ). nat_le 4 (length bytes) && (u == 0x686c)) letters ∙ and_false (nat_le 4 (length bytes))

    not_hinted : is_hinted bytes ≡ false
    not_hinted = λ i. not_plain_hint i || not_hash i

-- the elements of a list of lists are the words in its bytes
pub elements_words : (bytes : List ℕ) (list : SubkeyList) → IsSubkeyList list bytes → is_indirect bytes ≡ true → elements_of list ≡ list_words bytes
elements_words bytes list is indirect =
    let four : stride_of bytes ≡ 4 = indirect_stride bytes indirect in
    (λ i. words_from (is.elements i) 0 (is.stride i) (is.count i))
    ∙ words_copied bytes _ 4 0 (stride_of bytes) (u16_at bytes 2) (subst (λ (k : ℕ). 4 ≤ k) (sym four) (omega arith)) (λ j h. range_index bytes 4 (4 + stride_of bytes * u16_at bytes 2) (0 + j) (omega (arith, h)) ∙ ap (slice_index bytes) (omega arith))
    ∙ (λ i. words_from bytes 4 (four i) (u16_at bytes 2))

-- what is beside an element of a list in which nothing is twice is another
pub beside_other : (words : List ℕ) (index leaf : ℕ) → Once words → slice_get words index ≡ Some leaf → (other : ℕ) → IsIn other (take index words ++ drop (suc index) words) → other ≢ leaf
beside_other words index leaf once get other i e = go (take index words) (subst (λ (z : List ℕ). Once z) (around_index words index leaf get) once) (subst (λ (n : ℕ). IsIn n (take index words ++ drop (suc index) words)) e i)
  where
    go : (front : List ℕ) → Once (front ++ leaf ∷ drop (suc index) words) → IsIn leaf (front ++ drop (suc index) words) → ⊥
    go [] o j = o.0 j
    go (x ∷ front) o (inl k) = o.0 (in_back x front (leaf ∷ drop (suc index) words) (inl (sym k)))
    go (x ∷ front) o (inr j) = go front o.1 j

pub beside_in : (words : List ℕ) (index leaf : ℕ) → slice_get words index ≡ Some leaf → (other : ℕ) → IsIn other (take index words ++ drop (suc index) words) → IsIn other words
beside_in words index leaf get other i = subst (λ (z : List ℕ). IsIn other z) (sym (around_index words index leaf get)) (elim (in_either other (take index words) (drop (suc index) words) i) [
  | inl j ↦ in_front other (take index words) (leaf ∷ drop (suc index) words) j
  | inr j ↦ in_back other (take index words) (leaf ∷ drop (suc index) words) (inr j)
])

-- what is left of a key's list
pub record ListLost (after : Cells) (left at : ℕ) (own its : List ℕ) (leaf subkey : ℕ) : Type 0 where
  pub subkeys : List ℕ
  pub reads : Gives (subkeys_at left at) after own [] subkeys
  pub more : OneMore subkey subkeys its
  pub leaf_own : IsIn leaf own

module _ (bytes : List ℕ) (before : Cells) (shows : Shows bytes before) (count : ℕ) (own lent its : List ℕ) (once : Once own) (some : count ≢ 0) (left : ℕ) (is : count ≡ suc left) (some_left : left ≢ 0) (leaf index subkey : ℕ) (s : IsLeafSlot bytes leaf index subkey)
    (after : Cells) (new : List ℕ) (there : after leaf ≡ Some new) (others : (cell : ℕ) → IsIn cell own → cell ≢ leaf → after cell ≡ before cell) (n : ℕ) (count_is : u16_at (cell_data bytes leaf) 2 ≡ suc n) (most : index ≤ n) (loses : LeafLoses (cell_data bytes leaf) new (stride_of (cell_data bytes leaf)) n index) (long : 4 + stride_of (cell_data bytes leaf) * n ≤ length (cell_data bytes leaf)) where
  abbrev old : List ℕ
  old = cell_data bytes leaf

  here : before leaf ≡ Some old
  here = shown_here bytes before shows leaf s.holds.0

  counts : u16_at old 2 ≡ suc (u16_at new 2)
  counts = count_is ∙ ap suc (sym loses.count_is)

  long_new : 4 + stride_of old * u16_at new 2 ≤ length new
  long_new = subst (λ (m : ℕ). 4 + stride_of old * m ≤ length new) (sym loses.count_is) (subst (λ (l : ℕ). 4 + stride_of old * n ≤ l) (sym loses.len) long)

  most_new : index ≤ u16_at new 2
  most_new = subst (λ (m : ℕ). index ≤ m) (sym loses.count_is) most

  shifts : ShiftsOut old new 4 (stride_of old) (u16_at new 2) index
  shifts = subst (λ (m : ℕ). ShiftsOut old new 4 (stride_of old) m index) (sym loses.count_is) loses.shifts

  -- if it is the one leaf
  alone : Gives (subkeys_at count leaf) before own lent its → ListLost after left leaf own its leaf subkey
  alone h =
      let direct : is_indirect old ≡ false = sym (s.is).indirect ∙ s.direct in
      let l = list_is_leaf before count leaf own lent its old h some here direct in
      record {
        subkeys = without_at index its;
        reads = subst (λ (z : List ℕ). Gives (subkeys_at left leaf) after z [] (without_at index its)) (sym l.0) (list_without before after count leaf leaf own lent its old new h some here direct there loses.letters left index is some_left counts long_new most_new shifts);
        more = more_without its index subkey (ap (λ (z : List ℕ). slice_get z index) (sym (list_read bytes before shows count leaf own lent its h some s.list s.is s.direct)) ∙ s.here);
        leaf_own = subst (λ (z : List ℕ). IsIn leaf z) (sym l.0) (inl refl);
      }

  -- if it is one of several
  module _ (at : ℕ) (h : Gives (subkeys_at count at) before own lent its) (place : ℕ) (a : IsLeafAt bytes at place leaf) where
    abbrev top : List ℕ
    top = cell_data bytes at

    indirect : is_indirect top ≡ true
    indirect = sym (a.is).indirect ∙ a.indirect

    top_here : before at ≡ Some top
    top_here = shown_here bytes before shows at a.holds.0

    get : slice_get (list_words top) place ≡ Some leaf
    get = ap (λ (z : List ℕ). slice_get z place) (sym (elements_words top a.list a.is indirect)) ∙ a.here

    of_several : ListLost after left at own its leaf subkey
    of_several =
        let all = list_has_leaves before count at own lent its top h some top_here indirect in
        let mine = leaf_there bytes before shows count at own lent its h some a.list a.is a.indirect leaf (get_in (elements_of a.list) place leaf a.here) in
        let once_all : Once (at ∷ list_words top) = subst (λ (z : List ℕ). Once z) all.1 once in
        let now : Gives (leaf_at leaf) after (leaf ∷ []) [] (without_at index mine.0) = leaf_fewer before after leaf leaf mine.0 old new index mine.1 here there loses.letters counts long_new most_new shifts in
        let w = leaves_with before after (list_words top) place leaf mine.0 all.2 (leaf ∷ []) (without_at index mine.0 ∷ []) all.3 get mine.1 (leaves_one after leaf (without_at index mine.0) (leaf ∷ [], [], now))
        (λ other i. others other (subst (λ (z : List ℕ). IsIn other z) (sym all.1) (inr (beside_in (list_words top) place leaf get other i))) (beside_other (list_words top) place leaf once_all.1 get other i)) in
        let leaves_now : LeavesHave after (list_words top) (w.0 ++ without_at index mine.0 ∷ w.1) = subst (λ (z : List ℕ). LeavesHave after z (w.0 ++ without_at index mine.0 ∷ w.1)) (sym (around_index (list_words top) place leaf get)) w.3 in
        let get_mine : slice_get mine.0 index ≡ Some subkey = ap (λ (z : List ℕ). slice_get z index) (sym (leaf_read bytes before shows leaf mine.0 mine.1 s.list s.is).1) ∙ s.here in
        let more : OneMore subkey (flat_map (λ (l : List ℕ). l) (w.0 ++ without_at index mine.0 ∷ w.1)) its = subst (λ (z : List ℕ). OneMore subkey (flat_map (λ (l : List ℕ). l) (w.0 ++ without_at index mine.0 ∷ w.1)) z) (sym (all.4 ∙ ap (flat_map (λ (l : List ℕ). l)) w.2))
        (more_in_leaf subkey w.0 w.1 (without_at index mine.0) mine.0 (more_without mine.0 index subkey get_mine)) in
        let fewer : suc (length (flat_map (λ (l : List ℕ). l) (w.0 ++ without_at index mine.0 ∷ w.1))) ≡ suc left = sym (more_long subkey _ its more) ∙ list_length before count at own lent its top h some top_here ∙ is in
        let top_apart : at ≢ leaf = λ e. once_all.0 (subst (λ (n : ℕ). IsIn n (list_words top)) (sym e) (get_in (list_words top) place leaf get)) in
        record {
          subkeys = flat_map (λ (l : List ℕ). l) (w.0 ++ without_at index mine.0 ∷ w.1);
          reads = subst (λ (z : List ℕ). Gives (subkeys_at left at) after z [] (flat_map (λ (l : List ℕ). l) (w.0 ++ without_at index mine.0 ∷ w.1))) (sym all.1)
              (lists_read top after at (others at (subst (λ (z : List ℕ). IsIn at z) (sym all.1) (inl refl)) top_apart ∙ top_here) left (w.0 ++ without_at index mine.0 ∷ w.1) some_left all.0 leaves_now (omega (arith, fewer)));
          more = more;
          leaf_own = subst (λ (z : List ℕ). IsIn leaf z) (sym all.1) (inr (get_in (list_words top) place leaf get));
        }

  pub list_lost : (at : ℕ) → Gives (subkeys_at count at) before own lent its → (o : Option ℕ) → IsLeafOf bytes at o leaf → ListLost after left at own its leaf subkey
  list_lost at h None e = subst (λ (l : ℕ). ListLost after left l own its leaf subkey) e (alone (subst (λ (l : ℕ). Gives (subkeys_at count l) before own lent its) (sym e) h))
  list_lost at h (Some place) a = of_several at h place a
