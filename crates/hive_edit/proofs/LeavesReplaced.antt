-- A key's list of lists after one of its leaves was replaced by one or two others.
use Rattle.std.proofs.Common.{◌≡◌, ◌≢◌, ◌⊎◌, inl, inr, ℕ, zero, suc, ◌+◌, ◌*◌, ◌<◌, ◌≤◌, true, List, [], ◌∷◌, ◌++◌, length, take, drop, flat_map, slice_index, slice_get, is_some, None, Some, IsSome, refl, sym, ap, subst, ◌∙◌, arith, append_assoc}
use Rattle.hive_tree_model.specs.Lists.{IsIn, Once}
use Rattle.hive_tree_model.proofs.Basics.{some_same, some_none, in_front, in_back, in_either, once_front, once_back, once_apart, once_joined}
use Rattle.hive_cells.specs.Tiles.{u32_at}
use Rattle.hive_cells.specs.Bins.{Cells}
use Rattle.hive_records.specs.Numbers.{words_from}
use Rattle.hive_records.specs.Fields.{Gives}
use Rattle.hive_records.specs.Lists.{is_indirect, leaf_in, leaf_at, subkeys_at}
use Rattle.hive_edit_laws.specs.Shifts.{with_at}
use Rattle.hive_edit_laws.specs.SubkeyLists.{OneMore}
use Rattle.hive_edit_laws.specs.Found.{LeafHas, LeavesHave, IsListOfLists, list_words}
use Rattle.hive_edit_laws.proofs.KeyPlaces.{none_there}
use Rattle.hive_edit_laws.proofs.LeafBytes.{list_has_leaves, lists_read, list_length, words_copied}
use Rattle.hive_edit_laws.proofs.ListChanges.{leaves_with}
use Rattle.hive_edit_laws.proofs.ListParts.{more_long}
use Rattle.hive_edit_laws.proofs.ListSearch.{get_in, around_index, each_in}
use Rattle.hive_edit_laws.proofs.ReaderSteps.{look_of}
use Rattle.hive_edit_laws.proofs.Shifts.{word_like}
use Rattle.hive_edit.specs.SubkeyPlaces.{ListGrown}
use Rattle.hive_edit.specs.LeafChanges.{ListKept}

abbrev flat : List (List ℕ) → List ℕ
flat lists = flat_map (λ (l : List ℕ). l) lists

-- one of some words is another
pub word_swapped : (old new : List ℕ) (from n i x w : ℕ) → slice_get (words_from old from 4 n) i ≡ Some x → ((j : ℕ) → from ≤ j → j < from + 4 * i → slice_index new j ≡ slice_index old j) → u32_at new (from + 4 * i) ≡ w → ((j : ℕ) → from + 4 * i + 4 ≤ j → slice_index new j ≡ slice_index old j)
    → words_from new from 4 n ≡ take i (words_from old from 4 n) ++ w ∷ drop (suc i) (words_from old from 4 n)
word_swapped old new from zero i x w get front here back = some_none x get
word_swapped old new from (suc n) zero x w get front here back =
    (λ z. (ap (u32_at new) (spot from) ∙ here) z ∷ words_from new (from + 4) 4 n)
    ∙ ap (λ (ws : List ℕ). w ∷ ws) (words_copied old new (from + 4) (from + 4) 4 n (omega arith) (λ j h. back (from + 4 + j) (omega arith)))
  where
    spot : (from : ℕ) → from ≡ from + 4 * 0
    spot from = omega arith
word_swapped old new from (suc n) (suc i) x w get front here back =
    (λ z. word_like new old from from (λ k h. front (from + k) (omega arith) (omega (arith, h))) z ∷ words_from new (from + 4) 4 n)
    ∙ ap (λ (ws : List ℕ). u32_at old from ∷ ws) (word_swapped old new (from + 4) n i x w get (λ j low high. front j (omega (arith, low)) (omega (arith, high))) (ap (u32_at new) (omega arith) ∙ here) (λ j low. back j (omega (arith, low))))

-- a word behind another one
pub with_next : (ws : List ℕ) (i x y : ℕ) → slice_get ws i ≡ Some x → with_at (suc i) y ws ≡ take i ws ++ x ∷ y ∷ drop (suc i) ws
with_next [] i x y get = some_none x get
with_next (w ∷ ws) zero x y get = ap (λ (z : ℕ). z ∷ y ∷ ws) (some_same w x get)
with_next (w ∷ ws) (suc i) x y get = ap (λ (zs : List ℕ). w ∷ zs) (with_next ws i x y get)

-- a list in two is the same list
pub flat_two : (us ws : List (List ℕ)) (first second : List ℕ) → flat (us ++ first ∷ second ∷ ws) ≡ flat (us ++ (first ++ second) ∷ ws)
flat_two [] ws first second = sym (append_assoc first second (flat ws))
flat_two (u ∷ us) ws first second = ap (λ (z : List ℕ). u ++ z) (flat_two us ws first second)

module _ (before : Cells) (count at : ℕ) (own lent its old : List ℕ) (h : Gives (subkeys_at count at) before own lent its) (some : count ≢ 0) (here : before at ≡ Some old) (indirect : is_indirect old ≡ true) (once : Once own) (index leaf : ℕ) (get : slice_get (list_words old) index ≡ Some leaf) where
  abbrev words : List ℕ
  words = list_words old

  abbrev first : List ℕ
  first = take index words

  abbrev rest : List ℕ
  rest = drop (suc index) words

  all : IsListOfLists old × (own ≡ at ∷ words) × (lists : List (List ℕ)) × LeavesHave before words lists × (its ≡ flat lists)
  all = list_has_leaves before count at own lent its old h some here indirect

  pub top_is : IsListOfLists old
  top_is = all.0

  own_cut : own ≡ at ∷ (first ++ leaf ∷ rest)
  own_cut = all.1 ∙ ap (λ (z : List ℕ). at ∷ z) (around_index words index leaf get)

  once_cut : Once (at ∷ (first ++ leaf ∷ rest))
  once_cut = subst (λ (z : List ℕ). Once z) own_cut once

  in_own : (cell : ℕ) → IsIn cell (at ∷ (first ++ leaf ∷ rest)) → IsIn cell own
  in_own cell i = subst (λ (z : List ℕ). IsIn cell z) (sym own_cut) i

  leaf_listed : IsIn leaf (first ++ leaf ∷ rest)
  leaf_listed = in_back leaf first (leaf ∷ rest) (inl refl)

  pub at_own : IsIn at own
  at_own = in_own at (inl refl)

  pub leaf_own : IsIn leaf own
  leaf_own = in_own leaf (inr leaf_listed)

  pub leaf_apart : at ≢ leaf
  leaf_apart e = once_cut.0 (subst (λ (z : ℕ). IsIn z (first ++ leaf ∷ rest)) (sym e) leaf_listed)

  -- what the leaf has
  pub leaf_has : (mine : List ℕ) × LeafHas before leaf mine
  leaf_has = let r = each_in leaf_at before words all.3.0 all.3.1 all.2 all.3.2 leaf (get_in words index leaf get) in (r.0, (r.1, r.2, r.3))

  word_there : (cell : ℕ) → IsIn cell words → IsSome (before cell)
  word_there cell i = let r = each_in leaf_at before words all.3.0 all.3.1 all.2 all.3.2 cell i in ap is_some (look_of cell leaf_in before r.1 r.2 r.0 r.3).here

  -- the other leaves
  among : (cell : ℕ) → IsIn cell (first ++ rest) → IsIn cell (first ++ leaf ∷ rest)
  among cell i = elim (in_either cell first rest i) [ inl j ↦ in_front cell first (leaf ∷ rest) j | inr j ↦ in_back cell first (leaf ∷ rest) (inr j) ]

  beside_words : (cell : ℕ) → IsIn cell (first ++ rest) → IsIn cell words
  beside_words cell i = subst (λ (z : List ℕ). IsIn cell z) (sym (around_index words index leaf get)) (among cell i)

  beside_at : (cell : ℕ) → IsIn cell (first ++ rest) → cell ≢ at
  beside_at cell i e = once_cut.0 (subst (λ (z : ℕ). IsIn z (first ++ leaf ∷ rest)) e (among cell i))

  beside_leaf : (cell : ℕ) → IsIn cell (first ++ rest) → cell ≢ leaf
  beside_leaf cell i e = elim (in_either cell first rest i) [
    | inl j ↦ once_apart cell first (leaf ∷ rest) once_cut.1 j (inl e)
    | inr j ↦ (once_back first (leaf ∷ rest) once_cut.1).0 (subst (λ (z : ℕ). IsIn z rest) e j)
  ]

  module _ (after : Cells) (made : ℕ) (new news : List ℕ) (new_lists : List (List ℕ)) (there : after made ≡ Some new) (is : IsListOfLists new) (now : list_words new ≡ first ++ (news ++ rest)) (has : LeavesHave after news new_lists) (others : (cell : ℕ) → IsSome (before cell) → cell ≢ at → cell ≢ leaf → after cell ≡ before cell)
      (place : (made ≡ at) ⊎ (before made ≡ None)) (places : (cell : ℕ) → IsIn cell news → (cell ≡ leaf) ⊎ (before cell ≡ None)) (once_news : Once (made ∷ news)) where
    abbrev own_now : List ℕ
    own_now = made ∷ list_words new

    swapped : (us : List (List ℕ)) × (ws : List (List ℕ)) × (all.2 ≡ us ++ leaf_has.0 ∷ ws) × LeavesHave after (first ++ (news ++ rest)) (us ++ (new_lists ++ ws))
    swapped = leaves_with before after words index leaf leaf_has.0 all.2 news new_lists all.3 get leaf_has.1 has (λ other i. others other (word_there other (beside_words other i)) (beside_at other i) (beside_leaf other i))

    abbrev olds : List ℕ
    olds = flat (swapped.0 ++ leaf_has.0 ∷ swapped.1)

    abbrev lists_now : List (List ℕ)
    lists_now = swapped.0 ++ (new_lists ++ swapped.1)

    its_are : its ≡ olds
    its_are = all.4 ∙ ap flat swapped.2

    reads : (n : ℕ) → n ≢ 0 → length (flat lists_now) ≡ n → Gives (subkeys_at n made) after own_now [] (flat lists_now)
    reads n some_n long = lists_read new after made there n lists_now some_n is (subst (λ (z : List ℕ). LeavesHave after z lists_now) (sym now) swapped.3) long

    made_beside : IsIn made (first ++ rest) → ⊥
    made_beside i = elim place [
      | inl e ↦ beside_at made i e
      | inr none ↦ none_there (before made) (word_there made (beside_words made i)) none
    ]

    news_beside : (cell : ℕ) → IsIn cell news → IsIn cell (first ++ rest) → ⊥
    news_beside cell i j = elim (places cell i) [
      | inl e ↦ beside_leaf cell j e
      | inr none ↦ none_there (before cell) (word_there cell (beside_words cell j)) none
    ]

    made_apart : IsIn made (first ++ (news ++ rest)) → ⊥
    made_apart i = elim (in_either made first (news ++ rest) i) [
      | inl j ↦ made_beside (in_front made first rest j)
      | inr j ↦ elim (in_either made news rest j) [ inl k ↦ once_news.0 k | inr k ↦ made_beside (in_back made first rest k) ]
    ]

    once_now : Once own_now
    once_now = subst (λ (z : List ℕ). Once (made ∷ z)) (sym now) (
      made_apart,
      once_joined first (news ++ rest) (once_front first (leaf ∷ rest) once_cut.1)
          (once_joined news rest once_news.1 (once_back first (leaf ∷ rest) once_cut.1).1 (λ cell i j. news_beside cell i (in_back cell first rest j)))
          (λ cell i j. elim (in_either cell news rest j) [
            | inl k ↦ news_beside cell k (in_front cell first rest i)
            | inr k ↦ once_apart cell first (leaf ∷ rest) once_cut.1 i (inr k)
          ]),
    )

    takes : (cell : ℕ) → IsIn cell own_now → IsIn cell own ⊎ (before cell ≡ None)
    takes cell (inl e) = elim place [
      | inl p ↦ inl (subst (λ (z : ℕ). IsIn z own) (sym (e ∙ p)) at_own)
      | inr p ↦ inr (ap before e ∙ p)
    ]
    takes cell (inr i) = elim (in_either cell first (news ++ rest) (subst (λ (z : List ℕ). IsIn cell z) now i)) [
      | inl j ↦ inl (in_own cell (inr (in_front cell first (leaf ∷ rest) j)))
      | inr j ↦ elim (in_either cell news rest j) [
        | inl k ↦ elim (places cell k) [
          | inl e ↦ inl (subst (λ (z : ℕ). IsIn z own) (sym e) leaf_own)
          | inr none ↦ inr none
        ]
        | inr k ↦ inl (in_own cell (inr (in_back cell first (leaf ∷ rest) (inr k))))
      ]
    ]

    stays : (cell : ℕ) → IsSome (before cell) → (IsIn cell own → ⊥) → after cell ≡ before cell
    stays cell there out = others cell there (λ e. out (subst (λ (z : ℕ). IsIn z own) (sym e) at_own)) (λ e. out (subst (λ (z : ℕ). IsIn z own) (sym e) leaf_own))

    many : length its ≡ count
    many = list_length before count at own lent its old h some here

    -- with one subkey more
    pub grown_by : (x : ℕ) → ((us ws : List (List ℕ)) → OneMore x (flat (us ++ leaf_has.0 ∷ ws)) (flat (us ++ (new_lists ++ ws)))) → ListGrown before after count at made x own its
    grown_by x more =
        let one : OneMore x its (flat lists_now) = subst (λ (z : List ℕ). OneMore x z (flat lists_now)) (sym its_are) (more swapped.0 swapped.1) in
        record {
          subkeys = flat lists_now;
          more = one;
          own_now = own_now;
          reads = reads (suc count) (λ e. absurd (omega (arith, e))) (more_long x its (flat lists_now) one ∙ ap suc many);
          once = once_now;
          takes = takes;
          stays = stays;
        }

    -- with the same subkeys
    pub kept_by : ((us ws : List (List ℕ)) → flat (us ++ (new_lists ++ ws)) ≡ flat (us ++ leaf_has.0 ∷ ws)) → ListKept before after count made own its
    kept_by same =
        let e : flat lists_now ≡ its = same swapped.0 swapped.1 ∙ sym its_are in
        record {
          own_now = own_now;
          lent_now = [];
          reads = subst (λ (z : List ℕ). Gives (subkeys_at count made) after own_now [] z) e (reads count some (ap length e ∙ many));
          once = once_now;
          takes = takes;
          stays = stays;
        }
