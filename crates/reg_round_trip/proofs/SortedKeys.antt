-- Entries in order: each is found, and what comes before them is not.
use Rattle.std.proofs.Common.{◌≡◌, ℕ, Bool, true, false, ◌&&◌, cond, T, List, [], ◌∷◌, ◌++◌, map, Some, None, refl, sym, ◌∙◌, ap, ap₂, subst}
use Rattle.std.specs.List.{AllByRecursion}
use Rattle.std.specs.Option.{option_map}
use Rattle.std.specs.declared.cmp.Ordering.{Ordering}
use Rattle.std.specs.declared.cmp.Ordering.TheVariants.{Less}
use Rattle.std.specs.Ordering.{eq_by_cmp, is_lt, is_eq, ordering_then, ordering_reverse}
use Rattle.std.specs.Cmp.{IsTotalOrder, tied_itself}
use Rattle.std.specs.FinMap as finite
use Rattle.std.specs.FinMap.{get-entries, entries_sorted}
use Rattle.std.specs.FinMap.Entries.{find, is_sorted, below_all}
use Rattle.reg_tree_parts.specs.Orders.{path_order}
use Rattle.reg_tree_parts.proofs.Keys.{names_total}
use Rattle.reg_tree_parts.proofs.Finds.{equal_of}
use Rattle.reg_tree_parts.proofs.SortedLists.{front_of, back_of, less_of}
use Rattle.reg_round_trip.proofs.Units.{all_then, all_zip}

module _ {K X : Type 0} {R : K → K → Ordering} (total : IsTotalOrder R) where
  all_less : (k : K) (es : List (K × X)) → T (below_all R k es) → AllByRecursion (λ e. R k e.0 ≡ Less) es
  all_less k [] h = tt
  all_less k (e ∷ es) h = (less_of (R k e.0) (front_of (is_lt (R k e.0)) (below_all R k es) h), all_less k es (back_of (is_lt (R k e.0)) (below_all R k es) h))

  none_less : (k : K) (es : List (K × X)) → AllByRecursion (λ e. R k e.0 ≡ Less) es → find R k es ≡ None
  none_less k [] h = refl
  none_less k (e ∷ es) h = ap (λ o. cond (is_eq o) (Some e.1) (find R k es)) h.0 ∙ none_less k es h.1

  -- a key that is below all is not among them, nor is one below it
  pub none_at : (k : K) (es : List (K × X)) → T (below_all R k es) → find R k es ≡ None
  none_at k es h = none_less k es (all_less k es h)

  pub none_before : (q k : K) (es : List (K × X)) → R q k ≡ Less → T (below_all R k es) → find R q es ≡ None
  none_before q k es l h = none_less q es (all_then (λ e. R k e.0 ≡ Less) (λ e. R q e.0 ≡ Less) (λ e more. total.trans q k e.0 l more) es (all_less k es h))

  -- each entry is found
  pub each_found : (es : List (K × X)) → T (is_sorted R es) → AllByRecursion (λ e. find R e.0 es ≡ Some e.1) es
  each_found [] h = tt
  each_found (e ∷ es) h = (
    ap (λ o. cond (is_eq o) (Some e.1) (find R e.0 es)) (tied_itself total e.0),
    all_zip (λ x. find R x.0 es ≡ Some x.1) (λ x. R e.0 x.0 ≡ Less) (λ x. find R x.0 (e ∷ es) ≡ Some x.1) (λ x found less. ap (λ o. cond (is_eq o) (Some e.1) (find R x.0 es)) (total.antisymm x.0 e.0 ∙ ap ordering_reverse less) ∙ found) es
        (each_found es (back_of (below_all R e.0 es) (is_sorted R es) h)) (all_less e.0 es (front_of (below_all R e.0 es) (is_sorted R es) h)),
  )

  pub each_got : (m : finite.FinMap R X) → AllByRecursion (λ e. finite.get m e.0 ≡ Some e.1) (finite.entries m)
  each_got m = all_then (λ e. find R e.0 (finite.entries m) ≡ Some e.1) (λ e. finite.get m e.0 ≡ Some e.1) (λ e found. get-entries m e.0 ∙ found) (finite.entries m) (each_found (finite.entries m) (entries_sorted m))

-- a path comes before one that goes on from it
pub parent_less : (path : List (List ℕ)) (name : List ℕ) → path_order path (path ++ name ∷ []) ≡ Less
parent_less [] name = refl
parent_less (m ∷ path) name = ap (λ o. ordering_then o (path_order path (path ++ name ∷ []))) (tied_itself names_total m) ∙ parent_less path name

-- entries with other things under the same keys
module _ {K X Y : Type 0} (R : K → K → Ordering) (f : K → X → Y) where
  abbrev pub mapped : List (K × X) → List (K × Y)
  mapped es = map (λ e. (e.0, f e.0 e.1)) es

  below_mapped : (k : K) (es : List (K × X)) → below_all R k (mapped es) ≡ below_all R k es
  below_mapped k [] = refl
  below_mapped k (e ∷ es) = ap (λ b. is_lt (R k e.0) && b) (below_mapped k es)

  sorted_is : (es : List (K × X)) → is_sorted R (mapped es) ≡ is_sorted R es
  sorted_is [] = refl
  sorted_is (e ∷ es) = ap₂ (λ a b. a && b) (below_mapped e.0 es) (sorted_is es)

  pub sorted_mapped : (es : List (K × X)) → T (is_sorted R es) → T (is_sorted R (mapped es))
  sorted_mapped es h = subst T (sym (sorted_is es)) h

  pub find_mapped : finite.IsAntisymmetric R → (q : K) (es : List (K × X)) → find R q (mapped es) ≡ option_map (f q) (find R q es)
  find_mapped apart q [] = refl
  find_mapped apart q (e ∷ es) = by_key (find_mapped apart q es) (eq_by_cmp R q e.0) refl
    where
      by_key : find R q (mapped es) ≡ option_map (f q) (find R q es) → (t : Bool) → eq_by_cmp R q e.0 ≡ t → cond t (Some (f e.0 e.1)) (find R q (mapped es)) ≡ option_map (f q) (cond t (Some e.1) (find R q es))
      by_key rest true t = ap (λ k. Some (f k e.1)) (sym (apart q e.0 (equal_of (R q e.0) t)))
      by_key rest false t = rest
