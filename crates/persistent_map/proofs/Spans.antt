-- Searches and edits of a list in the order of its keys that is several lists in turn.
use Rattle.std.proofs.Common.{◌≡◌, Bool, true, false, not, ◌&&◌, cond, T, List, [], ◌∷◌, ◌++◌, Some, None, refl, sym, ◌∙◌, ap, subst}
use Rattle.std.specs.declared.cmp.Ordering.{Ordering}
use Rattle.std.specs.declared.cmp.Ordering.TheVariants.{Less, Equal, Greater}
use Rattle.std.specs.Ordering.{is_lt, is_eq, eq_by_cmp}
use Rattle.std.specs.Cmp.{IsTotalOrder, alike_right}
use Rattle.std.specs.FinMap.Entries.{find, put, where_key, is_sorted, below_all, by_order}
use Rattle.persistent_map.proofs.SortedLists.{less_of, front_of, back_of, turned_less, turned_greater}

pub both : (a b : Bool) → T a → T b → T (a && b)
both true b p q = q
both false b p q = absurd p

lt_of : (o : Ordering) → o ≡ Less → T (is_lt o)
lt_of o e = subst (λ x. T (is_lt x)) (sym e) tt

module _ {K X : Type 0} (R : K → K → Ordering) where
  -- whether each key is below k
  abbrev pub all_less : List (K × X) → K → Bool
  all_less [] k = true
  all_less (e ∷ es) k = is_lt (R e.0 k) && all_less es k

  below_front : (k : K) (xs ys : List (K × X)) → T (below_all R k (xs ++ ys)) → T (below_all R k xs)
  below_front k [] ys h = tt
  below_front k (x ∷ xs) ys h = both _ _ (front_of _ _ h) (below_front k xs ys (back_of _ _ h))

  below_back : (k : K) (xs ys : List (K × X)) → T (below_all R k (xs ++ ys)) → T (below_all R k ys)
  below_back k [] ys h = h
  below_back k (x ∷ xs) ys h = below_back k xs ys (back_of _ _ h)

  -- the front and the back of a list in order are in order, and all of the front is below the back
  pub sorted_front : (xs ys : List (K × X)) → T (is_sorted R (xs ++ ys)) → T (is_sorted R xs)
  sorted_front [] ys h = tt
  sorted_front (x ∷ xs) ys h = both _ _ (below_front x.0 xs ys (front_of _ _ h)) (sorted_front xs ys (back_of _ _ h))

  pub sorted_back : (xs ys : List (K × X)) → T (is_sorted R (xs ++ ys)) → T (is_sorted R ys)
  sorted_back [] ys h = h
  sorted_back (x ∷ xs) ys h = sorted_back xs ys (back_of _ _ h)

  pub across : (xs : List (K × X)) (y : K × X) (ys : List (K × X)) → T (is_sorted R (xs ++ y ∷ ys)) → T (all_less xs y.0)
  across [] y ys h = tt
  across (x ∷ xs) y ys h = both _ _ (front_of _ _ (below_back x.0 xs (y ∷ ys) (front_of _ _ h))) (across xs y ys (back_of _ _ h))

  where_append : (p : K → Bool) (xs ys : List (K × X)) → where_key R p (xs ++ ys) ≡ where_key R p xs ++ where_key R p ys
  where_append p [] ys = refl
  where_append p (x ∷ xs) ys =
      elim (p x.0) as (λ b. cond b (x ∷ where_key R p (xs ++ ys)) (where_key R p (xs ++ ys)) ≡ cond b (x ∷ where_key R p xs) (where_key R p xs) ++ where_key R p ys) [
        | true ↦ ap (λ es. x ∷ es) (where_append p xs ys)
        | false ↦ where_append p xs ys
      ]

  module _ (total : IsTotalOrder R) where
    -- what is below k is below each key from k on
    pub less_on : (xs : List (K × X)) (k q : K) → T (all_less xs k) → is_lt (R q k) ≡ false → T (all_less xs q)
    less_on [] k q h at = tt
    less_on (x ∷ xs) k q h at =
        let less : R x.0 k ≡ Less = less_of _ (front_of _ _ h) in
        both _ _ (lt_of _ (elim (R q k) as (λ o. R q k ≡ o → is_lt o ≡ false → R x.0 q ≡ Less) [
          | Less ↦ λ e f. absurd (subst T f tt)
          | Equal ↦ λ e f. alike_right total q k x.0 e ∙ less
          | Greater ↦ λ e f. total.trans x.0 k q less (turned_greater total q k e)
        ] refl at)) (less_on xs k q (back_of _ _ h) at)

    -- what is above k is above each key below it
    pub below_on : (q k : K) (ys : List (K × X)) → R q k ≡ Less → T (below_all R k ys) → T (below_all R q ys)
    below_on q k [] less h = tt
    below_on q k (y ∷ ys) less h = both _ _ (lt_of _ (total.trans q k y.0 less (less_of _ (front_of _ _ h)))) (below_on q k ys less (back_of _ _ h))

    find_past : (q : K) (xs ys : List (K × X)) → T (all_less xs q) → find R q (xs ++ ys) ≡ find R q ys
    find_past q [] ys h = refl
    find_past q (x ∷ xs) ys h = ap (λ o. cond (is_eq o) (Some x.1) (find R q (xs ++ ys))) (turned_less total x.0 q (less_of _ (front_of _ _ h))) ∙ find_past q xs ys (back_of _ _ h)

    missing_below : (q : K) (ys : List (K × X)) → T (below_all R q ys) → find R q ys ≡ None
    missing_below q [] h = refl
    missing_below q (y ∷ ys) h = ap (λ o. cond (is_eq o) (Some y.1) (find R q ys)) (less_of _ (front_of _ _ h)) ∙ missing_below q ys (back_of _ _ h)

    find_before : (q : K) (xs ys : List (K × X)) → T (below_all R q ys) → find R q (xs ++ ys) ≡ find R q xs
    find_before q [] ys h = missing_below q ys h
    find_before q (x ∷ xs) ys h = ap (cond (is_eq (R q x.0)) (Some x.1)) (find_before q xs ys h)

    put_past : (k : K) (v : X) (xs ys : List (K × X)) → T (all_less xs k) → put R k v (xs ++ ys) ≡ xs ++ put R k v ys
    put_past k v [] ys h = refl
    put_past k v (x ∷ xs) ys h =
        ap (λ o. by_order o ((k, v) ∷ x ∷ (xs ++ ys)) ((x.0, v) ∷ (xs ++ ys)) (x ∷ put R k v (xs ++ ys))) (turned_less total x.0 k (less_of _ (front_of _ _ h)))
        ∙ ap (λ es. x ∷ es) (put_past k v xs ys (back_of _ _ h))

    put_before : (k : K) (v : X) (xs ys : List (K × X)) → T (below_all R k ys) → put R k v (xs ++ ys) ≡ put R k v xs ++ ys
    put_before k v [] [] h = refl
    put_before k v [] (y ∷ ys) h = ap (λ o. by_order o ((k, v) ∷ y ∷ ys) ((y.0, v) ∷ ys) (y ∷ put R k v ys)) (less_of _ (front_of _ _ h))
    put_before k v (x ∷ xs) ys h =
        elim (R k x.0) as (λ o. by_order o ((k, v) ∷ x ∷ (xs ++ ys)) ((x.0, v) ∷ (xs ++ ys)) (x ∷ put R k v (xs ++ ys)) ≡ by_order o ((k, v) ∷ x ∷ xs) ((x.0, v) ∷ xs) (x ∷ put R k v xs) ++ ys) [
          | Less ↦ refl
          | Equal ↦ refl
          | Greater ↦ ap (λ es. x ∷ es) (put_before k v xs ys h)
        ]

    where_past : (k : K) (xs : List (K × X)) → T (all_less xs k) → where_key R (λ x. not (eq_by_cmp R k x)) xs ≡ xs
    where_past k [] h = refl
    where_past k (x ∷ xs) h =
        ap (λ o. cond (not (is_eq o)) (x ∷ where_key R (λ x. not (eq_by_cmp R k x)) xs) (where_key R (λ x. not (eq_by_cmp R k x)) xs)) (turned_less total x.0 k (less_of _ (front_of _ _ h)))
        ∙ ap (λ es. x ∷ es) (where_past k xs (back_of _ _ h))

    where_before : (k : K) (ys : List (K × X)) → T (below_all R k ys) → where_key R (λ x. not (eq_by_cmp R k x)) ys ≡ ys
    where_before k [] h = refl
    where_before k (y ∷ ys) h =
        ap (λ o. cond (not (is_eq o)) (y ∷ where_key R (λ x. not (eq_by_cmp R k x)) ys) (where_key R (λ x. not (eq_by_cmp R k x)) ys)) (less_of _ (front_of _ _ h))
        ∙ ap (λ es. y ∷ es) (where_before k ys (back_of _ _ h))

    -- in three lists, of which the first is below k and the last above it, the middle one decides
    module _ (k : K) (front middle back : List (K × X)) (less : T (all_less front k)) (above : T (below_all R k back)) where
      pub find_within : find R k (front ++ (middle ++ back)) ≡ find R k middle
      find_within = find_past k front (middle ++ back) less ∙ find_before k middle back above

      pub put_within : (v : X) → put R k v (front ++ (middle ++ back)) ≡ front ++ (put R k v middle ++ back)
      put_within v = put_past k v front (middle ++ back) less ∙ ap (λ es. front ++ es) (put_before k v middle back above)

      pub where_within : where_key R (λ x. not (eq_by_cmp R k x)) (front ++ (middle ++ back)) ≡ front ++ (where_key R (λ x. not (eq_by_cmp R k x)) middle ++ back)
      where_within =
          where_append _ front (middle ++ back) ∙ ap (λ es. es ++ where_key R (λ x. not (eq_by_cmp R k x)) (middle ++ back)) (where_past k front less)
          ∙ ap (λ es. front ++ es) (where_append _ middle back ∙ ap (λ es. where_key R (λ x. not (eq_by_cmp R k x)) middle ++ es) (where_before k back above))
