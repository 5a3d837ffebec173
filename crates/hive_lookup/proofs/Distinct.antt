-- Names in order, all of them different.
use Rattle.std.proofs.Common.{◌≡◌, ◌<◌, ◌+◌, ◌-◌, ℕ, zero, suc, List, length, get_or, refl, ◌∙◌, ap, sym, subst, arith, true, false}
use Rattle.std.specs.List.{IsDistinct}
use Rattle.std.specs.List.Sorted.{IsPermutation, IsSorted}
use Rattle.std.specs.declared.cmp.Ordering.{Ordering}
use Rattle.std.specs.declared.cmp.Ordering.TheVariants.{Less, Equal, Greater}
use Rattle.std.specs.Ordering.{eq_by_cmp, is_eq, is_lt, ordering_reverse}
use Rattle.std.specs.Cmp.{IsTotalOrder, eq_by_cmp_equiv}
use Rattle.std.specs.Cmp.Lexicographic.{on_texts}
use Rattle.std.proofs.lemmas.Map.Keys.{IsDistinct-from_apart, apart_from_distinct, IsDistinct-IsPermutation}
use Rattle.hive_tree_model.proofs.Basics.{clash}
use Rattle.reg_names.specs.Names.{folded, name_cmp}

total : IsTotalOrder name_cmp
total = on_texts folded

-- a name that doesn't fall below another and isn't the same comes before it
less_if : (a b : List ℕ) (o : Ordering) → name_cmp a b ≡ o → is_eq (name_cmp a b) ≡ false → is_lt (name_cmp b a) ≡ false → o ≡ Less
less_if a b Less e h g = refl
less_if a b Equal e h g = clash (is_eq (name_cmp a b)) (ap is_eq e) h
less_if a b Greater e h g = clash (is_lt (name_cmp b a)) (ap is_lt (total.antisymm b a ∙ ap ordering_reverse e)) g

module _ (names : List (List ℕ)) (rises : (k : ℕ) (d : List ℕ) → k + 1 < length names → name_cmp (get_or names k d) (get_or names (k + 1) d) ≡ Less) where
  shift : (i m : ℕ) → i + suc m + 1 ≡ i + suc (suc m)
  shift i m = omega arith

  first : (i : ℕ) → i + 1 ≡ i + suc zero
  first i = omega arith

  far : (i m : ℕ) (d : List ℕ) → i + suc m < length names → name_cmp (get_or names i d) (get_or names (i + suc m) d) ≡ Less
  far i zero d lt = subst (λ n. name_cmp (get_or names i d) (get_or names n d) ≡ Less) (first i) (rises i d (omega (arith, lt)))
  far i (suc m) d lt = total.trans (get_or names i d) (get_or names (i + suc m) d) (get_or names (i + suc (suc m)) d) (far i m d (omega (arith, lt)))
      (subst (λ n. name_cmp (get_or names (i + suc m) d) (get_or names n d) ≡ Less) (shift i m) (rises (i + suc m) d (omega (arith, lt))))

  gap : (i j : ℕ) → i < j → (m : ℕ) × (i + suc m ≡ j)
  gap i j h = (j - suc i, omega (arith, h))

  distinct_if_rises : IsDistinct (eq_by_cmp name_cmp) names
  distinct_if_rises = IsDistinct-from_apart (eq_by_cmp name_cmp) names (λ i j d h lt.
      let its = gap i j h in
      ap is_eq (subst (λ n. name_cmp (get_or names i d) (get_or names n d) ≡ Less) its.1 (far i its.0 d (subst (λ n. n < length names) (sym its.1) lt))))

-- neighbours differ in a sorted list
pub distinct_if : (names : List (List ℕ)) → IsSorted name_cmp names → ((k : ℕ) (d : List ℕ) → k + 1 < length names → eq_by_cmp name_cmp (get_or names k d) (get_or names (k + 1) d) ≡ false) → IsDistinct (eq_by_cmp name_cmp) names
distinct_if names sorted differ = distinct_if_rises names (λ k d lt. less_if (get_or names k d) (get_or names (k + 1) d) (name_cmp (get_or names k d) (get_or names (k + 1) d)) refl (differ k d lt) (sorted k d (omega arith) lt))

-- two neighbours are alike
pub not_distinct : (names : List (List ℕ)) (k : ℕ) (d : List ℕ) → k + 1 < length names → eq_by_cmp name_cmp (get_or names k d) (get_or names (k + 1) d) ≡ true → ¬ IsDistinct (eq_by_cmp name_cmp) names
not_distinct names k d lt e h = clash (eq_by_cmp name_cmp (get_or names k d) (get_or names (k + 1) d)) e (apart_from_distinct (eq_by_cmp name_cmp) names k (k + 1) d h (omega arith) lt)

-- in another order
pub distinct_moved : (xs ys : List (List ℕ)) → IsPermutation xs ys → IsDistinct (eq_by_cmp name_cmp) xs → IsDistinct (eq_by_cmp name_cmp) ys
distinct_moved xs ys p h = IsDistinct-IsPermutation (eq_by_cmp name_cmp) (λ x y. (eq_by_cmp_equiv total).symm x y) xs ys p h
