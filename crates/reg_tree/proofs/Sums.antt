-- Sums over finite maps: what is nowhere more than another is in sum not more.
use Rattle.std.proofs.Common.{◌≡◌, ℕ, ◌+◌, ◌≤◌, Bool, true, false, not, cond, T, ◌⊎◌, inl, inr, List, [], ◌∷◌, sum_by, Option, Some, None, refl, sym, ◌∙◌, ap, subst, arith}
use Rattle.std.specs.declared.cmp.Ordering.{Ordering}
use Rattle.std.specs.Ordering.{is_lt, is_eq, eq_by_cmp}
use Rattle.std.specs.Cmp.{IsTotalOrder, tied_itself, alike_right, eq_by_cmp_equiv}
use Rattle.std.specs.FinMap as finite
use Rattle.std.specs.FinMap.{IsAntisymmetric, entries_sorted, get-entries}
use Rattle.std.specs.FinMap.Entries.{find, where_key, is_sorted, below_all, is_sorted-where_key, find-where_key}
use Rattle.std.proofs.lemmas.List.Sums.{sum_by-cons}
use Rattle.reg_tree_parts.proofs.SortedLists.{front_of, back_of, less_of}
use Rattle.reg_tree_parts.proofs.Finds.{equal_of}
use Rattle.reg_tree.proofs.Paths.{told}

-- the measure of what is there, and nothing if there is none
abbrev pub of_option : {X : Type 0} → (X → ℕ) → Option X → ℕ
of_option f None = 0
of_option f (Some x) = f x

module _ {K X : Type 0} {R : K → K → Ordering} (total : IsTotalOrder R) (f : X → ℕ) where
  total_of : List (K × X) → ℕ
  total_of es = sum_by (λ e. f e.1) es

  others_of : K → List (K × X) → List (K × X)
  others_of k es = where_key R (λ x. not (eq_by_cmp R k x)) es

  -- a key that is below all is not among them, and taking it out leaves them
  kept_all : (k : K) (es : List (K × X)) → T (below_all R k es) → others_of k es ≡ es
  unfolding others_of
  kept_all k [] h = refl
  kept_all k (e ∷ es) h =
      ap (λ o. cond (not (is_eq o)) (e ∷ where_key R (λ x. not (eq_by_cmp R k x)) es) (where_key R (λ x. not (eq_by_cmp R k x)) es)) (less_of (R k e.0) (front_of (is_lt (R k e.0)) (below_all R k es) h))
      ∙ ap (λ xs. e ∷ xs) (kept_all k es (back_of (is_lt (R k e.0)) (below_all R k es) h))

  none_below : (k : K) (es : List (K × X)) → T (below_all R k es) → find R k es ≡ None
  none_below k [] h = refl
  none_below k (e ∷ es) h =
      ap (λ o. cond (is_eq o) (Some e.1) (find R k es)) (less_of (R k e.0) (front_of (is_lt (R k e.0)) (below_all R k es) h)) ∙ none_below k es (back_of (is_lt (R k e.0)) (below_all R k es) h)

  -- the whole is what is at a key and the others
  parted : IsAntisymmetric R → (k : K) (es : List (K × X)) → T (is_sorted R es) → total_of es ≡ of_option f (find R k es) + total_of (others_of k es)
  unfolding total_of others_of
  parted same k [] h = refl
  parted same k (e ∷ es) h = by_case (parted same k es (back_of (below_all R e.0 es) (is_sorted R es) h)) (eq_by_cmp R k e.0) refl
    where
      by_case : total_of es ≡ of_option f (find R k es) + total_of (others_of k es) → (b : Bool) → eq_by_cmp R k e.0 ≡ b → sum_by (λ e. f e.1) (e ∷ es) ≡ of_option f (cond b (Some e.1) (find R k es)) + sum_by (λ e. f e.1) (cond (not b) (e ∷ where_key R (λ x. not (eq_by_cmp R k x)) es) (where_key R (λ x. not (eq_by_cmp R k x)) es))
      by_case rest true t =
          let is : k ≡ e.0 = same k e.0 (equal_of (R k e.0) t) in
          sum_by-cons (λ e. f e.1) e es ∙ ap (λ xs. f e.1 + sum_by (λ e. f e.1) xs) (sym (kept_all k es (subst (λ x. T (below_all R x es)) (sym is) (front_of (below_all R e.0 es) (is_sorted R es) h))))
      by_case rest false t = omega (arith, rest, sum_by-cons (λ e. f e.1) e es, sum_by-cons (λ e. f e.1) e (where_key R (λ x. not (eq_by_cmp R k x)) es))

  -- a list that has nowhere more than another has in all not more
  dominated : IsAntisymmetric R → (es fs : List (K × X)) → T (is_sorted R es) → T (is_sorted R fs) → ((q : K) → of_option f (find R q es) ≤ of_option f (find R q fs)) → total_of es ≤ total_of fs
  unfolding total_of others_of
  dominated same [] fs he hf less = omega arith
  dominated same (e ∷ es) fs he hf less =
      let here : f e.1 ≤ of_option f (find R e.0 fs) = subst (λ o. of_option f (cond (is_eq o) (Some e.1) (find R e.0 es)) ≤ of_option f (find R e.0 fs)) (tied_itself total e.0) (less e.0) in
      let rest = dominated same es (others_of e.0 fs) (back_of (below_all R e.0 es) (is_sorted R es) he) (sorted_others fs hf) elsewhere in
      omega (arith, here, rest, parted same e.0 fs hf, sum_by-cons (λ e. f e.1) e es)
    where
      sorted_others : (fs : List (K × X)) → T (is_sorted R fs) → T (is_sorted R (others_of e.0 fs))
      sorted_others fs hf = is_sorted-where_key R (λ x. not (eq_by_cmp R e.0 x)) fs hf

      elsewhere : (q : K) → of_option f (find R q es) ≤ of_option f (find R q (others_of e.0 fs))
      elsewhere q =
          subst (λ o. of_option f (find R q es) ≤ of_option f o) (sym (find-where_key R (λ x. not (eq_by_cmp R e.0 x)) q (λ x tied. ap (λ o. not (is_eq o)) (sym (alike_right total q x e.0 tied))) fs))
          (by_case (told (eq_by_cmp R e.0 q)))
        where
          by_case : (eq_by_cmp R e.0 q ≡ true) ⊎ (eq_by_cmp R e.0 q ≡ false) → of_option f (find R q es) ≤ of_option f (cond (not (eq_by_cmp R e.0 q)) (find R q fs) None)
          by_case (inl t) =
              let is : e.0 ≡ q = same e.0 q (equal_of (R e.0 q) t) in
              let gone : find R q es ≡ None = subst (λ x. find R x es ≡ None) is (none_below e.0 es (front_of (below_all R e.0 es) (is_sorted R es) he)) in
              omega (arith, ap (of_option f) gone)
          by_case (inr t) =
              let apart : eq_by_cmp R q e.0 ≡ false = (eq_by_cmp_equiv total).symm q e.0 ∙ t in
              subst (λ b. of_option f (find R q es) ≤ of_option f (cond (not b) (find R q fs) None)) (sym t)
              (subst (λ b. of_option f (cond b (Some e.1) (find R q es)) ≤ of_option f (find R q fs)) apart (less q))

  -- so it is with maps
  pub less_in_all : IsAntisymmetric R → (m n : finite.FinMap R X) → ((q : K) → of_option f (finite.get m q) ≤ of_option f (finite.get n q)) → sum_by (λ e. f e.1) (finite.entries m) ≤ sum_by (λ e. f e.1) (finite.entries n)
  unfolding total_of
  less_in_all same m n less = dominated same (finite.entries m) (finite.entries n) (entries_sorted m) (entries_sorted n)
      (λ q. subst (λ o. of_option f o ≤ of_option f (find R q (finite.entries n))) (get-entries m q) (subst (λ o. of_option f (finite.get m q) ≤ of_option f o) (get-entries n q) (less q)))
