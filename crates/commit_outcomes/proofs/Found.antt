-- What holds of all values of a map, by what is found in it.
use Rattle.std.proofs.Common.{◌≡◌, ◌⊎◌, inl, inr, ℕ, ◌==◌, Bool, true, false, not, cond, T, List, [], ◌∷◌, map, Contains, Some, None, refl, sym, ◌∙◌, ap, subst}
use Rattle.std.specs.List.{filter, list_all}
use Rattle.std.specs.FinMap as finite
use Rattle.std.specs.FinMap.{FinMap, get-entries, entries_sorted, IsAntisymmetric}
use Rattle.std.specs.FinMap.Entries.{find, is_sorted, below_all}
use Rattle.std.specs.Ordering.{eq_by_cmp, is_eq, is_lt}
use Rattle.std.specs.Cmp.{IsTotalOrder, tied_itself}
use Rattle.std.specs.declared.cmp.Ordering.{Ordering}
use Rattle.std.specs.declared.cmp.Ordering.TheVariants.{Less}
use Rattle.std.proofs.lemmas.Bool.{cases_Bool, and_parts, and_from, false≢true, eq-eqb, ne_eqb, not_from_false}
use Rattle.std.proofs.lemmas.List.Folds.{list_all-map}
use Rattle.reg_tree_parts.proofs.Finds.{equal_of}
use Rattle.conflicts.proofs.Members.{here, later, none_empty, first_or_later as member_or_later}
use Rattle.reg_tree_parts.proofs.SortedLists.{front_of, back_of, less_of}
use Rattle.commit_outcomes.specs.Trees.{are_distinct}

module _ {K X : Type 0} (R : K → K → Ordering) (total : IsTotalOrder R) (apart : IsAntisymmetric R) where
  none_below : (k : K) (es : List (K × X)) → T (below_all R k es) → find R k es ≡ None
  none_below k [] h = refl
  none_below k (e ∷ es) h =
      let less : R k e.0 ≡ Less = less_of (R k e.0) (front_of (is_lt (R k e.0)) (below_all R k es) h) in
      ap (λ o. cond (is_eq o) (Some e.1) (find R k es)) less ∙ none_below k es (back_of (is_lt (R k e.0)) (below_all R k es) h)

  first_found : (e : K × X) (es : List (K × X)) → find R e.0 (e ∷ es) ≡ Some e.1
  first_found e es = ap (λ o. cond (is_eq o) (Some e.1) (find R e.0 es)) (tied_itself total e.0)

  first_once : (k : K) (x : X) (e : K × X) (es : List (K × X)) → T (is_sorted R (e ∷ es)) → find R k es ≡ Some x → e.0 ≡ k → ⊥
  first_once k x e es h found same =
      let none : find R k es ≡ None = ap (λ j. find R j es) (sym same) ∙ none_below e.0 es (front_of (below_all R e.0 es) (is_sorted R es) h) in
      let never : ⊥ = cc in never

  later_found : (k : K) (x : X) (e : K × X) (es : List (K × X)) → T (is_sorted R (e ∷ es)) → find R k es ≡ Some x → find R k (e ∷ es) ≡ Some x
  later_found k x e es h found = elim (cases_Bool (eq_by_cmp R k e.0)) [
    | inl tied ↦ absurd (first_once k x e es h found (sym (apart k e.0 (equal_of (R k e.0) tied))))
    | inr other ↦ ap (λ b. cond b (Some e.1) (find R k es)) other ∙ found
  ]

  -- what is found is the first's, or is found among the rest
  first_or_later : (k : K) (x : X) (e : K × X) (es : List (K × X)) → find R k (e ∷ es) ≡ Some x → ((k ≡ e.0) × (e.1 ≡ x)) ⊎ (find R k es ≡ Some x)
  first_or_later k x e es found = by_case (eq_by_cmp R k e.0) refl found
    where
      by_case : (b : Bool) → eq_by_cmp R k e.0 ≡ b → cond b (Some e.1) (find R k es) ≡ Some x → ((k ≡ e.0) × (e.1 ≡ x)) ⊎ (find R k es ≡ Some x)
      by_case true tied is = let same : e.1 ≡ x = cc in inl (apart k e.0 (equal_of (R k e.0) tied), same)
      by_case false other is = inr is

  all_pass : (p : X → Bool) (es : List (K × X)) → T (is_sorted R es) → ((k : K) (x : X) → find R k es ≡ Some x → p x ≡ true) → list_all p (map (λ e. e.1) es) ≡ true
  all_pass p [] h on = refl
  all_pass p (e ∷ es) h on = and_from (p e.1) (list_all p (map (λ e. e.1) es)) (on e.0 e.1 (first_found e es)) (all_pass p es (back_of (below_all R e.0 es) (is_sorted R es) h) (λ k x found. on k x (later_found k x e es h found)))

  pass_found : (p : X → Bool) (es : List (K × X)) → list_all p (map (λ e. e.1) es) ≡ true → (k : K) (x : X) → find R k es ≡ Some x → p x ≡ true
  pass_found p [] all k x found = absurd (let never : ⊥ = cc in never)
  pass_found p (e ∷ es) all k x found =
      let parts = and_parts (p e.1) (list_all p (map (λ e. e.1) es)) all in
      elim (first_or_later k x e es found) [
        | inl is ↦ ap p (sym is.1) ∙ parts.0
        | inr later ↦ pass_found p es parts.1 k x later
      ]

  none_pass : (p : X → Bool) (es : List (K × X)) → T (is_sorted R es) → ((k : K) (x : X) → find R k es ≡ Some x → p x ≡ true → ⊥) → filter p (map (λ e. e.1) es) ≡ []
  none_pass p [] h on = refl
  none_pass p (e ∷ es) h on =
      let rest = none_pass p es (back_of (below_all R e.0 es) (is_sorted R es) h) (λ k x found. on k x (later_found k x e es h found)) in
      elim (cases_Bool (p e.1)) [
        | inl holds ↦ absurd (on e.0 e.1 (first_found e es) holds)
        | inr fails ↦ ap (λ b. cond b (e.1 ∷ filter p (map (λ e. e.1) es)) (filter p (map (λ e. e.1) es))) fails ∙ rest
      ]

  one_passes : (p : X → Bool) (es : List (K × X)) → T (is_sorted R es) → (k : K) (x : X) → find R k es ≡ Some x → p x ≡ true → ((j : K) (y : X) → find R j es ≡ Some y → p y ≡ true → j ≡ k) → filter p (map (λ e. e.1) es) ≡ x ∷ []
  one_passes p [] h k x found holds on = absurd (let never : ⊥ = cc in never)
  one_passes p (e ∷ es) h k x found holds on =
      let sorted = back_of (below_all R e.0 es) (is_sorted R es) h in
      let values = map (λ (e : K × X). e.1) es in
      elim (first_or_later k x e es found) [
        | inl is ↦
            ap (λ b. cond b (e.1 ∷ filter p values) (filter p values)) (ap p is.1 ∙ holds)
            ∙ ap (λ l. e.1 ∷ l) (none_pass p es sorted (λ j y there passes. first_once j y e es h there (sym is.0 ∙ sym (on j y (later_found j y e es h there) passes))))
            ∙ ap (λ v. v ∷ []) is.1
        | inr later ↦ elim (cases_Bool (p e.1)) [
          | inl first ↦ absurd (first_once k x e es h later (on e.0 e.1 (first_found e es) first))
          | inr fails ↦ ap (λ b. cond b (e.1 ∷ filter p values) (filter p values)) fails ∙ one_passes p es sorted k x later holds (λ j y there passes. on j y (later_found j y e es h there) passes)
        ]
      ]

  are_apart : (n : X → ℕ) (es : List (K × X)) → T (is_sorted R es) → ((j k : K) (x y : X) → find R j es ≡ Some x → find R k es ≡ Some y → n x ≡ n y → j ≡ k) → are_distinct (map n (map (λ e. e.1) es)) ≡ true
  are_apart n [] h on = refl
  are_apart n (e ∷ es) h on =
      let sorted = back_of (below_all R e.0 es) (is_sorted R es) h in
      and_from (list_all (λ m. not (n e.1 == m)) (map n (map (λ e. e.1) es))) (are_distinct (map n (map (λ e. e.1) es)))
      (list_all-map (λ m. not (n e.1 == m)) n (map (λ e. e.1) es)
      ∙ all_pass (λ x. not (n e.1 == n x)) es sorted (λ k x there. not_from_false (n e.1 == n x) (ne_eqb (n e.1) (n x) (λ same. first_once k x e es h there (on e.0 k e.1 x (first_found e es) (later_found k x e es h there) same)))))
      (are_apart n es sorted (λ j k x y a b same. on j k x y (later_found j x e es h a) (later_found k y e es h b) same))

  apart_found : (n : X → ℕ) (es : List (K × X)) → are_distinct (map n (map (λ e. e.1) es)) ≡ true → (j k : K) (x y : X) → find R j es ≡ Some x → find R k es ≡ Some y → n x ≡ n y → j ≡ k
  apart_found n [] d j k x y a b same = absurd (let never : ⊥ = cc in never)
  apart_found n (e ∷ es) d j k x y a b same =
      let parts = and_parts (list_all (λ m. not (n e.1 == m)) (map n (map (λ e. e.1) es))) (are_distinct (map n (map (λ e. e.1) es))) d in
      let others : list_all (λ x. not (n e.1 == n x)) (map (λ e. e.1) es) ≡ true = sym (list_all-map (λ m. not (n e.1 == m)) n (map (λ e. e.1) es)) ∙ parts.0 in
      let never : (i : K) (z : X) → find R i es ≡ Some z → n e.1 ≡ n z → ⊥ = λ i z found is. false≢true (sym (ap not (eq-eqb (n e.1) (n z) is)) ∙ pass_found (λ x. not (n e.1 == n x)) es others i z found) in
      elim (first_or_later j x e es a) [
        | inl is ↦ elim (first_or_later k y e es b) [
          | inl has ↦ is.0 ∙ sym has.0
          | inr later ↦ absurd (never k y later (ap n is.1 ∙ same))
        ]
        | inr later ↦ elim (first_or_later k y e es b) [
          | inl has ↦ absurd (never j x later (ap n has.1 ∙ sym same))
          | inr too ↦ apart_found n es parts.1 j k x y later too same
        ]
      ]

  found_in : (es : List (K × X)) (k : K) (x : X) → find R k es ≡ Some x → Contains (map (λ e. e.1) es) x
  found_in [] k x found = absurd (let never : ⊥ = cc in never)
  found_in (e ∷ es) k x found = elim (first_or_later k x e es found) [
    | inl is ↦ subst (λ y. Contains (e.1 ∷ map (λ e. e.1) es) y) is.1 (here e.1 (map (λ e. e.1) es))
    | inr there ↦ later e.1 (map (λ e. e.1) es) x (found_in es k x there)
  ]

  in_found : (es : List (K × X)) → T (is_sorted R es) → (x : X) → Contains (map (λ e. e.1) es) x → (k : K) × (find R k es ≡ Some x)
  in_found [] h x has = absurd (none_empty x has)
  in_found (e ∷ es) h x has = elim (member_or_later e.1 (map (λ e. e.1) es) x has) [
    | inl is ↦ (e.0, first_found e es ∙ ap (λ y. Some y) is)
    | inr there ↦
        let rest = in_found es (back_of (below_all R e.0 es) (is_sorted R es) h) x there in
        (rest.0, later_found rest.0 x e es h rest.1)
  ]

  -- The same of maps
  module _ (m : FinMap R X) where
    pub all_values : (p : X → Bool) → ((k : K) (x : X) → finite.get m k ≡ Some x → p x ≡ true) → list_all p (finite.values m) ≡ true
    all_values p on = all_pass p (finite.entries m) (entries_sorted m) (λ k x found. on k x (get-entries m k ∙ found))

    pub value_passes : (p : X → Bool) → list_all p (finite.values m) ≡ true → (k : K) (x : X) → finite.get m k ≡ Some x → p x ≡ true
    value_passes p all k x found = pass_found p (finite.entries m) all k x (sym (get-entries m k) ∙ found)

    pub one_value : (p : X → Bool) (k : K) (x : X) → finite.get m k ≡ Some x → p x ≡ true → ((j : K) (y : X) → finite.get m j ≡ Some y → p y ≡ true → j ≡ k) → filter p (finite.values m) ≡ x ∷ []
    one_value p k x found holds on = one_passes p (finite.entries m) (entries_sorted m) k x (sym (get-entries m k) ∙ found) holds (λ j y there passes. on j y (get-entries m j ∙ there) passes)

    pub distinct_values : (n : X → ℕ) → ((j k : K) (x y : X) → finite.get m j ≡ Some x → finite.get m k ≡ Some y → n x ≡ n y → j ≡ k) → are_distinct (map n (finite.values m)) ≡ true
    distinct_values n on = are_apart n (finite.entries m) (entries_sorted m) (λ j k x y a b same. on j k x y (get-entries m j ∙ a) (get-entries m k ∙ b) same)

    pub values_distinct : (n : X → ℕ) → are_distinct (map n (finite.values m)) ≡ true → (j k : K) (x y : X) → finite.get m j ≡ Some x → finite.get m k ≡ Some y → n x ≡ n y → j ≡ k
    values_distinct n d j k x y a b same = apart_found n (finite.entries m) d j k x y (sym (get-entries m j) ∙ a) (sym (get-entries m k) ∙ b) same

    pub found_value : (k : K) (x : X) → finite.get m k ≡ Some x → Contains (finite.values m) x
    found_value k x found = found_in (finite.entries m) k x (sym (get-entries m k) ∙ found)

    pub value_found_at : (x : X) → Contains (finite.values m) x → (k : K) × (finite.get m k ≡ Some x)
    value_found_at x has = let at = in_found (finite.entries m) (entries_sorted m) x has in (at.0, get-entries m at.0 ∙ at.1)
