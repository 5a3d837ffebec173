-- How far along a path keys are there.
use Rattle.std.proofs.Common.{◌≡◌, ℕ, zero, suc, ◌+◌, ◌-◌, ◌<◌, ◌≤◌, eqb, Bool, true, false, not, cond, List, [], ◌∷◌, ◌++◌, map, filter, length, take, drop, Some, None, IsSome, is_some, refl, sym, ◌∙◌, ap, subst, arith, inl, inr, append-nil, append_assoc}
use Rattle.std.specs.FinMap as finite
use Rattle.std.proofs.lemmas.List.{take-append-drop}
use Rattle.std.proofs.lemmas.Bool.{cases_lt}
use Rattle.std.proofs.lemmas.Bool.Decides.{nat_tests}
use Rattle.std.proofs.lemmas.List.{take-map, length-map}
use Rattle.reg_names.specs.Names.{folded, folded_path}
use Rattle.reg_tree_parts.specs.Orders.{path_order}
use Rattle.reg_tree_parts.specs.Rows.{Row}
use Rattle.reg_tree_parts.specs.Nodes.{Entries, row_at}
use Rattle.reg_tree.specs.Maps.{TreeMap, row, is_there, beginnings, missing, IsTree}
use Rattle.reg_tree.specs.Encodable.{IsRooted}
use Rattle.reg_tree.specs.Operations.{depth_there}
use Rattle.reg_tree.proofs.Rows.{row_is}

-- how many of a mapped list pass
passing-map : {A B : Type 0} (p : B → Bool) (h : A → B) (xs : List A) → length (filter p (map h xs)) ≡ length (filter (λ x. p (h x)) xs)
passing-map p h [] = refl
passing-map p h (x ∷ xs) = elim (p (h x)) as (λ b. length (cond b (h x ∷ filter p (map h xs)) (filter p (map h xs))) ≡ length (cond b (x ∷ filter (λ y. p (h y)) xs) (filter (λ y. p (h y)) xs))) [ true ↦ ap suc (passing-map p h xs) | false ↦ passing-map p h xs ]

-- if all beginnings up to a depth pass and none past it does, this many do not
levels : (f : List (List ℕ) → Bool) (p : List (List ℕ)) (d : ℕ) → d ≤ length p → ((k : ℕ) → 1 ≤ k → k ≤ d → f (take k p) ≡ true) → ((k : ℕ) → d < k → k ≤ length p → f (take k p) ≡ false)
    → length (filter (λ q. not (f q)) (beginnings p)) ≡ length p - d
levels f [] d within up past = omega arith
levels f (n ∷ p) zero within up past =
    ap (λ b. length (cond (not b) ((n ∷ []) ∷ filter (λ q. not (f q)) (map (λ q. n ∷ q) (beginnings p))) (filter (λ q. not (f q)) (map (λ q. n ∷ q) (beginnings p))))) (past 1 (omega arith) (omega arith))
    ∙ ap suc (passing-map (λ q. not (f q)) (λ q. n ∷ q) (beginnings p) ∙ levels (λ q. f (n ∷ q)) p zero (omega arith) (λ k low high. absurd (omega arith)) (λ k low high. past (suc k) (omega arith) (omega arith)))
    ∙ omega arith
levels f (n ∷ p) (suc d) within up past =
    ap (λ b. length (cond (not b) ((n ∷ []) ∷ filter (λ q. not (f q)) (map (λ q. n ∷ q) (beginnings p))) (filter (λ q. not (f q)) (map (λ q. n ∷ q) (beginnings p))))) (up 1 (omega arith) (omega arith))
    ∙ passing-map (λ q. not (f q)) (λ q. n ∷ q) (beginnings p)
    ∙ levels (λ q. f (n ∷ q)) p d (omega arith) (λ k low high. up (suc k) (omega arith) (omega arith)) (λ k low high. past (suc k) (omega arith) (omega arith))
    ∙ omega arith

-- with a key each beginning of its path is there
pub beginning_there : (tree : TreeMap) → IsTree tree → (p rest : List (List ℕ)) → IsSome (row tree (p ++ rest)) → IsSome (row tree p)
beginning_there tree is p [] there = subst (λ q. IsSome (row tree q)) (append-nil p) there
beginning_there tree is p (n ∷ rest) there = is.parents p n (beginning_there tree is (p ++ n ∷ []) rest (subst (λ q. IsSome (row tree q)) (sym (append_assoc p (n ∷ []) rest)) there))

module _ (tree : TreeMap) (is : IsTree tree) (path : List (List ℕ)) (d : ℕ) (within : d ≤ length path) (touched_path : IsSome (row tree (take d path))) (gone : d < length path → (rest : List (List ℕ)) → row tree (take (d + 1) path ++ rest) ≡ None) where
  -- a longer front extends a shorter one
  longer : (j k : ℕ) → j ≤ k → take k path ≡ take j path ++ drop j (take k path)
  longer j k le = sym (take-append-drop j (take k path)) ∙ ap (λ xs. xs ++ drop j (take k path)) (take_take path j k le)
    where
      take_take : (xs : List (List ℕ)) (j k : ℕ) → j ≤ k → take j (take k xs) ≡ take j xs
      take_take [] zero zero le = refl
      take_take [] zero (suc k) le = refl
      take_take [] (suc j) zero le = refl
      take_take [] (suc j) (suc k) le = refl
      take_take (x ∷ xs) zero k le = refl
      take_take (x ∷ xs) (suc j) zero le = absurd (omega arith)
      take_take (x ∷ xs) (suc j) (suc k) le = ap (λ ys. x ∷ ys) (take_take xs j k (omega arith))

  there_up_to : (k : ℕ) → k ≤ d → is_there tree (take k path) ≡ true
  there_up_to k le = beginning_there tree is (take k path) (drop k (take d path)) (subst (λ q. IsSome (row tree q)) (longer k d le) touched_path)

  gone_past : (k : ℕ) → d < k → k ≤ length path → is_there tree (take k path) ≡ false
  gone_past k lt le = ap is_some (ap (row tree) (longer (d + 1) k (omega arith)) ∙ gone (omega arith) (drop (d + 1) (take k path)))

  -- this many levels are missing
  pub levels_missing : length (missing tree path) ≡ length path - d
  levels_missing = levels (is_there tree) path d within (λ k low high. there_up_to k high) gone_past

  -- the key is there exactly if all names lead to keys
  pub there_is : is_there tree path ≡ eqb d (length path)
  there_is = elim (cases_lt d (length path)) [
    | inl lt ↦ ap (is_there tree) (sym (all_of path)) ∙ gone_past (length path) lt (omega arith) ∙ grind (arith, nat_tests)
    | inr at_least ↦
        let same : d ≡ length path = omega arith in
        ap (is_there tree) (sym (all_of path)) ∙ ap (λ k. is_there tree (take k path)) (sym same) ∙ there_up_to d (omega arith) ∙ grind (arith, nat_tests)
  ]
    where
      all_of : (xs : List (List ℕ)) → take (length xs) xs ≡ xs
      all_of [] = refl
      all_of (x ∷ xs) = ap (λ ys. x ∷ ys) (all_of xs)

-- what the deepest node on the way along a path says of the tree
module _ (entries : Entries) (rooted : IsRooted entries) (spelled : List (List ℕ)) (d : ℕ) (at : Entries) (key : Row) (within : d ≤ length spelled)
    (there : (rest : List (List ℕ)) → row_at entries (folded_path (take d spelled) ++ rest) ≡ row_at at rest)
    (gone : d < length spelled → (rest : List (List ℕ)) → row_at entries (folded_path (take (d + 1) spelled) ++ rest) ≡ None)
    (here : row_at at [] ≡ Some key) where
  same_length : length (folded_path spelled) ≡ length spelled
  same_length = length-map spelled folded

  pub near_there : (rest : List (List ℕ)) → row (finite.from_sorted {R = path_order} entries) (take d (folded_path spelled) ++ rest) ≡ row_at at rest
  near_there rest = row_is entries rooted.node (take d (folded_path spelled) ++ rest) ∙ ap (λ q. row_at entries (q ++ rest)) (take-map folded d spelled) ∙ there rest

  pub near_gone : d < length (folded_path spelled) → (rest : List (List ℕ)) → row (finite.from_sorted {R = path_order} entries) (take (d + 1) (folded_path spelled) ++ rest) ≡ None
  near_gone lt rest = row_is entries rooted.node (take (d + 1) (folded_path spelled) ++ rest) ∙ ap (λ q. row_at entries (q ++ rest)) (take-map folded (d + 1) spelled) ∙ gone (omega (arith, same_length)) rest

  near_home : IsSome (row (finite.from_sorted {R = path_order} entries) (take d (folded_path spelled)))
  near_home = ap is_some (ap (row (finite.from_sorted entries)) (sym (append-nil (take d (folded_path spelled)))) ∙ near_there [] ∙ here)

  pub near_missing : length (missing (finite.from_sorted {R = path_order} entries) (folded_path spelled)) ≡ length spelled - d
  near_missing = levels_missing (finite.from_sorted entries) rooted.tree (folded_path spelled) d (omega (arith, same_length)) near_home near_gone ∙ ap (λ n. n - d) same_length

  pub near_is_there : is_there (finite.from_sorted {R = path_order} entries) (folded_path spelled) ≡ eqb d (length spelled)
  near_is_there = there_is (finite.from_sorted entries) rooted.tree (folded_path spelled) d (omega (arith, same_length)) near_home near_gone ∙ ap (eqb d) same_length

  pub near_depth : d ≡ depth_there (finite.from_sorted {R = path_order} entries) (folded_path spelled)
  near_depth = omega (arith, near_missing, same_length)
