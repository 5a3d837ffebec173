-- What is at a path is found by going down.
use Rattle.std.proofs.Common.{◌≡◌, inl, inr, ℕ, List, [], ◌∷◌, ◌++◌, refl, ◌∙◌, ap, sym, subst, true, false, if◌then◌else◌, Some, None}
use Rattle.std.specs.FinMap.{get, get-from_entries}
use Rattle.std.specs.FinMap.Entries.{find}
use Rattle.std.specs.Ordering.{eq_by_cmp}
use Rattle.hive_tree_model.specs.Lists.{IsIn}
use Rattle.hive_tree_model.specs.Keys.{KeyParts, Keys, none, key, names}
use Rattle.hive_tree_model.specs.Trees.{path_order, same, under, rows, tree_of, row_in, row_from}
use Rattle.hive_tree_model.specs.Encodings.{Named}
use Rattle.hive_tree_model.proofs.Basics.{decided, yes_if, no_if, same_is, same_not, or_else, or_else_none, none_or_else, find_joined, path_step, find_under, root_under, paths_total}

module _ {R : Type 0} where
  root_nil : (f : Keys R) → find path_order [] (rows f) ≡ None
  root_nil none = refl
  root_nil (key at p below after) = find_joined path_order [] (under p.name (rows below)) (rows after)
      ∙ ap (λ o. or_else o (find path_order [] (rows after))) (root_under p.name (rows below)) ∙ none_or_else (find path_order [] (rows after)) ∙ root_nil after

  -- the entries of one key and those after it, at a path that begins with a name
  first_step : (p : KeyParts R) (below after : Keys R) (at : ℕ) (n : List ℕ) (q : List (List ℕ)) → find path_order (n ∷ q) (rows (key at p below after))
      ≡ (if (if same n p.name then eq_by_cmp path_order q [] else false) then Some p.row else or_else (if same n p.name then find path_order q (rows below) else None) (find path_order (n ∷ q) (rows after)))
  first_step p below after at n q = ap (λ b. if b then Some p.row else find path_order (n ∷ q) (under p.name (rows below) ++ rows after)) (path_step n p.name q [])
      ∙ ap (λ r. if (if same n p.name then eq_by_cmp path_order q [] else false) then Some p.row else r) (find_joined path_order (n ∷ q) (under p.name (rows below)) (rows after)
      ∙ ap (λ o. or_else o (find path_order (n ∷ q) (rows after))) (find_under n p.name q (rows below)))

  step_no : (p : KeyParts R) (below after : Keys R) (at : ℕ) (n : List ℕ) (q : List (List ℕ)) → same n p.name ≡ false → find path_order (n ∷ q) (rows (key at p below after)) ≡ find path_order (n ∷ q) (rows after)
  step_no p below after at n q not_it = first_step p below after at n q
      ∙ ap (λ b. if (if b then eq_by_cmp path_order q [] else false) then Some p.row else or_else (if b then find path_order q (rows below) else None) (find path_order (n ∷ q) (rows after))) not_it
      ∙ none_or_else (find path_order (n ∷ q) (rows after))

  elsewhere : (f : Keys R) (n : List ℕ) (q : List (List ℕ)) → (IsIn n (names f) → ⊥) → find path_order (n ∷ q) (rows f) ≡ None
  elsewhere none n q not_it = refl
  elsewhere (key at p below after) n q not_it = step_no p below after at n q (same_not n p.name (λ e. not_it (inl e))) ∙ elsewhere after n q (λ h. not_it (inr h))

  here_last : (p : KeyParts R) (below after : Keys R) (at : ℕ) (n : List ℕ) → same n p.name ≡ true → find path_order (n ∷ []) (rows (key at p below after)) ≡ Some p.row
  here_last p below after at n it_is = first_step p below after at n []
      ∙ ap (λ b. if (if b then true else false) then Some p.row else or_else (if b then find path_order [] (rows below) else None) (find path_order (n ∷ []) (rows after))) it_is

  here_on : (p : KeyParts R) (below after : Keys R) (at : ℕ) (n m : List ℕ) (q : List (List ℕ)) → same n p.name ≡ true → (IsIn p.name (names after) → ⊥) → find path_order (n ∷ m ∷ q) (rows (key at p below after)) ≡ find path_order (m ∷ q) (rows below)
  here_on p below after at n m q it_is apart = first_step p below after at n (m ∷ q)
      ∙ ap (λ b. if (if b then false else false) then Some p.row else or_else (if b then find path_order (m ∷ q) (rows below) else None) (find path_order (n ∷ m ∷ q) (rows after))) it_is
      ∙ ap (or_else (find path_order (m ∷ q) (rows below))) (elsewhere after n (m ∷ q) (λ h. apart (subst (λ z. IsIn z (names after)) (same_is n p.name it_is) h)))
      ∙ or_else_none (find path_order (m ∷ q) (rows below))

  pub found : (f : Keys R) → Named f → (path : List (List ℕ)) → find path_order path (rows f) ≡ row_in f path
  found none named path = refl
  found (key at p below after) named [] = root_nil (key at p below after)
  found (key at p below after) named (n ∷ []) = elim (decided (same n p.name)) [
    | inl it_is ↦ here_last p below after at n it_is ∙ sym (yes_if (same n p.name) (Some p.row) (row_in after (n ∷ [])) it_is)
    | inr not_it ↦ step_no p below after at n [] not_it ∙ found after named.3 (n ∷ []) ∙ sym (no_if (same n p.name) (Some p.row) (row_in after (n ∷ [])) not_it)
  ]
  found (key at p below after) named (n ∷ m ∷ q) = elim (decided (same n p.name)) [
    | inl it_is ↦ here_on p below after at n m q it_is named.1 ∙ found below named.2 (m ∷ q) ∙ sym (yes_if (same n p.name) (row_in below (m ∷ q)) (row_in after (n ∷ m ∷ q)) it_is)
    | inr not_it ↦ step_no p below after at n (m ∷ q) not_it ∙ found after named.3 (n ∷ m ∷ q) ∙ sym (no_if (same n p.name) (row_in below (m ∷ q)) (row_in after (n ∷ m ∷ q)) not_it)
  ]

  first_root : (row : R) (below : Keys R) → Named below → (path : List (List ℕ)) → find path_order path (([], row) ∷ rows below) ≡ row_from row below path
  first_root row below named [] = refl
  first_root row below named (n ∷ path) = found below named (n ∷ path)

  pub row_of_tree : (p : KeyParts R) (below : Keys R) → Named below → (path : List (List ℕ)) → get (tree_of p below) path ≡ row_from p.row below path
  row_of_tree p below named path = get-from_entries paths_total (([], p.row) ∷ rows below) path ∙ first_root p.row below named path
