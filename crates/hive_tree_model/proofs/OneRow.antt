-- If the keys below the changed one stay, one row changes.
use Rattle.std.proofs.Common.{◌≡◌, ◌≢◌, inl, inr, ℕ, List, [], ◌∷◌, ◌++◌, refl, ◌∙◌, ap, sym, Some, None, Option, append-nil}
use Rattle.std.specs.FinMap.{get}
use Rattle.hive_tree_model.specs.Keys.{KeyParts, KeyReader, Keys, none, key}
use Rattle.hive_tree_model.specs.Trees.{same, tree_of, row_in}
use Rattle.hive_tree_model.specs.Encodings.{Whole}
use Rattle.hive_tree_model.specs.Cells.{IsLocal}
use Rattle.hive_tree_model.specs.Changes.{with_key, rest_of, row_or, below_in, Edits}
use Rattle.hive_tree_model.proofs.Basics.{decided, yes_if, no_if, same_is, same_itself, some_same, some_none}
use Rattle.hive_tree_model.proofs.Rows.{row_of_tree}
use Rattle.hive_tree_model.proofs.Edited.{tree_after}

rest_itself : (path : List (List ℕ)) → rest_of path path ≡ Some []
rest_itself [] = refl
rest_itself (n ∷ path) = yes_if (same n n) (rest_of path path) None (same_itself n) ∙ rest_itself path

rest_is : (path q rest : List (List ℕ)) → rest_of path q ≡ Some rest → q ≡ path ++ rest
rest_is [] q rest e = some_same q rest e
rest_is (n ∷ path) [] rest e = some_none rest e
rest_is (n ∷ path) (m ∷ q) rest e = elim (decided (same m n)) [
  | inl t ↦ ap (λ (z : List ℕ). z ∷ q) (same_is m n t) ∙ ap (λ (z : List (List ℕ)). n ∷ z) (rest_is path q rest (sym (yes_if (same m n) (rest_of path q) None t) ∙ e))
  | inr f ↦ some_none rest (sym (no_if (same m n) (rest_of path q) None f) ∙ e)
]

module _ {R : Type 0} where
  row_past : (f : Keys R) (n : List ℕ) (path : List (List ℕ)) (sub : Keys R) (m : List ℕ) (rest : List (List ℕ)) → below_in f (n ∷ path) ≡ Some sub → row_in f (n ∷ (path ++ m ∷ rest)) ≡ row_in sub (m ∷ rest)
  row_past none n path sub m rest e = some_none sub e
  row_past (key at p below after) n [] sub m rest e = elim (decided (same n p.name)) [
    | inl t ↦ yes_if (same n p.name) (row_in below (m ∷ rest)) (row_in after (n ∷ m ∷ rest)) t ∙ ap (λ (z : Keys R). row_in z (m ∷ rest)) (some_same below sub (sym (yes_if (same n p.name) (Some below) (below_in after (n ∷ [])) t) ∙ e))
    | inr f ↦ no_if (same n p.name) (row_in below (m ∷ rest)) (row_in after (n ∷ m ∷ rest)) f ∙ row_past after n [] sub m rest (sym (no_if (same n p.name) (Some below) (below_in after (n ∷ [])) f) ∙ e)
  ]
  row_past (key at p below after) n (a ∷ path) sub m rest e = elim (decided (same n p.name)) [
    | inl t ↦ yes_if (same n p.name) (row_in below (a ∷ (path ++ m ∷ rest))) (row_in after (n ∷ a ∷ (path ++ m ∷ rest))) t ∙ row_past below a path sub m rest (sym (yes_if (same n p.name) (below_in below (a ∷ path)) (below_in after (n ∷ a ∷ path)) t) ∙ e)
    | inr f ↦ no_if (same n p.name) (row_in below (a ∷ (path ++ m ∷ rest))) (row_in after (n ∷ a ∷ (path ++ m ∷ rest))) f ∙ row_past after n (a ∷ path) sub m rest (sym (no_if (same n p.name) (below_in below (a ∷ path)) (below_in after (n ∷ a ∷ path)) f) ∙ e)
  ]

module _ {D R C : Type 0} (read : (ℕ → Option D) → KeyReader R C) (local : IsLocal read) (old new : ℕ → Option D) (parts : KeyParts R) (below : Keys R) (root : ℕ) (above : KeyParts R) (subkey_list : Keys R) (n : List ℕ) (path : List (List ℕ)) (w : Whole (read old) root above subkey_list) (e : Edits read old new above subkey_list n path parts below) (same_below : below_in subkey_list (n ∷ path) ≡ Some below) where
  after : (q : List (List ℕ)) → get (tree_of above (with_key subkey_list (n ∷ path) parts below)) q ≡ row_or (rest_of (n ∷ path) q) parts.row below (get (tree_of above subkey_list) q)
  after q = tree_after read local old new parts below root above subkey_list n path w e q

  pub own_row : get (tree_of above (with_key subkey_list (n ∷ path) parts below)) (n ∷ path) ≡ Some parts.row
  own_row = after (n ∷ path) ∙ ap (λ r. row_or r parts.row below (get (tree_of above subkey_list) (n ∷ path))) (rest_itself (n ∷ path))

  pub other_rows : (q : List (List ℕ)) → q ≢ n ∷ path → get (tree_of above (with_key subkey_list (n ∷ path) parts below)) q ≡ get (tree_of above subkey_list) q
  other_rows q apart = after q ∙ go (rest_of (n ∷ path) q) refl
    where
      old_row : (m : List ℕ) (rest : List (List ℕ)) → q ≡ n ∷ (path ++ m ∷ rest) → get (tree_of above subkey_list) q ≡ row_in below (m ∷ rest)
      old_row m rest is = ap (get (tree_of above subkey_list)) is ∙ row_of_tree above subkey_list w.named (n ∷ (path ++ m ∷ rest)) ∙ row_past subkey_list n path below m rest same_below

      go : (r : Option (List (List ℕ))) → rest_of (n ∷ path) q ≡ r → row_or r parts.row below (get (tree_of above subkey_list) q) ≡ get (tree_of above subkey_list) q
      go None h = refl
      go (Some []) h = absurd (apart (rest_is (n ∷ path) q [] h ∙ append-nil (n ∷ path)))
      go (Some (m ∷ rest)) h = sym (old_row m rest (rest_is (n ∷ path) q (m ∷ rest) h))
