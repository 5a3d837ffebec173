-- Among the entries of a key and its subkeys each key's parent is there, and a key is under the fold of its name.
use Rattle.std.proofs.Common.{◌≡◌, ℕ, Bool, true, false, cond, T, List, [], ◌∷◌, ◌++◌, Option, Some, None, IsSome, refl, sym, ◌∙◌, ap, subst}
use Rattle.std.specs.Ordering.{eq_by_cmp}
use Rattle.std.specs.FinMap.Entries.{find, is_sorted}
use mathlib.Core.Bool.{false≢true}
use Rattle.reg_names.specs.Names.{folded}
use Rattle.persistent_map.specs.Keyed.{AreKeyed}
use Rattle.reg_tree_parts.specs.Orders.{name_order}
use Rattle.reg_tree_parts.specs.Rows.{Row}
use Rattle.reg_tree_parts.specs.Nodes.{Entries, root_name, entries_of, row_at, row_in, IsNode, AreNodes}
use Rattle.reg_tree_parts.proofs.Keys.{names_apart}
use Rattle.reg_tree_parts.proofs.Finds.{equal_of, find-all_below}
use Rattle.reg_tree_parts.proofs.Rises.{entries_rise}

-- the first row of a node has its name
root_named : (es : Entries) → IsNode es → (key : Row) → row_at es [] ≡ Some key → folded key.name ≡ root_name es
root_named es node key at =
    let here : Some node.row ≡ Some key = sym (ap (λ x. row_at x []) node.whole) ∙ at in
    let same : node.row ≡ key = cc in
    sym (ap (λ r. folded r.name) same) ∙ sym (ap root_name node.whole)

-- a subkey that is found under a name is a node of that name
found_node : (items : List (List ℕ × Entries)) (n : List ℕ) (es : Entries) → AreKeyed root_name items → AreNodes items → find name_order n items ≡ Some es → IsNode es × (root_name es ≡ n)
found_node [] n es keyed nodes e = cc
found_node (k ∷ ks) n es keyed nodes e = by_case (found_node ks n es keyed.1 nodes.1) (eq_by_cmp name_order n k.0) refl e
  where
    by_case : (find name_order n ks ≡ Some es → IsNode es × (root_name es ≡ n)) → (b : Bool) → eq_by_cmp name_order n k.0 ≡ b → cond b (Some k.1) (find name_order n ks) ≡ Some es → IsNode es × (root_name es ≡ n)
    by_case later true t e =
        let is : k.1 ≡ es = cc in
        (subst IsNode is nodes.0, sym (names_apart n k.0 (equal_of _ t) ∙ keyed.0 ∙ ap root_name is))
    by_case later false t e = later e

module _ (row : Row) (items : List (List ℕ × Entries)) (keyed : AreKeyed root_name items) (nodes : AreNodes items) (sorted : T (is_sorted name_order items)) where
  -- what is below the key is below one of its subkeys
  found_below : (n : List ℕ) (q : List (List ℕ)) → row_at (entries_of row items) (n ∷ q) ≡ row_in (find name_order n items) q
  found_below n q = find-all_below n q items sorted

  parents : (path : List (List ℕ)) (name : List ℕ) → IsSome (row_at (entries_of row items) (path ++ name ∷ [])) → IsSome (row_at (entries_of row items) path)
  parents [] name there = refl
  parents (m ∷ path) name there = subst IsSome (sym (found_below m path)) (by_case (find name_order m items) refl (subst IsSome (found_below m (path ++ name ∷ [])) there))
    where
      by_case : (o : Option Entries) → find name_order m items ≡ o → IsSome (row_in o (path ++ name ∷ [])) → IsSome (row_in o path)
      by_case None e there = absurd (false≢true there)
      by_case (Some es) e there = (found_node items m es keyed nodes e).0.parents path name there

  named : (path : List (List ℕ)) (name : List ℕ) (key : Row) → row_at (entries_of row items) (path ++ name ∷ []) ≡ Some key → folded key.name ≡ name
  named [] name key at = by_case (find name_order name items) refl (sym (found_below name []) ∙ at)
    where
      by_case : (o : Option Entries) → find name_order name items ≡ o → row_in o [] ≡ Some key → folded key.name ≡ name
      by_case None e at = cc
      by_case (Some es) e at = let found = found_node items name es keyed nodes e in root_named es found.0 key at ∙ found.1
  named (m ∷ path) name key at = by_case (find name_order m items) refl (sym (found_below m (path ++ name ∷ [])) ∙ at)
    where
      by_case : (o : Option Entries) → find name_order m items ≡ o → row_in o (path ++ name ∷ []) ≡ Some key → folded key.name ≡ name
      by_case None e at = cc
      by_case (Some es) e at = (found_node items m es keyed nodes e).0.named path name key at

  -- a key with subkeys in order is a node
  pub is_node : IsNode (entries_of row items)
  is_node = record { row = row; others = _; whole = refl; rises = entries_rise row items nodes sorted; parents = parents; named = named }
