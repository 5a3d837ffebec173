-- What a list of shared nodes says of the entries that it models, and what an edit of it does.
use Rattle.std.proofs.Common.{◌≡◌, ℕ, ◌+◌, min, slice_get, Bool, true, false, not, cond, T, List, [], ◌∷◌, length, map, sum_by, Option, Some, None, refl, sym, ◌∙◌, ap, subst, arith}
use Rattle.std.specs.Ordering.{eq_by_cmp, is_eq}
use Rattle.std.specs.Cmp.{tied_itself, alike_right, eq_by_cmp_equiv}
use Rattle.std.specs.FinMap.Entries.{find, is_sorted, put, where_key, by_order, find-put, find-where_key, is_sorted-put, is_sorted-where_key}
use Rattle.std.specs.declared.cmp.Ordering.TheVariants.{Less, Equal, Greater}
use Rattle.std.proofs.lemmas.Simd.{map-map}
use Rattle.std.proofs.lemmas.List.{length-map}
use Rattle.std.proofs.lemmas.List.Sums.{sum_by-append, sum_by-cons}
use Rattle.reg_tree_parts.specs.Orders.{name_order}
use Rattle.reg_tree_parts.specs.Rows.{Row, row_weight}
use Rattle.reg_tree_parts.specs.Nodes.{Entries, root_name, below, all_below, entries_of, entries_weight, row_at, row_in, names_below, spelled_root, IsNode, AreNodes}
use Rattle.persistent_map.specs.Writes.{merged, written}
use Rattle.reg_tree_parts.proofs.Keys.{names_total}
use Rattle.std.proofs.lemmas.Option.{slice_get-map}
use Rattle.std.specs.Option.{option_map}
use Rattle.reg_tree_parts.proofs.Finds.{find-all_below}
use Rattle.reg_tree_parts.proofs.NamesBelow.{names-root, names-all_below, names_in}

-- the weight of a subkey's entries is the same from its parent
weight-below : (n : List ℕ) (es : Entries) → entries_weight (below n es) ≡ entries_weight es
weight-below n [] = refl
weight-below n (e ∷ es) =
    sum_by-cons (λ e. row_weight e.1) (n ∷ e.0, e.1) (below n es) ∙ ap (λ w. row_weight e.1 + w) (weight-below n es) ∙ sym (sum_by-cons (λ e. row_weight e.1) e es)

-- the weight of all subkeys is the sum of theirs
pub weight-all_below : (subkeys : List (List ℕ × Entries)) → sum_by (λ e. entries_weight e.1) subkeys ≡ entries_weight (all_below subkeys)
weight-all_below [] = refl
weight-all_below (k ∷ ks) =
    sum_by-cons (λ e. entries_weight e.1) k ks
    ∙ ap (λ w. entries_weight k.1 + w) (weight-all_below ks)
    ∙ sym (sum_by-append (λ e. row_weight e.1) (below k.0 k.1) (all_below ks) ∙ ap (λ w. w + entries_weight (all_below ks)) (weight-below k.0 k.1))

-- the weight of a key and its subkeys, up to the greatest number of 64 bits
pub weighs_whole : (row : Row) (subkeys : List (List ℕ × Entries)) (own below_it whole : ℕ) → own ≡ min (row_weight row) 18446744073709551615 → below_it ≡ min (sum_by (λ e. entries_weight e.1) subkeys) 18446744073709551615
    → whole ≡ min (own + below_it) 18446744073709551615 → whole ≡ min (entries_weight (entries_of row subkeys)) 18446744073709551615
weighs_whole row subkeys own below_it whole o b w =
    omega (arith, weight-all_below subkeys, sum_by-cons (λ (e : List (List ℕ) × Row). row_weight e.1) ([], row) (all_below subkeys))

-- a key has as many subkeys as its list has nodes
pub length-names : (row : Row) (subkeys : List (List ℕ × Entries)) → AreNodes subkeys → length subkeys ≡ length (names_below [] (entries_of row subkeys))
length-names row subkeys nodes = sym (ap length (names-root row subkeys nodes) ∙ length-map subkeys (λ subkey. spelled_root subkey.1))

-- a node that is written among subkeys is put there, whatever had its name
pub put_written : (child : Entries) (subkeys made : List (List ℕ × Entries)) → made ≡ written root_name (λ old new. new) child subkeys → made ≡ put name_order (root_name child) child subkeys
put_written child subkeys made is = is ∙ ap (λ es. put name_order (root_name child) es subkeys) (newest (find name_order (root_name child) subkeys))
  where
    newest : (found : Option Entries) → merged (λ old new. new) found child ≡ child
    newest None = refl
    newest (Some old) = refl

-- nodes stay nodes as one is put in or some are taken out
nodes-put : (k : List ℕ) (es : Entries) (subkeys : List (List ℕ × Entries)) → IsNode es → AreNodes subkeys → AreNodes (put name_order k es subkeys)
nodes-put k es [] node nodes = (node, tt)
nodes-put k es (subkey ∷ subkeys) node nodes =
    elim (name_order k subkey.0) as (λ o. AreNodes (by_order o ((k, es) ∷ subkey ∷ subkeys) ((subkey.0, es) ∷ subkeys) (subkey ∷ put name_order k es subkeys))) [
      | Less ↦ (node, nodes)
      | Equal ↦ (node, nodes.1)
      | Greater ↦ (nodes.0, nodes-put k es subkeys node nodes.1)
    ]

nodes-where : (p : List ℕ → Bool) (subkeys : List (List ℕ × Entries)) → AreNodes subkeys → AreNodes (where_key name_order p subkeys)
nodes-where p [] nodes = tt
nodes-where p (subkey ∷ subkeys) nodes =
    elim (p subkey.0) as (λ b. AreNodes (cond b (subkey ∷ where_key name_order p subkeys) (where_key name_order p subkeys))) [ true ↦ (nodes.0, nodes-where p subkeys nodes.1) | false ↦ nodes-where p subkeys nodes.1 ]

-- the name of the subkey at an index is the name of the node there
pub names_at : (row : Row) (subkeys : List (List ℕ × Entries)) → AreNodes subkeys → (i : ℕ) → slice_get (names_below [] (entries_of row subkeys)) i ≡ option_map spelled_root (slice_get (map (λ e. e.1) subkeys) i)
names_at row subkeys nodes i =
    ap (λ ns. slice_get ns i) (names-root row subkeys nodes ∙ sym (map-map spelled_root (λ e. e.1) subkeys))
    ∙ slice_get-map spelled_root (map (λ e. e.1) subkeys) i

module _ (items : List (List ℕ × Entries)) (sorted : T (is_sorted name_order items)) where
  -- what is below a subkey, seen from the parent
  pub rows_of_found : (row : Row) (k : List ℕ) (child : Option Entries) → child ≡ find name_order k items → (path : List (List ℕ)) → row_at (entries_of row items) (k ∷ path) ≡ row_in child path
  rows_of_found row k child found path = find-all_below k path items sorted ∙ ap (λ o. row_in o path) (sym found)

  pub names_of_found : (row : Row) (k : List ℕ) (child : Option Entries) → child ≡ find name_order k items → (path : List (List ℕ)) → names_below (k ∷ path) (entries_of row items) ≡ names_in child path
  names_of_found row k child found path = names-all_below k path items sorted ∙ ap (λ o. names_in o path) (sym found)

  -- a list into which a node was put is of nodes in order
  pub nodes_put : (made : List (List ℕ × Entries)) (k : List ℕ) (es : Entries) → IsNode es → AreNodes items → made ≡ put name_order k es items → AreNodes made × T (is_sorted name_order made)
  nodes_put made k es node nodes is =
      (subst AreNodes (sym is) (nodes-put k es items node nodes), subst (λ subkeys. T (is_sorted name_order subkeys)) (sym is) (is_sorted-put name_order names_total k es items sorted))

  -- so is one from which some were taken
  pub nodes_where : (made : List (List ℕ × Entries)) (p : List ℕ → Bool) → AreNodes items → made ≡ where_key name_order p items → AreNodes made × T (is_sorted name_order made)
  nodes_where made p nodes is =
      (subst AreNodes (sym is) (nodes-where p items nodes), subst (λ subkeys. T (is_sorted name_order subkeys)) (sym is) (is_sorted-where_key name_order p items sorted))

  rises_put : (subkeys : List (List ℕ × Entries)) (k : List ℕ) (es : Entries) → subkeys ≡ put name_order k es items → T (is_sorted name_order subkeys)
  rises_put subkeys k es is = subst (λ subkeys. T (is_sorted name_order subkeys)) (sym is) (is_sorted-put name_order names_total k es items sorted)

  rises_where : (subkeys : List (List ℕ × Entries)) (p : List ℕ → Bool) → subkeys ≡ where_key name_order p items → T (is_sorted name_order subkeys)
  rises_where subkeys p is = subst (λ subkeys. T (is_sorted name_order subkeys)) (sym is) (is_sorted-where_key name_order p items sorted)

  -- what is below a key after a node was put among its subkeys
  pub rows_put : (row other : Row) (subkeys : List (List ℕ × Entries)) (k : List ℕ) (es : Entries) → subkeys ≡ put name_order k es items → (name : List ℕ) (rest : List (List ℕ))
      → row_at (entries_of row subkeys) (name ∷ rest) ≡ cond (eq_by_cmp name_order name k) (row_at es rest) (row_at (entries_of other items) (name ∷ rest))
  rows_put row other subkeys k es is name rest =
      find-all_below name rest subkeys (rises_put subkeys k es is)
      ∙ ap (λ xs. row_in (find name_order name xs) rest) is
      ∙ ap (λ o. row_in o rest) (find-put name_order names_total name k es items)
      ∙ chosen (eq_by_cmp name_order name k) (find name_order name items) refl
    where
      chosen : (b : Bool) (o : Option Entries) → o ≡ find name_order name items → row_in (cond b (Some es) o) rest ≡ cond b (row_at es rest) (row_at (entries_of other items) (name ∷ rest))
      chosen true o e = refl
      chosen false o e = ap (λ x. row_in x rest) e ∙ sym (find-all_below name rest items sorted)

  pub rows_put_same : (row : Row) (subkeys : List (List ℕ × Entries)) (k : List ℕ) (es : Entries) → subkeys ≡ put name_order k es items → (rest : List (List ℕ)) → row_at (entries_of row subkeys) (k ∷ rest) ≡ row_at es rest
  rows_put_same row subkeys k es is rest = rows_put row row subkeys k es is k rest ∙ ap (λ o. cond (is_eq o) (row_at es rest) (row_at (entries_of row items) (k ∷ rest))) (tied_itself names_total k)

  pub rows_put_other : (row other : Row) (subkeys : List (List ℕ × Entries)) (k : List ℕ) (es : Entries) → subkeys ≡ put name_order k es items → (name : List ℕ) (rest : List (List ℕ)) → eq_by_cmp name_order name k ≡ false
      → row_at (entries_of row subkeys) (name ∷ rest) ≡ row_at (entries_of other items) (name ∷ rest)
  rows_put_other row other subkeys k es is name rest apart = rows_put row other subkeys k es is name rest ∙ ap (λ b. cond b (row_at es rest) (row_at (entries_of other items) (name ∷ rest))) apart

  -- what is found among the subkeys after those with one name were taken out
  found_where : (subkeys : List (List ℕ × Entries)) (k name : List ℕ) → subkeys ≡ where_key name_order (λ x. not (eq_by_cmp name_order k x)) items
      → find name_order name subkeys ≡ cond (not (eq_by_cmp name_order k name)) (find name_order name items) None
  found_where subkeys k name is =
      ap (find name_order name) is
      ∙ find-where_key name_order (λ x. not (eq_by_cmp name_order k x)) name (λ x tied. ap (λ o. not (is_eq o)) (sym (alike_right names_total name x k tied))) items

  pub rows_where_gone : (row : Row) (subkeys : List (List ℕ × Entries)) (k : List ℕ) → subkeys ≡ where_key name_order (λ x. not (eq_by_cmp name_order k x)) items → (rest : List (List ℕ)) → row_at (entries_of row subkeys) (k ∷ rest) ≡ None
  rows_where_gone row subkeys k is rest =
      find-all_below k rest subkeys (rises_where subkeys _ is)
      ∙ ap (λ o. row_in o rest) (found_where subkeys k k is ∙ ap (λ o. cond (not (is_eq o)) (find name_order k items) None) (tied_itself names_total k))

  pub rows_where_other : (row other : Row) (subkeys : List (List ℕ × Entries)) (k : List ℕ) → subkeys ≡ where_key name_order (λ x. not (eq_by_cmp name_order k x)) items → (name : List ℕ) (rest : List (List ℕ)) → eq_by_cmp name_order name k ≡ false
      → row_at (entries_of row subkeys) (name ∷ rest) ≡ row_at (entries_of other items) (name ∷ rest)
  rows_where_other row other subkeys k is name rest apart =
      find-all_below name rest subkeys (rises_where subkeys _ is)
      ∙ ap (λ o. row_in o rest) (found_where subkeys k name is ∙ ap (λ b. cond (not b) (find name_order name items) None) ((eq_by_cmp_equiv names_total).symm k name ∙ apart))
      ∙ sym (find-all_below name rest items sorted)
