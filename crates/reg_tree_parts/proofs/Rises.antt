-- The entries of a key and its subkeys are in the order of their paths.
use Rattle.std.proofs.Common.{◌≡◌, ℕ, Bool, true, false, ◌&&◌, T, List, [], ◌∷◌, ◌++◌, sym, ap, subst}
use Rattle.std.specs.declared.cmp.Ordering.{Ordering}
use Rattle.std.specs.declared.cmp.Ordering.TheVariants.{Less}
use Rattle.std.specs.Ordering.{is_lt, ordering_then}
use Rattle.std.specs.Cmp.{tied_itself}
use Rattle.std.specs.FinMap.Entries.{is_sorted, below_all}
use Rattle.reg_tree_parts.specs.Orders.{name_order, path_order}
use Rattle.reg_tree_parts.specs.Rows.{Row}
use Rattle.reg_tree_parts.specs.Nodes.{Entries, below, all_below, entries_of, AreNodes}
use Rattle.reg_tree_parts.proofs.Keys.{names_total}
use Rattle.reg_tree_parts.proofs.SortedLists.{front_of, back_of, less_of}

both_of : (a b : Bool) → T a → T b → T (a && b)
both_of true b p q = q
both_of false b p q = p

below_all-append : (p : List (List ℕ)) (xs ys : Entries) → T (below_all path_order p xs) → T (below_all path_order p ys) → T (below_all path_order p (xs ++ ys))
below_all-append p [] ys hx hy = hy
below_all-append p (x ∷ xs) ys hx hy =
    both_of (is_lt (path_order p x.0)) (below_all path_order p (xs ++ ys)) (front_of (is_lt (path_order p x.0)) (below_all path_order p xs) hx)
    (below_all-append p xs ys (back_of (is_lt (path_order p x.0)) (below_all path_order p xs) hx) hy)

-- the root is below all paths that begin with a name
root_below : (n : List ℕ) (es : Entries) → T (below_all path_order [] (below n es))
root_below n [] = tt
root_below n (e ∷ es) = root_below n es

root_below_all : (subkeys : List (List ℕ × Entries)) → T (below_all path_order [] (all_below subkeys))
root_below_all [] = tt
root_below_all (subkey ∷ subkeys) = below_all-append [] (below subkey.0 subkey.1) (all_below subkeys) (root_below subkey.0 subkey.1) (root_below_all subkeys)

-- under one name, paths compare as their rests do
same_first : (n : List ℕ) (o : Ordering) → ordering_then (name_order n n) o ≡ o
same_first n o = ap (λ r. ordering_then r o) (tied_itself names_total n)

below_same : (n : List ℕ) (p : List (List ℕ)) (es : Entries) → T (below_all path_order p es) → T (below_all path_order (n ∷ p) (below n es))
below_same n p [] h = tt
below_same n p (e ∷ es) h =
    both_of (is_lt (ordering_then (name_order n n) (path_order p e.0))) (below_all path_order (n ∷ p) (below n es))
    (subst (λ o. T (is_lt o)) (sym (same_first n (path_order p e.0))) (front_of (is_lt (path_order p e.0)) (below_all path_order p es) h))
    (below_same n p es (back_of (is_lt (path_order p e.0)) (below_all path_order p es) h))

sorted_same : (n : List ℕ) (es : Entries) → T (is_sorted path_order es) → T (is_sorted path_order (below n es))
sorted_same n [] h = tt
sorted_same n (e ∷ es) h =
    both_of (below_all path_order (n ∷ e.0) (below n es)) (is_sorted path_order (below n es))
    (below_same n e.0 es (front_of (below_all path_order e.0 es) (is_sorted path_order es) h))
    (sorted_same n es (back_of (below_all path_order e.0 es) (is_sorted path_order es) h))

-- a path under a lesser name is below all paths under a greater one
below_other : (n m : List ℕ) (p : List (List ℕ)) (es : Entries) → name_order n m ≡ Less → T (below_all path_order (n ∷ p) (below m es))
below_other n m p [] less = tt
below_other n m p (e ∷ es) less =
    both_of (is_lt (ordering_then (name_order n m) (path_order p e.0))) (below_all path_order (n ∷ p) (below m es))
    (subst (λ o. T (is_lt (ordering_then o (path_order p e.0)))) (sym less) tt) (below_other n m p es less)

below_others : (n : List ℕ) (p : List (List ℕ)) (subkeys : List (List ℕ × Entries)) → T (below_all name_order n subkeys) → T (below_all path_order (n ∷ p) (all_below subkeys))
below_others n p [] h = tt
below_others n p (subkey ∷ subkeys) h =
    below_all-append (n ∷ p) (below subkey.0 subkey.1) (all_below subkeys)
    (below_other n subkey.0 p subkey.1 (less_of (name_order n subkey.0) (front_of (is_lt (name_order n subkey.0)) (below_all name_order n subkeys) h)))
    (below_others n p subkeys (back_of (is_lt (name_order n subkey.0)) (below_all name_order n subkeys) h))

-- the entries of one subkey, and the entries of the subkeys after it
sorted_joined : (n : List ℕ) (es : Entries) (subkeys : List (List ℕ × Entries)) → T (is_sorted path_order (below n es)) → T (below_all name_order n subkeys) → T (is_sorted path_order (all_below subkeys)) → T (is_sorted path_order (below n es ++ all_below subkeys))
sorted_joined n [] subkeys h less rest = rest
sorted_joined n (e ∷ es) subkeys h less rest =
    both_of (below_all path_order (n ∷ e.0) (below n es ++ all_below subkeys)) (is_sorted path_order (below n es ++ all_below subkeys))
    (below_all-append (n ∷ e.0) (below n es) (all_below subkeys) (front_of (below_all path_order (n ∷ e.0) (below n es)) (is_sorted path_order (below n es)) h) (below_others n e.0 subkeys less))
    (sorted_joined n es subkeys (back_of (below_all path_order (n ∷ e.0) (below n es)) (is_sorted path_order (below n es)) h) less rest)

sorted_all : (subkeys : List (List ℕ × Entries)) → AreNodes subkeys → T (is_sorted name_order subkeys) → T (is_sorted path_order (all_below subkeys))
sorted_all [] nodes h = tt
sorted_all (subkey ∷ subkeys) nodes h =
    sorted_joined subkey.0 subkey.1 subkeys (sorted_same subkey.0 subkey.1 nodes.0.rises) (front_of (below_all name_order subkey.0 subkeys) (is_sorted name_order subkeys) h)
    (sorted_all subkeys nodes.1 (back_of (below_all name_order subkey.0 subkeys) (is_sorted name_order subkeys) h))

-- a key and its subkeys in order
pub entries_rise : (row : Row) (subkeys : List (List ℕ × Entries)) → AreNodes subkeys → T (is_sorted name_order subkeys) → T (is_sorted path_order (entries_of row subkeys))
entries_rise row subkeys nodes h = both_of (below_all path_order [] (all_below subkeys)) (is_sorted path_order (all_below subkeys)) (root_below_all subkeys) (sorted_all subkeys nodes h)
