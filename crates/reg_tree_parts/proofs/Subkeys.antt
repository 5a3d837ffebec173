-- The subkeys of a key, found again among its entries.
use Rattle.std.proofs.Common.{◌≡◌, ℕ, ◌+◌, ◌<◌, zero, suc, Bool, true, false, cond, T, List, [], ◌∷◌, ◌++◌, length, map, slice_get, Option, Some, None, Bor, IfSome, refl, sym, ◌∙◌, ap, subst, arith, length-append}
use Rattle.std.specs.List.{AllByRecursion}
use Rattle.std.specs.Option.{option_copied}
use Rattle.std.specs.Ordering.{eq_by_cmp, is_lt}
use Rattle.std.specs.Cmp.{tied_itself}
use Rattle.std.specs.FinMap.Entries.{is_sorted, below_all}
use Rattle.std.specs.declared.cmp.Ordering.TheVariants.{Less, Equal, Greater}
use Rattle.persistent_map.specs.declared.map.Repr.{Repr}
use Rattle.persistent_map.specs.Listings.{repr_entries}
use Rattle.persistent_map.specs.Keyed.{AreKeyed, entries_keyed}
use Rattle.reg_tree_parts.specs.Orders.{name_order}
use Rattle.reg_tree_parts.specs.Rows.{Row}
use Rattle.reg_tree_parts.specs.Nodes.{Entries, below, all_below, entries_of, root_name, with_entry, subkeys_of, HasSubkeys, IsNode, AreNodes}
use Rattle.reg_tree_parts.proofs.Keys.{names_total}
use Rattle.reg_tree_parts.proofs.SortedLists.{front_of, back_of, less_of}

-- no name of these subkeys is this one, as far as the first of them goes
abbrev FirstApart : List ℕ → List (List ℕ × Entries) → Type 0
FirstApart n [] = Unit {0}
FirstApart n (k ∷ ks) = eq_by_cmp name_order n k.0 ≡ false

with_first : (n : List ℕ) (e : List (List ℕ) × Row) (ks : List (List ℕ × Entries)) → FirstApart n ks → with_entry n e ks ≡ (n, e ∷ []) ∷ ks
with_first n e [] h = refl
with_first n e (k ∷ ks) h = ap (λ b. cond b ((k.0, e ∷ k.1) ∷ ks) ((n, e ∷ []) ∷ k ∷ ks)) h

tied : (n : List ℕ) → eq_by_cmp name_order n n ≡ true
tied n = ap (λ o. elim o as (λ z. Bool) [ Less ↦ false | Equal ↦ true | Greater ↦ false ]) (tied_itself names_total n)

with_same : (n : List ℕ) (e : List (List ℕ) × Row) (es : Entries) (ks : List (List ℕ × Entries)) → with_entry n e ((n, es) ∷ ks) ≡ (n, e ∷ es) ∷ ks
with_same n e es ks = ap (λ b. cond b ((n, e ∷ es) ∷ ks) ((n, e ∷ []) ∷ (n, es) ∷ ks)) (tied n)

one_group : (n : List ℕ) (e : List (List ℕ) × Row) (es rest : Entries) → FirstApart n (subkeys_of rest) → subkeys_of (below n (e ∷ es) ++ rest) ≡ (n, e ∷ es) ∷ subkeys_of rest
one_group n e [] rest h = with_first n e (subkeys_of rest) h
one_group n e (f ∷ es) rest h = ap (with_entry n e) (one_group n f es rest h) ∙ with_same n e (f ∷ es) (subkeys_of rest)

node_group : (n : List ℕ) (es rest : Entries) → IsNode es → FirstApart n (subkeys_of rest) → subkeys_of (below n es ++ rest) ≡ (n, es) ∷ subkeys_of rest
node_group n es rest node h = subst (λ xs. subkeys_of (below n xs ++ rest) ≡ (n, xs) ∷ subkeys_of rest) (sym node.whole) (one_group n ([], node.row) node.others rest h)

first_apart : (n : List ℕ) (ks : List (List ℕ × Entries)) → T (below_all name_order n ks) → FirstApart n ks
first_apart n [] h = tt
first_apart n (k ∷ ks) h = ap (λ o. elim o as (λ z. Bool) [ Less ↦ false | Equal ↦ true | Greater ↦ false ]) (less_of (name_order n k.0) (front_of (is_lt (name_order n k.0)) (below_all name_order n ks) h))

all_groups : (ks : List (List ℕ × Entries)) → AreNodes ks → T (is_sorted name_order ks) → subkeys_of (all_below ks) ≡ ks
all_groups [] nodes h = refl
all_groups (k ∷ ks) nodes h =
    let rest : subkeys_of (all_below ks) ≡ ks = all_groups ks nodes.1 (back_of (below_all name_order k.0 ks) (is_sorted name_order ks) h) in
    node_group k.0 k.1 (all_below ks) nodes.0 (subst (FirstApart k.0) (sym rest) (first_apart k.0 ks (front_of (below_all name_order k.0 ks) (is_sorted name_order ks) h)))
    ∙ ap (λ xs. (k.0, k.1) ∷ xs) rest

-- the subkeys of a key with these subkeys are these
pub subkeys_again : (row : Row) (ks : List (List ℕ × Entries)) → AreNodes ks → T (is_sorted name_order ks) → subkeys_of (entries_of row ks) ≡ ks
subkeys_again row ks nodes h = all_groups ks nodes h

-- a subkey has fewer entries than its parent
below_length : (n : List ℕ) (es : Entries) → length (below n es) ≡ length es
below_length n [] = refl
below_length n (e ∷ es) = ap suc (below_length n es)

some_same : {A : Type 0} (x y : A) → Some x ≡ Some y → x ≡ y
some_same x y e = cc

pub subkey_smaller : (ks : List (List ℕ × Entries)) (i : ℕ) (es : Entries) → Some es ≡ slice_get (map (λ k. k.1) ks) i → length es < length (all_below ks) + 1
subkey_smaller [] i es e = cc
subkey_smaller (k ∷ ks) zero es e = omega (arith, length-append (below k.0 k.1) (all_below ks), below_length k.0 k.1, ap length (some_same es k.1 e))
subkey_smaller (k ∷ ks) (suc i) es e = omega (arith, length-append (below k.0 k.1) (all_below ks), subkey_smaller ks i es e)

pub smaller_if : (row : Row) (ks : List (List ℕ × Entries)) (i : ℕ) (found : Option (Bor Entries)) → option_copied found ≡ slice_get (map (λ k. k.1) ks) i → IfSome found (λ k. length k.now < length (entries_of row ks))
smaller_if row ks i None e = tt
smaller_if row ks i (Some k) e = omega (arith, subkey_smaller ks i k.now e)

-- what a map lists is under its own name
keyed_named : {A : Type 0} (key : A → List ℕ) (es : List (List ℕ × A)) → AreKeyed key es → AllByRecursion (λ (e : List ℕ × A). key e.1 ≡ e.0) es
keyed_named key [] keyed = tt
keyed_named key (e ∷ es) keyed = (sym keyed.0, keyed_named key es keyed.1)

-- all of it, of a node's own list of subkeys
pub has_subkeys : (row : Row) (repr : Repr Entries) (ks : List (List ℕ × Entries)) → ks ≡ repr_entries root_name repr → AreNodes ks → T (is_sorted name_order ks) → HasSubkeys (entries_of row ks) (subkeys_of (entries_of row ks))
has_subkeys row repr ks is nodes h = subst (HasSubkeys (entries_of row ks)) (sym (subkeys_again row ks nodes h)) (record {
  whole = λ other e. ap (λ r. entries_of r ks) (some_same row other e);
  nodes = nodes;
  rises = h;
  named = subst (AllByRecursion (λ (e : List ℕ × Entries). root_name e.1 ≡ e.0)) (sym is) (keyed_named root_name (repr_entries root_name repr) (entries_keyed root_name (record { repr = repr })));
})
