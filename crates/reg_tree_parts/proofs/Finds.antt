-- What is at a path among the entries of a key and its subkeys.
use Rattle.std.proofs.Common.{◌≡◌, ℕ, true, false, cond, T, List, [], ◌∷◌, ◌++◌, Option, Some, None, refl, ◌∙◌, ap}
use Rattle.std.specs.declared.cmp.Ordering.{Ordering}
use Rattle.std.specs.declared.cmp.Ordering.TheVariants.{Less, Equal, Greater}
use Rattle.std.specs.Ordering.{is_lt, is_eq, ordering_then, eq_by_cmp}
use Rattle.std.specs.FinMap.Entries.{find, is_sorted, below_all}
use Rattle.reg_tree_parts.specs.Orders.{name_order, path_order}
use Rattle.reg_tree_parts.specs.Rows.{Row}
use Rattle.reg_tree_parts.specs.Nodes.{Entries, below, all_below, row_at, row_in}
use Rattle.reg_tree_parts.proofs.Keys.{names_total}
use Rattle.reg_tree_parts.proofs.SortedLists.{front_of, back_of, less_of}

-- the first of two that is there
abbrev or_else : {A : Type 0} → Option A → Option A → Option A
or_else None b = b
or_else (Some a) b = Some a

-- a search of two lists joined
find-append : {K X : Type 0} (R : K → K → Ordering) (q : K) (xs ys : List (K × X)) → find R q (xs ++ ys) ≡ or_else (find R q xs) (find R q ys)
find-append R q [] ys = refl
find-append R q (x ∷ xs) ys =
    elim (eq_by_cmp R q x.0) as (λ b. cond b (Some x.1) (find R q (xs ++ ys)) ≡ or_else (cond b (Some x.1) (find R q xs)) (find R q ys)) [ true ↦ refl | false ↦ find-append R q xs ys ]

is_eq_then : (o p : Ordering) → is_eq o ≡ false → is_eq (ordering_then o p) ≡ false
is_eq_then Less p e = refl
is_eq_then Equal p e = cc
is_eq_then Greater p e = refl

pub equal_of : (o : Ordering) → is_eq o ≡ true → o ≡ Equal
equal_of Less e = cc
equal_of Equal e = refl
equal_of Greater e = cc

-- below a name that ties with n, what is at a path that begins with n is what is at its rest
find-below_tied : (n a : List ℕ) (q : List (List ℕ)) (es : Entries) → name_order n a ≡ Equal → find path_order (n ∷ q) (below a es) ≡ find path_order q es
find-below_tied n a q [] tied = refl
find-below_tied n a q (e ∷ es) tied =
    ap (λ o. cond (is_eq (ordering_then o (path_order q e.0))) (Some e.1) (find path_order (n ∷ q) (below a es))) tied
    ∙ ap (cond (eq_by_cmp path_order q e.0) (Some e.1)) (find-below_tied n a q es tied)

-- below another name, nothing is at a path that begins with n
find-below_apart : (n a : List ℕ) (q : List (List ℕ)) (es : Entries) → eq_by_cmp name_order n a ≡ false → find path_order (n ∷ q) (below a es) ≡ None
find-below_apart n a q [] apart = refl
find-below_apart n a q (e ∷ es) apart =
    ap (λ b. cond b (Some e.1) (find path_order (n ∷ q) (below a es))) (is_eq_then (name_order n a) (path_order q e.0) apart)
    ∙ find-below_apart n a q es apart

-- a name that ties with one below all is not among them
pub find_below_all : (n a : List ℕ) (subkeys : List (List ℕ × Entries)) → name_order n a ≡ Equal → T (below_all name_order a subkeys) → find name_order n subkeys ≡ None
find_below_all n a [] tied h = refl
find_below_all n a (subkey ∷ subkeys) tied h =
    let less : name_order n subkey.0 ≡ Less = names_total.congr n a subkey.0 tied ∙ less_of (name_order a subkey.0) (front_of (is_lt (name_order a subkey.0)) (below_all name_order a subkeys) h) in
    ap (λ o. cond (is_eq o) (Some subkey.1) (find name_order n subkeys)) less ∙ find_below_all n a subkeys tied (back_of (is_lt (name_order a subkey.0)) (below_all name_order a subkeys) h)

-- what is at a path below the subkeys is what is at its rest in the subkey of its first name
pub find-all_below : (n : List ℕ) (q : List (List ℕ)) (subkeys : List (List ℕ × Entries)) → T (is_sorted name_order subkeys) → row_at (all_below subkeys) (n ∷ q) ≡ row_in (find name_order n subkeys) q
find-all_below n q [] h = refl
find-all_below n q (subkey ∷ subkeys) h =
    find-append path_order (n ∷ q) (below subkey.0 subkey.1) (all_below subkeys)
    ∙ ap (or_else (find path_order (n ∷ q) (below subkey.0 subkey.1))) (find-all_below n q subkeys (back_of _ _ h))
    ∙ elim (eq_by_cmp name_order n subkey.0) as (λ b. eq_by_cmp name_order n subkey.0 ≡ b → or_else (find path_order (n ∷ q) (below subkey.0 subkey.1)) (row_in (find name_order n subkeys) q) ≡ row_in (cond b (Some subkey.1) (find name_order n subkeys)) q) [
      | true ↦ λ e.
          let tied : name_order n subkey.0 ≡ Equal = equal_of _ e in
          ap (λ o. or_else (find path_order (n ∷ q) (below subkey.0 subkey.1)) (row_in o q)) (find_below_all n subkey.0 subkeys tied (front_of _ _ h))
          ∙ or_else_none _ ∙ find-below_tied n subkey.0 q subkey.1 tied
      | false ↦ λ e. ap (λ o. or_else o (row_in (find name_order n subkeys) q)) (find-below_apart n subkey.0 q subkey.1 e)
    ] refl
  where
    or_else_none : (o : Option Row) → or_else o None ≡ o
    or_else_none None = refl
    or_else_none (Some r) = refl
