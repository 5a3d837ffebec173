-- The names one level below a path, among the entries of a key and its subkeys.
use Rattle.std.proofs.Common.{◌≡◌, ℕ, true, false, ◌&&◌, cond, T, List, [], ◌∷◌, ◌++◌, map, Option, Some, None, refl, sym, ◌∙◌, ap, subst}
use Rattle.std.specs.List.{filter}
use Rattle.std.specs.Ordering.{eq_by_cmp}
use Rattle.std.specs.FinMap.Entries.{find, is_sorted, below_all}
use Rattle.reg_tree_parts.specs.Orders.{name_order, path_order}
use Rattle.reg_tree_parts.specs.Rows.{Row}
use Rattle.reg_tree_parts.specs.Nodes.{Entries, below, all_below, entries_of, IsNode, AreNodes, one_below, names_below, spelled_root}
use Rattle.std.proofs.Common.{append-nil}
use Rattle.reg_tree_parts.proofs.SortedLists.{front_of, back_of}
use Rattle.reg_tree_parts.proofs.Finds.{find_below_all, equal_of}

names_below-append : (p : List (List ℕ)) (xs ys : Entries) → names_below p (xs ++ ys) ≡ names_below p xs ++ names_below p ys
names_below-append p [] ys = refl
names_below-append p ((q, row) ∷ xs) ys =
    elim (one_below p q) as (λ b. map (λ e. let r = e.1 in r.name) (cond b ((q, row) ∷ filter (λ e. one_below p e.0) (xs ++ ys)) (filter (λ e. one_below p e.0) (xs ++ ys))) ≡ map (λ e. let r = e.1 in r.name) (cond b ((q, row) ∷ filter (λ e. one_below p e.0) xs) (filter (λ e. one_below p e.0) xs)) ++ names_below p ys) [
      | true ↦ ap (λ ns. row.name ∷ ns) (names_below-append p xs ys)
      | false ↦ names_below-append p xs ys
    ]

-- below a name, one level below the root is the name itself
names-below_root : (n : List ℕ) (es : Entries) → IsNode es → names_below [] (below n es) ≡ spelled_root es ∷ []
names-below_root n es node =
    subst (λ xs. names_below [] (below n xs) ≡ spelled_root xs ∷ []) (sym node.whole)
    (ap (λ ns. node.row.name ∷ ns) (deeper node.others (front_of (below_all path_order [] node.others) (is_sorted path_order node.others) (subst (λ xs. T (is_sorted path_order xs)) node.whole node.rises))))
  where
    deeper : (xs : Entries) → T (below_all path_order [] xs) → names_below [] (below n xs) ≡ []
    deeper [] h = refl
    deeper (([], row) ∷ xs) h = absurd h
    deeper ((m ∷ q, row) ∷ xs) h = deeper xs h

-- one level below the root of a key with subkeys are the names of the subkeys
pub names-root : (row : Row) (subkeys : List (List ℕ × Entries)) → AreNodes subkeys → names_below [] (entries_of row subkeys) ≡ map (λ subkey. spelled_root subkey.1) subkeys
names-root row [] nodes = refl
names-root row (subkey ∷ subkeys) nodes =
    names_below-append [] (below subkey.0 subkey.1) (all_below subkeys)
    ∙ ap (λ ns. ns ++ names_below [] (all_below subkeys)) (names-below_root subkey.0 subkey.1 nodes.0)
    ∙ ap (λ ns. spelled_root subkey.1 ∷ ns) (names-root row subkeys nodes.1)

-- one level below a path that begins with a name that ties, the names are those below its rest
names-below_tied : (n a : List ℕ) (p : List (List ℕ)) (es : Entries) → eq_by_cmp name_order n a ≡ true → names_below (n ∷ p) (below a es) ≡ names_below p es
names-below_tied n a p [] tied = refl
names-below_tied n a p ((q, row) ∷ es) tied =
    ap (λ b. map (λ e. let r = e.1 in r.name) (cond (b && one_below p q) ((a ∷ q, row) ∷ filter (λ e. one_below (n ∷ p) e.0) (below a es)) (filter (λ e. one_below (n ∷ p) e.0) (below a es)))) tied
    ∙ elim (one_below p q) as (λ b. map (λ e. let r = e.1 in r.name) (cond b ((a ∷ q, row) ∷ filter (λ e. one_below (n ∷ p) e.0) (below a es)) (filter (λ e. one_below (n ∷ p) e.0) (below a es))) ≡ map (λ e. let r = e.1 in r.name) (cond b ((q, row) ∷ filter (λ e. one_below p e.0) es) (filter (λ e. one_below p e.0) es))) [
      | true ↦ ap (λ ns. row.name ∷ ns) (names-below_tied n a p es tied)
      | false ↦ names-below_tied n a p es tied
    ]

-- below another name there are none
names-below_apart : (n a : List ℕ) (p : List (List ℕ)) (es : Entries) → eq_by_cmp name_order n a ≡ false → names_below (n ∷ p) (below a es) ≡ []
names-below_apart n a p [] apart = refl
names-below_apart n a p ((q, row) ∷ es) apart =
    ap (λ b. map (λ e. let r = e.1 in r.name) (cond (b && one_below p q) ((a ∷ q, row) ∷ filter (λ e. one_below (n ∷ p) e.0) (below a es)) (filter (λ e. one_below (n ∷ p) e.0) (below a es)))) apart
    ∙ names-below_apart n a p es apart

-- the names below a path in what was found, if anything was
abbrev pub names_in : Option Entries → List (List ℕ) → List (List ℕ)
names_in None path = []
names_in (Some entries) path = names_below path entries

-- one level below a path, the names are those below its rest in the subkey of its first name
pub names-all_below : (n : List ℕ) (p : List (List ℕ)) (subkeys : List (List ℕ × Entries)) → T (is_sorted name_order subkeys) → names_below (n ∷ p) (all_below subkeys) ≡ names_in (find name_order n subkeys) p
names-all_below n p [] h = refl
names-all_below n p (subkey ∷ subkeys) h =
    names_below-append (n ∷ p) (below subkey.0 subkey.1) (all_below subkeys)
    ∙ ap (λ ns. names_below (n ∷ p) (below subkey.0 subkey.1) ++ ns) (names-all_below n p subkeys (back_of (below_all name_order subkey.0 subkeys) (is_sorted name_order subkeys) h))
    ∙ elim (eq_by_cmp name_order n subkey.0) as (λ b. eq_by_cmp name_order n subkey.0 ≡ b → names_below (n ∷ p) (below subkey.0 subkey.1) ++ names_in (find name_order n subkeys) p ≡ names_in (cond b (Some subkey.1) (find name_order n subkeys)) p) [
      | true ↦ λ e.
          ap (λ o. names_below (n ∷ p) (below subkey.0 subkey.1) ++ names_in o p) (find_below_all n subkey.0 subkeys (equal_of (name_order n subkey.0) e) (front_of (below_all name_order subkey.0 subkeys) (is_sorted name_order subkeys) h))
          ∙ append-nil (names_below (n ∷ p) (below subkey.0 subkey.1)) ∙ names-below_tied n subkey.0 p subkey.1 e
      | false ↦ λ e. ap (λ ns. ns ++ names_in (find name_order n subkeys) p) (names-below_apart n subkey.0 p subkey.1 e)
    ] refl
