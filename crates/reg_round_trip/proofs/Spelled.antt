-- The names along the path of a key, as they are spelled.
use Rattle.std.proofs.Common.{◌≡◌, ℕ, ◌-◌, arith, suc, length, List, [], ◌∷◌, ◌++◌, map, Option, Some, None, IsSome, refl, sym, ◌∙◌, ap, ap₂, subst, inl, inr, append_assoc}
use Rattle.std.specs.Prelude.{◌⊎◌, slice_index_or}
use Rattle.std.specs.List.{AllByRecursion}
use Rattle.std.proofs.lemmas.List.{map-append, length-map}
use Rattle.reg_names.specs.Names.{folded, folded_path}
use Rattle.reg_tree_parts.specs.Rows.{Row}
use Rattle.reg_tree.specs.Maps.{TreeMap, row, beginnings, IsTree}
use Rattle.reg_tree.proofs.Depths.{beginning_there}
use Rattle.key_walk.specs.KeyRows.{name_of_row, spelled_names}
use Rattle.reg_round_trip.proofs.Units.{none_some}

-- a path is the root's, or goes on from another one by a name
abbrev pub IsRootOrBelow : List (List ℕ) → Type 0
IsRootOrBelow path = (path ≡ []) ⊎ ((front : List (List ℕ)) × (name : List ℕ) × (path ≡ front ++ name ∷ []))

pub root_or_below : (path : List (List ℕ)) → IsRootOrBelow path
root_or_below [] = inl refl
root_or_below (m ∷ path) = more (root_or_below path)
  where
    more : IsRootOrBelow path → IsRootOrBelow (m ∷ path)
    more (inl e) = inr ([], m, ap (λ p. m ∷ p) e)
    more (inr b) = inr (m ∷ b.0, b.1, ap (λ p. m ∷ p) b.2)

beginnings_more : (path : List (List ℕ)) (name : List ℕ) → beginnings (path ++ name ∷ []) ≡ beginnings path ++ (path ++ name ∷ []) ∷ []
beginnings_more [] name = refl
beginnings_more (m ∷ path) name = ap (λ bs. (m ∷ []) ∷ map (λ rest. m ∷ rest) bs) (beginnings_more path name) ∙ ap (λ bs. (m ∷ []) ∷ bs) (map-append (λ rest. m ∷ rest) (beginnings path) ((path ++ name ∷ []) ∷ []))

-- one name more
pub spelled_more : (tree : TreeMap) (path : List (List ℕ)) (name : List ℕ) (key : Row) → row tree (path ++ name ∷ []) ≡ Some key → spelled_names tree (path ++ name ∷ []) ≡ spelled_names tree path ++ key.name ∷ []
spelled_more tree path name key there =
    ap (map (λ start. name_of_row (row tree start))) (beginnings_more path name) ∙ map-append (λ start. name_of_row (row tree start)) (beginnings path) ((path ++ name ∷ []) ∷ [])
    ∙ ap (λ o. spelled_names tree path ++ name_of_row o ∷ []) there

-- folded they are the path
names_from : TreeMap → List (List ℕ) → List (List ℕ) → List (List ℕ)
names_from tree front path = map (λ start. name_of_row (row tree (front ++ start))) (beginnings path)

longer : (tree : TreeMap) (front : List (List ℕ)) (m : List ℕ) (starts : List (List (List ℕ))) → map (λ start. name_of_row (row tree (front ++ start))) (map (λ rest. m ∷ rest) starts) ≡ map (λ start. name_of_row (row tree ((front ++ m ∷ []) ++ start))) starts
longer tree front m [] = refl
longer tree front m (start ∷ starts) = ap₂ (λ n ns. n ∷ ns) (ap (λ p. name_of_row (row tree p)) (sym (append_assoc front (m ∷ []) start))) (longer tree front m starts)

folded_from : (tree : TreeMap) → IsTree tree → (front path : List (List ℕ)) → IsSome (row tree (front ++ path)) → folded_path (names_from tree front path) ≡ path
unfolding names_from
folded_from tree is front [] there = refl
folded_from tree is front (m ∷ path) there =
    let regrouped : front ++ m ∷ path ≡ (front ++ m ∷ []) ++ path = sym (append_assoc front (m ∷ []) path) in
    let later = subst (λ p. IsSome (row tree p)) regrouped there in
    let first = first_of_names (row tree (front ++ m ∷ [])) refl (beginning_there tree is (front ++ m ∷ []) path later) in
    ap₂ (λ n ns. n ∷ ns) first
    (ap folded_path (longer tree front m (beginnings path)) ∙ folded_from tree is (front ++ m ∷ []) path later)
  where
    first_of_names : (o : Option Row) → row tree (front ++ m ∷ []) ≡ o → IsSome o → folded (name_of_row (row tree (front ++ m ∷ []))) ≡ m
    first_of_names None e some = absurd (none_some {A = Row} None refl some)
    first_of_names (Some key) e some = ap (λ o. folded (name_of_row o)) e ∙ is.named front m key e

pub folded_spelled : (tree : TreeMap) → IsTree tree → (path : List (List ℕ)) → IsSome (row tree path) → folded_path (spelled_names tree path) ≡ path
unfolding names_from
folded_spelled tree is path there = folded_from tree is [] path there

-- what is so of the names of all keys is so of these
module _ (tree : TreeMap) (is : IsTree tree) (P : List ℕ → Type 0) (h : (path : List (List ℕ)) (name : List ℕ) (key : Row) → row tree (path ++ name ∷ []) ≡ Some key → P key.name) where
  one_named : (path : List (List ℕ)) (name : List ℕ) (o : Option Row) → row tree (path ++ name ∷ []) ≡ o → IsSome o → P (name_of_row (row tree (path ++ name ∷ [])))
  one_named path name None e some = absurd (none_some {A = Row} None refl some)
  one_named path name (Some key) e some = subst (λ o. P (name_of_row o)) (sym e) (h path name key e)

  all_from : (front path : List (List ℕ)) → IsSome (row tree (front ++ path)) → AllByRecursion P (names_from tree front path)
  unfolding names_from
  all_from front [] there = tt
  all_from front (m ∷ path) there =
      let later = subst (λ p. IsSome (row tree p)) (sym (append_assoc front (m ∷ []) path)) there in
      (one_named front m (row tree (front ++ m ∷ [])) refl (beginning_there tree is (front ++ m ∷ []) path later), subst (AllByRecursion P) (sym (longer tree front m (beginnings path))) (all_from (front ++ m ∷ []) path later))

  pub all_spelled : (path : List (List ℕ)) → IsSome (row tree path) → AllByRecursion P (spelled_names tree path)
  unfolding names_from
  all_spelled path there = all_from [] path there

pub spelled_length : (tree : TreeMap) (path : List (List ℕ)) → length (spelled_names tree path) ≡ length path
spelled_length tree path = length-map (beginnings path) (λ start. name_of_row (row tree start)) ∙ count path
  where
    count : (p : List (List ℕ)) → length (beginnings p) ≡ length p
    count [] = refl
    count (n ∷ p) = ap suc (length-map (beginnings p) (λ rest. n ∷ rest) ∙ count p)

-- the name at an index of a longer path is that of the key of the beginning
at_index : (tree : TreeMap) (front : List (List ℕ)) (m : List ℕ) (path rest : List (List ℕ)) → slice_index_or (names_from tree front ((m ∷ path) ++ rest)) (length path) [] ≡ name_of_row (row tree (front ++ m ∷ path))
unfolding names_from
at_index tree front m [] rest = refl
at_index tree front m (n ∷ path) rest =
    ap (λ names. slice_index_or names (length path) []) (longer tree front m (beginnings ((n ∷ path) ++ rest))) ∙ at_index tree (front ++ m ∷ []) n path rest
    ∙ ap (λ p. name_of_row (row tree p)) (append_assoc front (m ∷ []) (n ∷ path))

pub spelled_index : (tree : TreeMap) (m : List ℕ) (path rest : List (List ℕ)) → slice_index_or (spelled_names tree ((m ∷ path) ++ rest)) (length (m ∷ path) - 1) [] ≡ name_of_row (row tree (m ∷ path))
unfolding names_from
spelled_index tree m path rest =
    let last : length (m ∷ path) - 1 ≡ length path = omega arith in
    ap (λ n. slice_index_or (spelled_names tree ((m ∷ path) ++ rest)) n []) last ∙ at_index tree [] m path rest
