-- Trees as operations make them from a new one.
use Rattle.std.proofs.Common.{◌≡◌, ℕ, ◌<◌, ◌≤◌, List, [], ◌∷◌, ◌++◌, length, Option, Some, None, IsSome, is_some, refl, sym, ◌∙◌, ap, subst, arith}
use Rattle.std.specs.Prelude.{⊤}
use Rattle.std.specs.Option.{option_map}
use Rattle.std.specs.FinMap as finite
use Rattle.std.specs.FinMap.{get-insert, get-empty, get-entries}
use Rattle.std.specs.FinMap.Entries.{find}
use Rattle.reg_tree_parts.specs.Orders.{path_order}
use Rattle.reg_tree_parts.specs.Rows.{Row, ValueMap}
use Rattle.reg_tree_parts.proofs.Keys.{paths_total}
use Rattle.reg_tree.specs.Maps.{TreeMap, row, IsTree}
use Rattle.reg_tree.specs.Fresh.{fresh_row, fresh_tree}
use Rattle.reg_round_trip.proofs.Units.{none_some}

-- what a tree is to have at each path: a name and values, or nothing
abbrev pub Wanted : Type 0
Wanted = List (List ℕ) → Option (List ℕ × ValueMap)

-- a key that was made so
pub record IsMadeKey (path : List (List ℕ)) (key : Row) (name : List ℕ) (its : ValueMap) : Type 0 where
  pub named : 0 < length path → key.name ≡ name
  pub root : length path ≡ 0 → key.name ≡ []
  pub short : length key.name ≤ length name
  pub class : key.class ≡ []
  pub descriptor : length key.descriptor ≡ 20
  pub values : key.values ≡ its

abbrev pub IsMade : List (List ℕ) → Option Row → Option (List ℕ × ValueMap) → Type 0
IsMade path None None = ⊤
IsMade path (Some key) (Some want) = IsMadeKey path key want.0 want.1
IsMade path (Some key) None = ⊥
IsMade path None (Some want) = ⊥

pub record IsBuilt (tree : TreeMap) (want : Wanted) : Type 0 where
  pub is_tree : IsTree tree
  pub made : (path : List (List ℕ)) → IsMade path (row tree path) (want path)

-- what a tree is to have while the keys of these entries are still to come
abbrev pub content : Row → List ℕ × ValueMap
content key = (key.name, key.values)

abbrev pub by_rest : List (List ℕ) → Option Row → Option Row → Option (List ℕ × ValueMap)
by_rest path there None = option_map content there
by_rest [] there (Some key) = Some (key.name, finite.empty)
by_rest (name ∷ path) there (Some key) = None

abbrev pub wanted : TreeMap → List (List (List ℕ) × Row) → Wanted
wanted tree rest path = by_rest path (row tree path) (find path_order path rest)

-- a new tree has nothing yet
pub fresh_none : (n : List ℕ) (path : List (List ℕ)) → row fresh_tree (n ∷ path) ≡ None
fresh_none n path = get-insert paths_total finite.empty [] fresh_row (n ∷ path) ∙ get-empty path_order (n ∷ path)

pub fresh_root : row fresh_tree [] ≡ Some fresh_row
fresh_root = get-insert paths_total finite.empty [] fresh_row []

pub no_row : (key : Row) → None ≡ Some key → ⊥
no_row key e = cc

below_none : (path : List (List ℕ)) (name : List ℕ) → row fresh_tree (path ++ name ∷ []) ≡ None
below_none [] name = fresh_none name []
below_none (m ∷ path) name = fresh_none m (path ++ name ∷ [])

pub fresh_is_tree : IsTree fresh_tree
fresh_is_tree = record {
  root = ap is_some fresh_root;
  parents = λ path name there. absurd (none_some (row fresh_tree (path ++ name ∷ [])) (below_none path name) there);
  named = λ path name key there. absurd (no_row key (sym (below_none path name) ∙ there));
}

pub fresh_built : (tree : TreeMap) → IsTree tree → IsBuilt fresh_tree (wanted tree (finite.entries tree))
fresh_built tree is = record { is_tree = fresh_is_tree; made = at }
  where
    root_made : (o : Option Row) → IsSome o → IsMade [] (Some fresh_row) (by_rest [] (row tree []) o)
    root_made None s = absurd (none_some {A = Row} None refl s)
    root_made (Some key) s = record { named = λ deep. absurd (omega (arith, deep)); root = λ none. refl; short = omega arith; class = refl; descriptor = refl; values = refl }

    none_made : (n : List ℕ) (path : List (List ℕ)) (o : Option Row) → IsMade (n ∷ path) None (by_rest (n ∷ path) o o)
    none_made n path None = tt
    none_made n path (Some key) = tt

    at : (path : List (List ℕ)) → IsMade path (row fresh_tree path) (wanted tree (finite.entries tree) path)
    at [] = subst (λ o. IsMade [] o (wanted tree (finite.entries tree) [])) (sym fresh_root) (root_made (find path_order [] (finite.entries tree)) (subst IsSome (get-entries tree []) is.root))
    at (n ∷ path) = subst (λ o. IsMade (n ∷ path) o (wanted tree (finite.entries tree) (n ∷ path))) (sym (fresh_none n path)) (subst (λ o. IsMade (n ∷ path) None (by_rest (n ∷ path) (row tree (n ∷ path)) o)) (get-entries tree (n ∷ path)) (none_made n path (row tree (n ∷ path))))
