-- Registry trees as finite maps from folded paths to rows.
use Rattle.std.specs.Prelude.{◌≡◌, ℕ, Bool, not, List, [], ◌∷◌, ◌++◌, map, filter, Option, Some, is_some, IsSome}
use Rattle.std.specs.FinMap as finite
use Rattle.reg_names.specs.Names.{folded}
use Rattle.reg_tree_parts.specs.Orders.{path_order}
use Rattle.reg_tree_parts.specs.Rows.{Row}
use Rattle.reg_tree_parts.specs.Nodes.{entries_weight, names_below}

-- a tree: the row of each key, by its folded path
abbrev pub TreeMap : Type 0
TreeMap = finite.FinMap path_order Row

-- the row at a path
abbrev pub row : TreeMap → List (List ℕ) → Option Row
row tree path = finite.get tree path

-- whether a key is there
abbrev pub is_there : TreeMap → List (List ℕ) → Bool
is_there tree path = is_some (row tree path)

-- the names of a key's subkeys, in their order
abbrev pub subkeys : TreeMap → List (List ℕ) → List (List ℕ)
subkeys tree path = names_below path (finite.entries tree)

-- the weight of a tree: the weight of its rows together
abbrev pub weight : TreeMap → ℕ
weight tree = entries_weight (finite.entries tree)

-- the beginnings of a path, from its first name to the whole
abbrev pub beginnings : List (List ℕ) → List (List (List ℕ))
beginnings [] = []
beginnings (name ∷ path) = (name ∷ []) ∷ map (λ rest. name ∷ rest) (beginnings path)

-- the beginnings of a path at which no key is
abbrev pub missing : TreeMap → List (List ℕ) → List (List (List ℕ))
missing tree path = filter (λ start. not (is_there tree start)) (beginnings path)

-- what every tree keeps: the root is there, with a key its parent, and a key is under the fold of its name
pub record IsTree (tree : TreeMap) : Type 0 where
  pub root : IsSome (row tree [])
  pub parents : (path : List (List ℕ)) (name : List ℕ) → IsSome (row tree (path ++ name ∷ [])) → IsSome (row tree path)
  pub named : (path : List (List ℕ)) (name : List ℕ) (key : Row) → row tree (path ++ name ∷ []) ≡ Some key → folded key.name ≡ name
