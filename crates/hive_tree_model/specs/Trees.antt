-- The tree that keys make: a finite map from paths of folded names to rows.
use Rattle.std.specs.Prelude.{if◌then◌else◌, ℕ, Bool, List, [], ◌∷◌, ◌++◌, map, Option, Some, None}
use Rattle.std.specs.FinMap as finite
use Rattle.std.specs.declared.cmp.Ordering.{Ordering}
use Rattle.std.specs.Ordering.{nat_cmp, eq_by_cmp}
use Rattle.std.specs.Cmp.Lexicographic.{slice_cmp}
use Rattle.hive_tree_model.specs.Keys.{KeyParts, Keys, none, key}

-- the orders of folded names and of paths
abbrev pub name_order : List ℕ → List ℕ → Ordering
name_order = slice_cmp nat_cmp

abbrev pub path_order : List (List ℕ) → List (List ℕ) → Ordering
path_order = slice_cmp (slice_cmp nat_cmp)

abbrev pub TreeOf : Type 0 → Type 0
TreeOf R = finite.FinMap path_order R

-- whether two folded names are the same
abbrev pub same : List ℕ → List ℕ → Bool
same n m = eq_by_cmp name_order n m

-- entries seen from one level higher
abbrev pub under : {R : Type 0} → List ℕ → List (List (List ℕ) × R) → List (List (List ℕ) × R)
under n entries = map (λ e. (n ∷ e.0, e.1)) entries

-- paths and rows of keys and of all keys below them
abbrev pub rows : {R : Type 0} → Keys R → List (List (List ℕ) × R)
rows none = []
rows (key at parts below after) = (parts.name ∷ [], parts.row) ∷ (under parts.name (rows below) ++ rows after)

-- the tree of a root and the keys below it; the root's own name is in no path
abbrev pub tree_of : {R : Type 0} → KeyParts R → Keys R → TreeOf R
tree_of parts below = finite.from_entries (([], parts.row) ∷ rows below)

-- the same by going down a path: the row at a path below keys, and that at a path from a key on
abbrev pub row_in : {R : Type 0} → Keys R → List (List ℕ) → Option R
row_in none path = None
row_in (key at parts below after) [] = None
row_in (key at parts below after) (n ∷ []) = if same n parts.name then Some parts.row else row_in after (n ∷ [])
row_in (key at parts below after) (n ∷ m ∷ path) = if same n parts.name then row_in below (m ∷ path) else row_in after (n ∷ m ∷ path)

abbrev pub row_from : {R : Type 0} → R → Keys R → List (List ℕ) → Option R
row_from row below [] = Some row
row_from row below (n ∷ path) = row_in below (n ∷ path)
