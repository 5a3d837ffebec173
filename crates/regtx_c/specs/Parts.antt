-- A part of a tree: a key, and all below it.
use Rattle.std.specs.Prelude.{◌≡◌, ℕ, List, ◌++◌}
use Rattle.reg_tree.specs.Maps.{TreeMap, row}

-- a tree is the part of another at a path: the key there is its root, and what is below that key is below the root
abbrev pub IsPart : TreeMap → List (List ℕ) → TreeMap → Type 0
IsPart tree path part = (rest : List (List ℕ)) → row part rest ≡ row tree (path ++ rest)
