-- The names that lead to a key, as a walk reaches it.
use Rattle.std.specs.Prelude.{ℕ, List, [], ◌∷◌, ◌++◌}
use Rattle.key_walk.specs.declared.key_path.KeyPath.{KeyPath, Root, Below'}

-- the names on a way, from the root on, each as it is spelled
abbrev pub names_on : KeyPath → List (List ℕ)
names_on Root = []
names_on (Below' at above name) = names_on above ++ name.now ∷ []
