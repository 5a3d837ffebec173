-- How many levels of a path are missing.
use Rattle.std.specs.Prelude.{ℕ, ◌+◌, List, [], ◌∷◌, Bool, if◌then◌else◌}
use Rattle.conflicts.specs.Skeleton.{Key, Skeleton}

-- how many beginnings of a path, the empty and the whole one among them, do not pass
abbrev pub levels : (List (List ℕ) → Bool) → List (List ℕ) → ℕ
levels there [] = if there [] then 0 else 1
levels there (n ∷ p) = (if there [] then 0 else 1) + levels (λ q. there (n ∷ q)) p

-- how many beginnings of a key's path are not there
abbrev pub missing_levels : Skeleton → Key → ℕ
missing_levels s k = levels (λ q. s.there (record { hive = k.hive; path = q })) k.path
