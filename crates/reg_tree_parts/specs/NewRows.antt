-- The rows of new keys.
use Rattle.std.specs.Prelude.{ℕ, List, []}
use Rattle.std.specs.FinMap as finite
use Rattle.reg_tree_parts.specs.Rows.{Row}

-- the row of a new key: no class, no flags and no values
abbrev pub new_row : List ℕ → List ℕ → ℕ → Row
new_row name descriptor time = record { name = name; class = []; flags = 0; descriptor = descriptor; time = time; values = finite.empty }
