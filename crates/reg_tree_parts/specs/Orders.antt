-- The orders of trees: of folded names, by their units, and of folded paths, name by name, a beginning first.
use Rattle.std.specs.Prelude.{ℕ, List}
use Rattle.std.specs.declared.cmp.Ordering.{Ordering}
use Rattle.std.specs.Ordering.{nat_cmp}
use Rattle.std.specs.Cmp.Lexicographic.{slice_cmp}

-- folded names, by their units
abbrev pub name_order : List ℕ → List ℕ → Ordering
name_order = slice_cmp nat_cmp

-- folded paths, name by name, a beginning first
abbrev pub path_order : List (List ℕ) → List (List ℕ) → Ordering
path_order = slice_cmp (slice_cmp nat_cmp)
