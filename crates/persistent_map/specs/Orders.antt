-- The order of folded names: by their units.
use Rattle.std.specs.Prelude.{ℕ, List}
use Rattle.std.specs.declared.cmp.Ordering.{Ordering}
use Rattle.std.specs.Ordering.{nat_cmp}
use Rattle.std.specs.Cmp.Lexicographic.{slice_cmp}

-- folded names, by their units
abbrev pub name_order : List ℕ → List ℕ → Ordering
name_order = slice_cmp nat_cmp
