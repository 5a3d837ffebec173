-- No measure of what is in a map's children exceeds the greatest of the entries that the map lists: for a type that
-- contains a map of itself.
use Rattle.std.specs.Prelude.{ℕ, ◌≤◌, List, [], ◌∷◌, max}
use Rattle.std.proofs.Common.{arith}
use denote.Param.Weighed.{most, most-append}
use Rattle.std.specs.declared.sync.Arc.{Arc}
use Rattle.std.specs.declared.alloc.Global.{Global}
use Rattle.std.specs.Arc.{arc_value}
use Rattle.persistent_map.specs.Listings.{children_entries}

-- the greater of a measure and nothing
pub capped : {a b : ℕ} → a ≤ b → max a 0 ≤ b
capped h = omega arith

-- so the measure of a node's children, which come after its count, weight and name
pub capped_node : {a b : ℕ} → a ≤ b → max 0 (max 0 (max 0 (max a 0))) ≤ b
capped_node h = omega arith

-- what measures children by their entries
pub most_children : {E P : Type 0} (μ : E → ℕ) (ν : Arc P Global → ℕ) (list : P → List E) → ((child : Arc P Global) → ν child ≤ most μ (list (arc_value child))) → (children : List (Arc P Global)) → most ν children ≤ most μ (children_entries list children)
most_children μ ν list below [] = omega arith
most_children μ ν list below (child ∷ children) = omega (arith, below child, most_children μ ν list below children, most-append μ (list (arc_value child)) (children_entries list children))
