-- A key's values, one after the other.
use Rattle.std.proofs.Common.{◌≡◌, ℕ, zero, suc, ◌<◌, List, [], ◌∷◌, length, slice_get, None, sym, ◌∙◌, arith}
use Rattle.std.specs.FinMap as finite
use Rattle.std.specs.FinMap.{len-entries}
use Rattle.std.proofs.lemmas.List.{length-map}
use Rattle.reg_tree_parts.specs.Rows.{ValueMap}

-- what is at an index within a list
pub is_there : {X : Type 0} (xs : List X) (i : ℕ) → i < length xs → None ≡ slice_get xs i → ⊥
is_there [] i h e = absurd (omega arith)
is_there (x ∷ xs) zero h e = cc
is_there (x ∷ xs) (suc i) h e = is_there xs i (omega arith) e

-- a key has as many values as its map
pub values_long : (values : ValueMap) → finite.len values ≡ length (finite.values values)
values_long values = len-entries values ∙ sym (length-map (finite.entries values) (λ e. e.1))
