-- The tree of a new hive is light.
use Rattle.std.proofs.Common.{◌≡◌, ℕ, List, [], ◌∷◌, map, sum_by, sym, ◌∙◌, ap, arith}
use Rattle.std.proofs.lemmas.List.{nil_from_length}
use Rattle.std.specs.declared.cmp.Ordering.{Ordering}
use Rattle.std.specs.FinMap as finite
use Rattle.reg_tree.specs.Maps.{weight}
use Rattle.reg_tree_parts.specs.declared.value.Value.{Value}
use Rattle.reg_tree_parts.specs.Weights.{value_weight}
use Rattle.reg_tree_parts.specs.Nodes.{entries_weight}
use Rattle.reg_tree_parts.specs.Orders.{name_order, path_order}
use Rattle.reg_tree_parts.proofs.Keys.{paths_total}
use Rattle.reg_tree.specs.Fresh.{fresh_row, fresh_tree}

-- no entry is in an empty map
empty_entries : {K X : Type 0} (R : K → K → Ordering) → finite.entries (finite.empty {X = X} {R = R}) ≡ []
empty_entries {X = X} R = nil_from_length _ (sym (finite.len-entries finite.empty) ∙ finite.len-empty R X)

-- its weight is that of its root
pub light : weight fresh_tree ≡ 212
light =
    let root : finite.entries fresh_tree ≡ ([], fresh_row) ∷ [] = finite.entries-insert paths_total finite.empty [] fresh_row ∙ ap (finite.put path_order [] fresh_row) (empty_entries path_order) in
    let none : sum_by value_weight (finite.values fresh_row.values) ≡ 0 = ap (λ (es : List (List ℕ × Value)). sum_by value_weight (map (λ e. e.1) es)) (empty_entries name_order) in
    ap entries_weight root ∙ omega (arith, none)
