-- No tree of new hives is over the weight.
use Rattle.std.proofs.Common.{◌≡◌, ℕ, zero, suc, List, [], ◌∷◌, map, replicate, sum_by, sym, ◌∙◌, ap, arith, Some, slice_get, inl, inr}
use Rattle.std.proofs.lemmas.Option.{same_Some}
use Rattle.std.proofs.lemmas.List.{nil_from_length}
use Rattle.std.specs.declared.cmp.Ordering.{Ordering}
use Rattle.std.specs.FinMap as finite
use Rattle.refusals.specs.declared.refusal.Refusal.{Refusal}
use Rattle.refusals.specs.declared.refusal.Refusal.TheVariants.{NoMemory}
use Rattle.reg_tree.specs.Maps.{TreeMap, weight}
use Rattle.reg_tree_parts.specs.declared.value.Value.{Value}
use Rattle.reg_tree_parts.specs.Weights.{value_weight}
use Rattle.reg_tree_parts.specs.Nodes.{entries_weight}
use Rattle.reg_tree_parts.specs.Orders.{name_order, path_order}
use Rattle.reg_tree_parts.proofs.Keys.{paths_total}
use Rattle.reg_tree.specs.Fresh.{fresh_row, fresh_tree}
use Rattle.recovery.specs.Created.{IsRefusedFor, SomeIsHeavy}

-- no entry is in an empty map
empty_entries : {K X : Type 0} (R : K → K → Ordering) → finite.entries (finite.empty {X = X} {R = R}) ≡ []
empty_entries {X = X} R = nil_from_length _ (sym (finite.len-entries finite.empty) ∙ finite.len-empty R X)

-- the weight of a new hive's tree: that of its root
light : weight fresh_tree ≡ 212
light =
    let root : finite.entries fresh_tree ≡ ([], fresh_row) ∷ [] = finite.entries-insert paths_total finite.empty [] fresh_row ∙ ap (finite.put path_order [] fresh_row) (empty_entries path_order) in
    let none : sum_by value_weight (finite.values fresh_row.values) ≡ 0 = ap (λ (es : List (List ℕ × Value)). sum_by value_weight (map (λ e. e.1) es)) (empty_entries name_order) in
    ap entries_weight root ∙ omega (arith, none)

each_fresh : (n i : ℕ) (tree : TreeMap) → slice_get (replicate n fresh_tree) i ≡ Some tree → tree ≡ fresh_tree
each_fresh zero i tree is = cc
each_fresh (suc n) zero tree is = sym (same_Some fresh_tree tree is)
each_fresh (suc n) (suc i) tree is = each_fresh n i tree is

none_heavy : (n : ℕ) → SomeIsHeavy (replicate n fresh_tree) → ⊥
none_heavy n (i, tree, is, heavy) = omega (arith, heavy, ap weight (each_fresh n i tree is), light)

-- so only `NoMemory` refuses them
pub refused_for_memory : (n : ℕ) (why : Refusal) → IsRefusedFor (replicate n fresh_tree) why → why ≡ NoMemory
refused_for_memory n why (inl memory) = memory
refused_for_memory n why (inr large) = absurd (none_heavy n large.1)
