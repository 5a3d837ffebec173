-- A tree that was made so weighs at most what all of its keys are to weigh.
use Rattle.std.proofs.Common.{◌≡◌, ℕ, ◌≤◌, List, [], ◌∷◌, length, map, sum_by, Option, Some, None, refl, sym, ◌∙◌, ap, subst, arith}
use Rattle.std.specs.List.{AllByRecursion}
use Rattle.std.specs.Option.{option_map}
use Rattle.std.specs.FinMap as finite
use Rattle.std.specs.FinMap.{entries_sorted, get-entries, get-from_sorted, entries-from_sorted}
use Rattle.std.specs.FinMap.Entries.{find}
use Rattle.std.proofs.lemmas.List.Sums.{sum_by-cons}
use Rattle.reg_tree_parts.specs.declared.value.Value.{Value}
use Rattle.reg_tree_parts.specs.Orders.{path_order}
use Rattle.reg_tree_parts.specs.Rows.{Row, ValueMap, row_weight}
use Rattle.reg_tree_parts.specs.Weights.{value_weight}
use Rattle.reg_tree_parts.proofs.Keys.{paths_total, paths_apart, names_total, names_apart}
use Rattle.reg_tree.specs.Maps.{TreeMap, row, weight}
use Rattle.reg_tree.proofs.Sums.{of_option, less_in_all}
use Rattle.reg_round_trip.specs.NewTrees.{made_weight, made_tree_weight}
use Rattle.reg_round_trip.proofs.Units.{all_then}
use Rattle.reg_round_trip.proofs.SortedKeys.{each_got, mapped, sorted_mapped, find_mapped}
use Rattle.reg_round_trip.proofs.MadeTrees.{Wanted, IsMadeKey, IsMade, IsBuilt}

-- the weight of values
abbrev pub values_weight : ValueMap → ℕ
values_weight values = sum_by value_weight (finite.values values)

sum_of_values : (es : List (List ℕ × Value)) → sum_by value_weight (map (λ e. e.1) es) ≡ sum_by (λ e. value_weight e.1) es
sum_of_values [] = refl
sum_of_values (e ∷ es) =
    let one = sum_by-cons value_weight e.1 (map (λ x. x.1) es) in
    let two = sum_by-cons (λ (x : List ℕ × Value). value_weight x.1) e es in
    let rest = sum_of_values es in
    omega (arith, one, two, rest)

-- values of which each is among others weigh no more
pub fewer_values : (values others : ValueMap) → ((name : List ℕ) → of_option value_weight (finite.get values name) ≤ of_option value_weight (finite.get others name)) → values_weight values ≤ values_weight others
fewer_values values others less =
    let whole = less_in_all names_total value_weight names_apart values others less in
    let one = sum_of_values (finite.entries values) in
    let two = sum_of_values (finite.entries others) in
    omega (arith, whole, one, two)

-- each key that is wanted is one of a tree, with at most its name and its values
pub record IsPart (tree : TreeMap) (path : List (List ℕ)) (want : List ℕ × ValueMap) : Type 0 where
  pub key : Row
  pub there : row tree path ≡ Some key
  pub name : length want.0 ≤ length key.name
  pub light : values_weight want.1 ≤ values_weight key.values

abbrev pub IsBounded : TreeMap → Wanted → Type 0
IsBounded tree want = (path : List (List ℕ)) (its : List ℕ × ValueMap) → want path ≡ Some its → IsPart tree path its

made_key_weight : (path : List (List ℕ)) (key : Row) (name : List ℕ) (values : ValueMap) → IsMadeKey path key name values → row_weight key ≡ made_weight path key
made_key_weight [] key name values m =
    let class = ap length m.class in
    let descriptor = m.descriptor in
    let none = ap length (m.root refl) in
    omega (arith, class, descriptor, none)
made_key_weight (n ∷ path) key name values m =
    let class = ap length m.class in
    let descriptor = m.descriptor in
    omega (arith, class, descriptor)

same_sums : (es : List (List (List ℕ) × Row)) → AllByRecursion (λ e. row_weight e.1 ≡ made_weight e.0 e.1) es → sum_by (λ e. row_weight e.1) es ≡ sum_by (λ e. made_weight e.0 e.1) es
same_sums [] all = refl
same_sums (e ∷ es) all =
    let one = sum_by-cons (λ (x : List (List ℕ) × Row). row_weight x.1) e es in
    let two = sum_by-cons (λ (x : List (List ℕ) × Row). made_weight x.0 x.1) e es in
    let here = all.0 in
    let rest = same_sums es all.1 in
    omega (arith, one, two, here, rest)

-- a tree whose keys weigh no more than another's at the same paths weighs no more
abbrev weights : TreeMap → finite.FinMap path_order ℕ
weights tree = finite.from_sorted (mapped path_order made_weight (finite.entries tree))

sum_mapped : (es : List (List (List ℕ) × Row)) → sum_by (λ e. e.1) (mapped path_order made_weight es) ≡ sum_by (λ e. made_weight e.0 e.1) es
sum_mapped [] = refl
sum_mapped (e ∷ es) =
    let one = sum_by-cons (λ (x : List (List ℕ) × ℕ). x.1) (e.0, made_weight e.0 e.1) (mapped path_order made_weight es) in
    let two = sum_by-cons (λ (x : List (List ℕ) × Row). made_weight x.0 x.1) e es in
    let rest = sum_mapped es in
    omega (arith, one, two, rest)

sum_of_weights : (tree : TreeMap) → sum_by (λ e. e.1) (finite.entries (weights tree)) ≡ made_tree_weight tree
sum_of_weights tree =
    ap (sum_by (λ e. e.1)) (entries-from_sorted path_order (mapped path_order made_weight (finite.entries tree)) (sorted_mapped path_order made_weight (finite.entries tree) (entries_sorted tree))) ∙ sum_mapped (finite.entries tree)

of_mapped : (f : Row → ℕ) (o : Option Row) → of_option (λ w. w) (option_map f o) ≡ of_option f o
of_mapped f None = refl
of_mapped f (Some key) = refl

weight_at : (tree : TreeMap) (path : List (List ℕ)) → of_option (λ w. w) (finite.get (weights tree) path) ≡ of_option (made_weight path) (row tree path)
weight_at tree path =
    ap (of_option (λ w. w)) (get-from_sorted path_order (mapped path_order made_weight (finite.entries tree)) path (sorted_mapped path_order made_weight (finite.entries tree) (entries_sorted tree)) ∙ find_mapped path_order made_weight paths_apart path (finite.entries tree))
    ∙ of_mapped (made_weight path) (find path_order path (finite.entries tree)) ∙ ap (of_option (made_weight path)) (sym (get-entries tree path))

pub lighter_tree : (tree other : TreeMap) → ((path : List (List ℕ)) → of_option (made_weight path) (row tree path) ≤ of_option (made_weight path) (row other path)) → made_tree_weight tree ≤ made_tree_weight other
lighter_tree tree other less =
    let all = less_in_all paths_total (λ w. w) paths_apart (weights tree) (weights other) (λ path. let here = less path in let one = weight_at tree path in let two = weight_at other path in omega (arith, here, one, two)) in
    let one = sum_of_weights tree in
    let two = sum_of_weights other in
    omega (arith, all, one, two)

pub built_weight : (made tree : TreeMap) (want : Wanted) → IsBuilt made want → IsBounded tree want → weight made ≤ made_tree_weight tree
built_weight made tree want b bounded =
    let same = same_sums (finite.entries made) (all_then (λ e. row made e.0 ≡ Some e.1) (λ e. row_weight e.1 ≡ made_weight e.0 e.1) at (finite.entries made) (each_got paths_total made)) in
    let less = lighter_tree made tree (λ path. by_row path (row made path) (want path) refl (b.made path)) in
    omega (arith, same, less)
  where
    by_want : (path : List (List ℕ)) (key : Row) (w : Option (List ℕ × ValueMap)) → IsMade path (Some key) w → row_weight key ≡ made_weight path key
    by_want path key None m = absurd m
    by_want path key (Some its) m = made_key_weight path key its.0 its.1 m

    at : (e : List (List ℕ) × Row) → row made e.0 ≡ Some e.1 → row_weight e.1 ≡ made_weight e.0 e.1
    at e there = by_want e.0 e.1 (want e.0) (subst (λ o. IsMade e.0 o (want e.0)) there (b.made e.0))

    lighter : (path : List (List ℕ)) (key : Row) (its : List ℕ × ValueMap) → IsMadeKey path key its.0 its.1 → IsPart tree path its → made_weight path key ≤ of_option (made_weight path) (row tree path)
    lighter [] key its m p =
        let there = ap (of_option (made_weight [])) p.there in
        let values = ap values_weight m.values in
        let light = p.light in
        omega (arith, there, values, light)
    lighter (n ∷ path) key its m p =
        let there = ap (of_option (made_weight (n ∷ path))) p.there in
        let values = ap values_weight m.values in
        let short = m.short in
        let name = p.name in
        let light = p.light in
        omega (arith, there, values, short, name, light)

    by_row : (path : List (List ℕ)) (o : Option Row) (w : Option (List ℕ × ValueMap)) → want path ≡ w → IsMade path o w → of_option (made_weight path) o ≤ of_option (made_weight path) (row tree path)
    by_row path None w e m = omega arith
    by_row path (Some key) None e m = absurd m
    by_row path (Some key) (Some its) e m = lighter path key its m (bounded path its e)
