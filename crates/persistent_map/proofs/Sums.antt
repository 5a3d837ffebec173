-- A node has the entries of its children, and is a child itself.
use Rattle.std.proofs.Common.{◌≡◌, ℕ, zero, suc, ◌+◌, ◌<◌, List, [], ◌∷◌, length, map, take, min, sum_by, get_or, refl, sym, ◌∙◌, ap, subst, arith, add-one, length-append}
use Rattle.std.proofs.lemmas.List.Sums.{sum_by-append, sum_by-cons}
use Rattle.reg_names.specs.Names.{folded}
use Rattle.std.specs.declared.sync.Arc.{Arc}
use Rattle.std.specs.declared.alloc.Global.{Global}
use Rattle.std.specs.Arc.{arc_value}
use Rattle.persistent_map.specs.declared.map_node.MapNode.{MapNode}
use Rattle.persistent_map.specs.Listings.{entries_in, children_entries}
use Rattle.persistent_map.specs.Children.{ChildKind, StartsAt, total_weight, IsChild, EachIsChild, AreChildren, node_kind}
use Rattle.persistent_map.proofs.Steps.{starts_more}

-- one child more adds what it has
sum_after : {P : Type 0} (of : P → ℕ) (children : List (Arc P Global)) (i : ℕ) (child : Arc P Global) → i < length children → child ≡ get_or children i child → sum_by of (map arc_value (take (suc i) children)) ≡ sum_by of (map arc_value (take i children)) + of (arc_value child)
sum_after of [] i child below is = absurd (omega arith)
sum_after of (first ∷ children) zero child below is = omega (arith, sum_by-cons of (arc_value first) [], ap (λ (p : Arc _ Global). of (arc_value p)) is)
sum_after of (first ∷ children) (suc i) child below is =
    omega (arith, sum_by-cons of (arc_value first) (map arc_value (take (suc i) children)), sum_by-cons of (arc_value first) (map arc_value (take i children)), sum_after of children i child (omega arith) is)

pub sum_next : {P : Type 0} (of : P → ℕ) (children : List (Arc P Global)) (i : ℕ) (child : Arc P Global) → i < length children → child ≡ get_or children i child → sum_by of (map arc_value (take (i + 1) children)) ≡ sum_by of (map arc_value (take i children)) + of (arc_value child)
sum_next of children i child below is = rw add-one (sum_after of children i child below is)

module _ {A P : Type 0} (kind : ChildKind A P) where
  -- the counts of children are the number of their entries
  pub counts : (children : List P) → EachIsChild kind children → sum_by kind.count children ≡ length (entries_in kind.list children)
  counts [] are = refl
  counts (child ∷ children) are = omega (arith, sum_by-cons kind.count child children, are.0.count, counts children are.1, length-append (kind.list child) (entries_in kind.list children))

  -- and their weights, up to the greatest number of 64 bits, the weight of their entries
  weights : (children : List P) → EachIsChild kind children → min (sum_by kind.weight children) 18446744073709551615 ≡ min (total_weight kind.entry_weight (entries_in kind.list children)) 18446744073709551615
  weights [] are = refl
  weights (child ∷ children) are =
      omega (arith, sum_by-cons kind.weight child children, are.0.weighs, weights children are.1, sum_by-append (λ (e : List ℕ × A). kind.entry_weight e.1) (kind.list child) (entries_in kind.list children))

  -- they begin as the first of them does
  begins : (children : List (Arc P Global)) (child : Arc P Global) → AreChildren kind children → 0 < length children → child ≡ get_or children 0 child → StartsAt (kind.first (arc_value child)) (children_entries kind.list children)
  begins [] child are some is = absurd (omega arith)
  begins (p ∷ children) child are some is =
      starts_more (kind.first (arc_value child)) (kind.list (arc_value p)) _ (subst (λ k. StartsAt k (kind.list (arc_value p))) (ap (λ q. kind.first (arc_value q)) (sym is)) are.0.first)

  -- a node of children with their totals is a child
  pub node_is : (children : List (Arc P Global)) (map_node : MapNode P) (child : Arc P Global) → AreChildren kind children → 0 < length children → map_node.children.items ≡ children → child ≡ get_or children 0 child → folded map_node.first ≡ kind.first (arc_value child)
      → map_node.count ≡ sum_by kind.count (map arc_value children) → map_node.weight ≡ min (sum_by kind.weight (map arc_value children)) 18446744073709551615 → IsChild (node_kind kind) map_node
  node_is children map_node child are some same is first count weight =
      let all : children_entries kind.list map_node.children.items ≡ children_entries kind.list children = ap (children_entries kind.list) same in
      record {
        first = subst (λ k. StartsAt k (children_entries kind.list map_node.children.items)) (sym first) (subst (StartsAt (kind.first (arc_value child))) (sym all) (begins children child are some is));
        count = count ∙ counts (map arc_value children) are ∙ ap length (sym all);
        weighs = weight ∙ weights (map arc_value children) are ∙ ap (λ es. min (total_weight kind.entry_weight es) 18446744073709551615) (sym all);
        fits = subst (AreChildren kind) (sym same) are;
      }
