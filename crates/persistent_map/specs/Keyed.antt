-- The entries of a map are under their own names.
use Rattle.std.specs.Prelude.{◌≡◌, ℕ, List, [], ◌∷◌, ◌++◌, map, refl}
use Rattle.std.specs.Arc.{arc_value}
use Rattle.persistent_map.specs.declared.map_node.MapNode.{MapNode}
use Rattle.persistent_map.specs.declared.map.Repr.{Repr}
use Rattle.persistent_map.specs.declared.map.Repr.TheVariants.{Empty, Leaf, Tree}
use Rattle.persistent_map.specs.declared.map.SharedMap.{SharedMap}
use Rattle.persistent_map.specs.Listings.{entry_list, entries_in, node_entries, repr_entries, entries}

-- each of these entries is under the name of what it has
abbrev pub AreKeyed : {A : Type 0} → (A → List ℕ) → List (List ℕ × A) → Type 0
AreKeyed key [] = Unit {0}
AreKeyed key (e ∷ es) = (e.0 ≡ key e.1) × AreKeyed key es

module _ {A : Type 0} (key : A → List ℕ) where
  keyed_join : (xs ys : List (List ℕ × A)) → AreKeyed key xs → AreKeyed key ys → AreKeyed key (xs ++ ys)
  keyed_join [] ys f g = g
  keyed_join (x ∷ xs) ys f g = (f.0, keyed_join xs ys f.1 g)

  children_keyed : {P : Type 0} (list : P → List (List ℕ × A)) → ((child : P) → AreKeyed key (list child)) → (children : List P) → AreKeyed key (entries_in list children)
  children_keyed list each [] = tt
  children_keyed list each (child ∷ children) = keyed_join (list child) (entries_in list children) (each child) (children_keyed list each children)

  node_keyed : {P : Type 0} (list : P → List (List ℕ × A)) → ((child : P) → AreKeyed key (list child)) → (map_node : MapNode P) → AreKeyed key (node_entries list map_node)
  node_keyed list each map_node = children_keyed list each (map arc_value map_node.children.items)

  of_entries : (map_node : MapNode A) → AreKeyed key (node_entries (entry_list key) map_node)
  of_entries map_node = node_keyed (entry_list key) (λ thing. (refl, tt)) map_node

  repr_keyed : (repr : Repr A) → AreKeyed key (repr_entries key repr)
  repr_keyed Empty = tt
  repr_keyed (Leaf leaf) = of_entries (arc_value leaf)
  repr_keyed (Tree whole) =
      node_keyed (node_entries (node_entries (node_entries (node_entries (entry_list key))))) (node_keyed (node_entries (node_entries (node_entries (entry_list key)))) (node_keyed (node_entries (node_entries (entry_list key))) (node_keyed (node_entries (entry_list key)) of_entries))) (arc_value whole)

  -- a map's are
  pub entries_keyed : (shared : SharedMap A) → AreKeyed key (entries key shared)
  entries_keyed shared = repr_keyed shared.repr
