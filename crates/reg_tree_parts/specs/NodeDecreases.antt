-- A node has more entries than each subkey.
use Rattle.std.specs.Prelude.{ℕ, ◌+◌, ◌≤◌, List, [], ◌∷◌, length}
use Rattle.std.proofs.Common.{◌≡◌, suc, refl, ap, arith, length-append}
use denote.Param.Weighed.{most}
use Rattle.std.specs.declared.sync.Arc.{Arc}
use Rattle.std.specs.declared.alloc.Global.{Global}
use Rattle.std.specs.Arc.{arc_value}
use Rattle.persistent_map.specs.declared.map_node.MapNode.{MapNode}
use Rattle.persistent_map.specs.declared.map.Repr.{Repr}
use Rattle.persistent_map.specs.declared.map.Repr.TheVariants.{Empty, Leaf, Tree}
use Rattle.persistent_map.specs.Listings.{repr_entries, entry_list, node_entries}
use Rattle.persistent_map.specs.ListingDecreases.{capped, capped_node, most_children}
use Rattle.reg_tree_parts.specs.Rows.{Row}
use Rattle.reg_tree_parts.specs.Nodes.{Entries, below, all_below, root_name}
use Rattle.reg_tree_parts.specs.declared.node.Node.TheDeep.{deep-Node}
use Rattle.reg_tree_parts.specs.declared.node.Node.TheInside.{Inside}

length-below : (name : List ℕ) (entries : Entries) → length (below name entries) ≡ length entries
length-below name [] = refl
length-below name (e ∷ es) = ap suc (length-below name es)

-- the measure of a subkey under its name
abbrev measure : List ℕ × Entries → ℕ
measure e = length e.1 + 1

most_below : (subkeys : List (List ℕ × Entries)) → most measure subkeys ≤ length (all_below subkeys) + 1
most_below [] = omega arith
most_below (k ∷ ks) = omega (arith, most_below ks, length-append (below k.0 k.1) (all_below ks), length-below k.0 k.1)

-- the measure of what a node of subkeys has
map_node_decreases : (map_node : MapNode Entries) → most (λ (x : Arc Entries Global). length (arc_value x) + 1) map_node.children.items ≤ most measure (node_entries (entry_list root_name) map_node)
map_node_decreases map_node = most_children measure _ (entry_list root_name) (λ x. omega arith) map_node.children.items

repr_decreases : (key : Row) (repr : Repr Entries) (weight : ℕ) → deep-Node (record { weight = weight; key = key; subkeys = record { repr = repr } }) ≤ most measure (repr_entries root_name repr)
repr_decreases key Empty weight = omega arith
repr_decreases key (Leaf few) weight = capped (capped (capped (capped_node (map_node_decreases (arc_value few)))))
repr_decreases key (Tree whole) weight =
    capped (capped (capped (capped_node (most_children measure _ (node_entries (node_entries (node_entries (node_entries (entry_list root_name)))))
    (λ m. capped_node (most_children measure _ (node_entries (node_entries (node_entries (entry_list root_name))))
    (λ n. capped_node (most_children measure _ (node_entries (node_entries (entry_list root_name)))
    (λ o. capped_node (most_children measure _ (node_entries (entry_list root_name)) (λ p. capped_node (map_node_decreases (arc_value p))) (arc_value o).children.items))
    (arc_value n).children.items))
    (arc_value m).children.items))
    (arc_value whole).children.items))))

-- no subkey has more entries than the node
pub node_decreases : (node : Inside) → deep-Node node ≤ suc (length (all_below (repr_entries root_name node.subkeys.repr)))
node_decreases node = omega (arith, repr_decreases node.key node.subkeys.repr node.weight, most_below (repr_entries root_name node.subkeys.repr))
