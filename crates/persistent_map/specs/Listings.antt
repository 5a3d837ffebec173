-- What a map lists: entries, each a folded name and what has it.
use Rattle.std.specs.Prelude.{ℕ, List, [], ◌∷◌, ◌++◌, map}
use Rattle.std.specs.declared.sync.Arc.{Arc}
use Rattle.std.specs.declared.alloc.Global.{Global}
use Rattle.std.specs.Arc.{arc_value}
use Rattle.persistent_map.specs.declared.map_node.MapNode.{MapNode}
use Rattle.persistent_map.specs.declared.map.Repr.{Repr}
use Rattle.persistent_map.specs.declared.map.Repr.TheVariants.{Empty, Leaf, Tree}
use Rattle.persistent_map.specs.declared.map.SharedMap.{SharedMap}

-- an entry: a shared thing under its folded name
abbrev pub keyed : {A : Type 0} → (A → List ℕ) → Arc A Global → List ℕ × A
keyed key shared = (key (arc_value shared), arc_value shared)

-- the entries of a list of shared things
abbrev pub keyed_all : {A : Type 0} → (A → List ℕ) → List (Arc A Global) → List (List ℕ × A)
keyed_all key items = map (keyed key) items

-- the entries of one thing
abbrev pub entry_list : {A : Type 0} → (A → List ℕ) → A → List (List ℕ × A)
entry_list key thing = (key thing, thing) ∷ []

-- the entries of children, one after the other
abbrev pub entries_in : {E P : Type 0} → (P → List E) → List P → List E
entries_in list [] = []
entries_in list (child ∷ children) = list child ++ entries_in list children

-- the entries of shared children
abbrev pub children_entries : {E P : Type 0} → (P → List E) → List (Arc P Global) → List E
children_entries list children = entries_in list (map arc_value children)

-- the entries of a node of children
abbrev pub node_entries : {E P : Type 0} → (P → List E) → MapNode P → List E
node_entries list map_node = children_entries list map_node.children.items

-- the entries of a child of the top node of a map of five levels
abbrev pub level_4_entries : {A : Type 0} → (A → List ℕ) → MapNode (MapNode (MapNode (MapNode A))) → List (List ℕ × A)
level_4_entries key = node_entries (node_entries (node_entries (node_entries (entry_list key))))

-- the entries of a map's representation
abbrev pub repr_entries : {A : Type 0} → (A → List ℕ) → Repr A → List (List ℕ × A)
repr_entries key Empty = []
repr_entries key (Leaf leaf) = node_entries (entry_list key) (arc_value leaf)
repr_entries key (Tree whole) = node_entries (level_4_entries key) (arc_value whole)

-- the entries of a map, by the names of what it lists
abbrev pub entries : {A : Type 0} → (A → List ℕ) → SharedMap A → List (List ℕ × A)
entries key shared = repr_entries key shared.repr
