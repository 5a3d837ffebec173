-- What is kept beside the entries of a map: names, counts and weights of its children.
use Rattle.std.specs.Prelude.{◌≡◌, ℕ, ◌+◌, ◌<◌, min, List, [], ◌∷◌, ◌++◌, length, map, take, sum_by, slice_index_or, true, false}
use Rattle.std.below.core.specs.declared.int.u64.TheConstants.{MAX}
use Rattle.std.specs.Arc.{arc_value}
use Rattle.std.specs.Ordering.{is_lt}
use Rattle.reg_names.specs.Names.{folded}
use Rattle.std.specs.declared.sync.Arc.{Arc}
use Rattle.std.specs.declared.alloc.Global.{Global}
use Rattle.persistent_map.specs.declared.map_node.MapNode.{MapNode}
use Rattle.persistent_map.specs.declared.map.Repr.{Repr}
use Rattle.persistent_map.specs.declared.map.Repr.TheVariants.{Empty, Leaf, Tree}
use Rattle.persistent_map.specs.declared.map.SharedMap.{SharedMap}
use Rattle.persistent_map.specs.Orders.{name_order}
use Rattle.persistent_map.specs.Listings.{entry_list, children_entries, node_entries}

-- the weight of entries together
abbrev pub total_weight : {A : Type 0} → (A → ℕ) → List (List ℕ × A) → ℕ
total_weight entry_weight es = sum_by (λ e. entry_weight e.1) es

-- the first of these entries has this name
abbrev pub StartsAt : {A : Type 0} → List ℕ → List (List ℕ × A) → Type 0
StartsAt name [] = ⊥
StartsAt name (e ∷ es) = e.0 ≡ name

-- a kind of children: what an entry weighs, what a child lists, and what is said of that: the name that it begins at,
-- how many entries it has, their weight up to the greatest number of 64 bits; and whether all that is kept within it is
-- so
pub record ChildKind (A P : Type 0) : Type 1 where
  pub entry_weight : A → ℕ
  pub list : P → List (List ℕ × A)
  pub first : P → List ℕ
  pub count : P → ℕ
  pub weight : P → ℕ
  pub Fits : P → Type 0

-- what is said of a child is so
pub record IsChild {A P : Type 0} (kind : ChildKind A P) (child : P) : Type 0 where
  pub first : StartsAt (kind.first child) (kind.list child)
  pub count : kind.count child ≡ length (kind.list child)
  pub weighs : kind.weight child ≡ min (total_weight kind.entry_weight (kind.list child)) MAX
  pub fits : kind.Fits child

-- of each of these
abbrev pub EachIsChild : {A P : Type 0} → ChildKind A P → List P → Type 0
EachIsChild kind [] = Unit {0}
EachIsChild kind (child ∷ children) = IsChild kind child × EachIsChild kind children

abbrev pub AreChildren : {A P : Type 0} → ChildKind A P → List (Arc P Global) → Type 0
AreChildren kind children = EachIsChild kind (map arc_value children)

-- children of these entries were added to those that were there
abbrev pub IsMore : {A P : Type 0} → ChildKind A P → List (List ℕ × A) → List (Arc P Global) → List (Arc P Global) → Type 0
IsMore {P = P} kind es old new = (more : List (Arc P Global)) × ((new ≡ old ++ more) × ((children_entries kind.list more ≡ es) × AreChildren kind more))

-- entries, which are children by themselves
abbrev pub entry_kind : {A : Type 0} → (A → List ℕ) → (A → ℕ) → ChildKind A A
entry_kind key entry_weight = record {
  entry_weight = entry_weight;
  list = entry_list key;
  first = key;
  count = λ thing. 1;
  weight = λ thing. min (entry_weight thing) MAX;
  Fits = λ thing. Unit {0};
}

-- nodes of children
abbrev pub node_kind : {A P : Type 0} → ChildKind A P → ChildKind A (MapNode P)
node_kind kind = record {
  entry_weight = kind.entry_weight;
  list = node_entries kind.list;
  first = λ map_node. folded map_node.first;
  count = λ map_node. map_node.count;
  weight = λ map_node. map_node.weight;
  Fits = λ map_node. AreChildren kind map_node.children.items;
}

-- the children of the top node of a map of five levels
abbrev pub level_4_kind : {A : Type 0} → (A → List ℕ) → (A → ℕ) → ChildKind A (MapNode (MapNode (MapNode (MapNode A))))
level_4_kind key entry_weight = node_kind (node_kind (node_kind (node_kind (entry_kind key entry_weight))))

abbrev pub FitsRepr : {A : Type 0} → (A → List ℕ) → (A → ℕ) → Repr A → Type 0
FitsRepr key entry_weight Empty = Unit {0}
FitsRepr key entry_weight (Leaf leaf) = IsChild (node_kind (entry_kind key entry_weight)) (arc_value leaf)
FitsRepr key entry_weight (Tree whole) = IsChild (node_kind (level_4_kind key entry_weight)) (arc_value whole)

-- what is kept in a map is what its entries say
abbrev pub FitsMap : {A : Type 0} → (A → List ℕ) → (A → ℕ) → SharedMap A → Type 0
FitsMap key entry_weight shared = FitsRepr key entry_weight shared.repr

-- the child at index i is the one in which a name belongs: the last that begins at it or below, or the first of all
pub record IsChildIndex {P : Type 0} (first : P → List ℕ) (children : List (Arc P Global)) (name : List ℕ) (i : ℕ) : Type 0 where
  pub in_range : i < length children
  pub reached : (d : Arc P Global) → 0 < i → is_lt (name_order name (first (arc_value (slice_index_or children i d)))) ≡ false
  pub before_next : (d : Arc P Global) → i + 1 < length children → is_lt (name_order name (first (arc_value (slice_index_or children (i + 1) d)))) ≡ true

-- the entry at an index of children is at index j of child i
pub record IsNth {P : Type 0} (count : P → ℕ) (children : List (Arc P Global)) (index i j : ℕ) : Type 0 where
  pub in_range : i < length children
  pub before : sum_by count (map arc_value (take i children)) + j ≡ index
  pub within : (d : Arc P Global) → j < count (arc_value (slice_index_or children i d))
