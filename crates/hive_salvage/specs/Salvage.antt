-- What is found of a damaged hive's keys.
use Rattle.std.specs.Prelude.{◌≡◌, ◌≢◌, ◌⊎◌, ℕ, zero, suc, ◌+◌, ◌-◌, ◌*◌, nat_lt, Bool, true, false, ◌&&◌, List, [], ◌∷◌, ◌++◌, length, Option, Some, Ok, Err, IsOk, slice_get}
use Rattle.std.specs.List.Sorted.{IsPermutation}
use Rattle.std.specs.Ordering.{eq_by_cmp}
use Rattle.refusals.specs.declared.refusal.Refusal.{Refusal}
use Rattle.refusals.specs.declared.refusal.Refusal.TheVariants as refusal
use Rattle.refusals.specs.declared.refusal.Cause.TheVariants as cause
use Rattle.refusals.specs.declared.limits.TheConstants.{MOST_PATH_NAMES}
use Rattle.reg_names.specs.Names.{name_cmp}
use Rattle.reg_tree_parts.specs.Rows.{Row}
use Rattle.hive_cells.specs.Tiles.{u32_at}
use Rattle.hive_cells.specs.Bins.{Cells}
use Rattle.hive_tree_model.specs.Loads.{CellMarks}
use Rattle.hive_records.specs.Readers.{look}
use Rattle.hive_records.specs.Follows.{Follows}
use Rattle.hive_records.specs.Heads.{hive_damage, IsKeyNode}
use Rattle.hive_records.specs.KeyNodes.{class_at, descriptor_at}
use Rattle.hive_records.specs.RecordReaders.{units_of}
use Rattle.hive_records.specs.declared.key_node.KeyNode.{KeyNode}
use Rattle.hive_records.specs.declared.list_record.SubkeyList.{SubkeyList}
use Rattle.hive_lookup.specs.declared.list_kind.ListKind.TheVariants.{Subkeys}
use Rattle.hive_lookup.specs.Records.{record_at}
use Rattle.hive_salvage.specs.declared.loss.Part.TheVariants as part
use Rattle.hive_salvage.specs.declared.siblings.Sibling.{Sibling}
use Rattle.hive_salvage.specs.Events.{Event, found, lost, loss_of, Steps}
use Rattle.hive_salvage.specs.Readings.{KeptOrLost, ListedValues, ListIs, ListFails, NodeIs, NodeFails}

-- ---- subkeys of one key, by its lists

-- cells that are taken, and the subkeys so far
abbrev pub SiblingsSoFar : Type 0
SiblingsSoFar = CellMarks × List Sibling

-- the subkey at an offset is one more, or its loss is told
abbrev pub SubkeyIs : Cells → List (List ℕ) → ℕ → ℕ → ℕ → SiblingsSoFar → SiblingsSoFar → List Event → Type 0
SubkeyIs cells names leaf place at old new told =
    ((name : List ℕ) × NodeIs cells at old.0 new.0 name × (new.1 ≡ old.1 ++ record { name = name; at = at; leaf = leaf; place = place } ∷ []) × (told ≡ []))
    ⊎ ((why : Refusal) × NodeFails cells at old.0 why × (new.1 ≡ old.1) × (told ≡ lost names (loss_of (part.Subkey leaf place) at why) ∷ []))

-- so is each that a list names, one after another
abbrev pub ListNames : Cells → List (List ℕ) → ℕ → SubkeyList → ℕ → SiblingsSoFar → SiblingsSoFar → List Event → Type 0
ListNames cells names leaf list count old new told =
    Steps (λ place. SubkeyIs cells names leaf place (u32_at list.elements.now (list.stride * place))) count old new told

-- the same, and how many were listed so far
abbrev pub ListedSoFar : Type 0
ListedSoFar = SiblingsSoFar × ℕ

-- a list that was read, which stands at a place of a list of lists, is gone through; or it is one of lists, and this is told
abbrev pub ReadLeafIs : Cells → List (List ℕ) → ℕ → ℕ → SubkeyList → ListedSoFar → ListedSoFar → List Event → Type 0
ReadLeafIs cells names leaf at list old new told =
    ((list.is_indirect ≡ false) × ListNames cells names leaf list list.count old.0 new.0 told × (new.1 ≡ old.1 + list.count))
    ⊎ ((list.is_indirect ≡ true) × (new ≡ old) × (told ≡ lost names (loss_of (part.Leaf leaf) at (hive_damage cause.BadList)) ∷ []))

-- the list at an offset, which stands at a place of a list of lists, is read; or its loss is told
abbrev pub LeafIs : Cells → List (List ℕ) → ℕ → ℕ → ListedSoFar → ListedSoFar → List Event → Type 0
LeafIs cells names leaf at old new told =
    ((list : SubkeyList) × (mid : CellMarks) × ListIs cells at old.0.0 mid list × ReadLeafIs cells names leaf at list ((mid, old.0.1), old.1) new told)
    ⊎ ((why : Refusal) × ListFails cells at old.0.0 why × (new.0.1 ≡ old.0.1) × (new.1 ≡ old.1) × (told ≡ lost names (loss_of (part.Leaf leaf) at why) ∷ []))

-- so is each list that a list of lists names
abbrev pub LeavesAre : Cells → List (List ℕ) → SubkeyList → ℕ → ListedSoFar → ListedSoFar → List Event → Type 0
LeavesAre cells names list count old new told =
    Steps (λ leaf. LeafIs cells names leaf (u32_at list.elements.now (list.stride * leaf))) count old new told

-- what a list that was read leads to
abbrev pub FromList : Cells → List (List ℕ) → SubkeyList → CellMarks → ListedSoFar → List Event → Type 0
FromList cells names list old new told =
    ((list.is_indirect ≡ false) × ListNames cells names 0 list list.count (old, []) new.0 told × (new.1 ≡ list.count))
    ⊎ ((list.is_indirect ≡ true) × LeavesAre cells names list list.count ((old, []), 0) new told)

-- lists that name another number than the key says are told
abbrev pub CountIs : List (List ℕ) → ℕ → ℕ → ℕ → List Event → Type 0
CountIs names count at listed told =
    ((listed ≡ count) × (told ≡ []))
    ⊎ ((listed ≢ count) × (told ≡ lost names (loss_of part.SubkeyCount at (hive_damage cause.BadList)) ∷ []))

-- the subkeys of a key that says how many they are and where their list is
abbrev pub SubkeysAre : Cells → List (List ℕ) → ℕ → ℕ → CellMarks → SiblingsSoFar → List Event → Type 0
SubkeysAre cells names count at old new told =
    ((count ≡ 0) × (new ≡ (old, [])) × (told ≡ []))
    ⊎ (((why : Refusal) × (count ≢ 0) × ListFails cells at old why × (new.1 ≡ []) × (told ≡ lost names (loss_of part.SubkeyList at why) ∷ []))
    ⊎ ((list : SubkeyList) × (mid : CellMarks) × (listed : ℕ) × (first : List Event) × (rest : List Event) × (count ≢ 0) × ListIs cells at old mid list
    × FromList cells names list mid (new, listed) first × CountIs names count at listed rest × (told ≡ first ++ rest)))

-- ---- one key

-- what is the key's own, by its node: a row of what was read, and a loss for each part that wasn't
abbrev pub OwnIs : Bool → Cells → List (List ℕ) → KeyNode → CellMarks → CellMarks → Row → List Event → Type 0
OwnIs split cells names node old new row told =
    (mid : CellMarks) × (class : List Event) × (descriptor : List Event) × (values : List Event)
    × KeptOrLost (class_at node.class_len node.class) [] (λ why. lost names (loss_of part.Class node.class why)) cells old mid row.class class
    × KeptOrLost (descriptor_at node.security) [] (λ why. lost names (loss_of part.Descriptor node.security why)) cells mid mid row.descriptor descriptor
    × ListedValues split cells names node.value_count node.values mid (new, row.values) values
    × (row.name ≡ units_of node.name) × (row.flags ≡ node.flags) × (row.time ≡ node.time)
    × (told ≡ class ++ (descriptor ++ values))

-- its own losses, and the key with the names that lead to it
abbrev pub RowIs : Bool → Cells → List (List ℕ) → KeyNode → CellMarks → CellMarks → List Event → Type 0
RowIs split cells names node old new told = (row : Row) × (own : List Event) × OwnIs split cells names node old new row own × (told ≡ own ++ found (names, row) ∷ [])

-- the key of a node, and its subkeys by its lists
abbrev pub TakenKey : Bool → Cells → List (List ℕ) → KeyNode → CellMarks → SiblingsSoFar → List Event → Type 0
TakenKey split cells names node old new told =
    (mid : CellMarks) × (own : List Event) × (subkeys : List Event)
    × RowIs split cells names node old mid own × SubkeysAre cells names node.subkey_count node.subkeys mid new subkeys × (told ≡ own ++ subkeys)

-- ---- keys below one another

-- what is said of a subkey by its node, to whose parent names lead
abbrev pub Deeper : Type 1
Deeper = List (List ℕ) → Sibling → KeyNode → CellMarks → CellMarks → List Event → Type 0

-- two subkeys have one name, in any case of its letters
abbrev pub have_one_name : Option Sibling → Option Sibling → Bool
have_one_name (Some one) (Some other) = eq_by_cmp name_cmp one.name other.name
have_one_name one other = false

-- the subkey at a place has the name of the one before it
abbrev pub is_repeated : List Sibling → ℕ → Bool
is_repeated siblings place = nat_lt 0 place && have_one_name (slice_get siblings (place - 1)) (slice_get siblings place)

-- the loss of a subkey
abbrev pub sibling_lost : List (List ℕ) → Sibling → Refusal → Event
sibling_lost names sibling why = lost names (loss_of (part.Subkey sibling.leaf sibling.place) sibling.at why)

-- A subkey in its turn. If it has the name of the one before it, or isn't read, this is told. Else it is gone through.
abbrev pub InTurn : Cells → Deeper → List (List ℕ) → List Sibling → ℕ → CellMarks → CellMarks → List Event → Type 0
InTurn cells below names siblings place old new told = (sibling : Sibling) × (slice_get siblings place ≡ Some sibling)
    × (((is_repeated siblings place ≡ true) × (new ≡ old) × (told ≡ sibling_lost names sibling (hive_damage cause.BadName) ∷ []))
    ⊎ (((why : Refusal) × (record_at Subkeys cells sibling.at ≡ Err why) × (new ≡ old) × (told ≡ sibling_lost names sibling why ∷ []))
    ⊎ ((bytes : List ℕ) × (node : KeyNode) × (is_repeated siblings place ≡ false) × (record_at Subkeys cells sibling.at ≡ Ok bytes) × IsKeyNode node bytes × below names sibling node old new told)))

-- the key of a node and all below it, by what is said of keys one level deeper. Siblings come in another order than in lists
abbrev pub KeyWith : Deeper → Bool → Cells → List (List ℕ) → KeyNode → CellMarks → CellMarks → List Event → Type 0
KeyWith below split cells names node old new told =
    (mid : CellMarks) × (listed : List Sibling) × (siblings : List Sibling) × (own : List Event) × (rest : List Event)
    × TakenKey split cells names node old (mid, listed) own × IsPermutation listed siblings
    × Steps (InTurn cells below names siblings) (length siblings) mid new rest × (told ≡ own ++ rest)

-- a key that lies too deep is told
abbrev pub TooDeep : Deeper
TooDeep names sibling node old new told = (new ≡ old) × (told ≡ sibling_lost names sibling refusal.TooLarge ∷ [])

-- the key of a node with all keys below it, down to a number of levels
abbrev pub KeyIs : Bool → Cells → ℕ → List (List ℕ) → KeyNode → CellMarks → CellMarks → List Event → Type 0
KeyIs split cells zero names node old new told = KeyWith TooDeep split cells names node old new told
KeyIs split cells (suc levels) names node old new told = KeyWith (λ way sibling its. KeyIs split cells levels (way ++ sibling.name ∷ []) its) split cells names node old new told

-- what is said of the subkeys of such a key
abbrev pub DeeperThan : Bool → Cells → ℕ → Deeper
DeeperThan split cells zero = TooDeep
DeeperThan split cells (suc levels) = λ way sibling its. KeyIs split cells levels (way ++ sibling.name ∷ []) its

-- ---- a whole image

-- no security cell is another record too, or this is told
abbrev pub EndIs : Cells → ℕ → CellMarks → List Event → Type 0
EndIs cells root marks told =
    (told ≡ [])
    ⊎ ((cell : ℕ) × (marks cell ≡ true) × IsOk (descriptor_at cell cells).says × (told ≡ lost [] (loss_of part.Security root (hive_damage cause.Shared)) ∷ []))

-- all that is told of the keys from a root on, if no cell is taken yet
abbrev pub SalvageIs : Bool → Cells → ℕ → List Event → Type 0
SalvageIs split cells root told =
    (old : CellMarks) × (mid : CellMarks) × (new : CellMarks) × (bytes : List ℕ) × (its_data : List ℕ) × (node : KeyNode) × (keys : List Event) × (rest : List Event)
    × ((cell : ℕ) → old cell ≡ false) × Follows (look root) cells old mid (Ok its_data)
    × (record_at Subkeys cells root ≡ Ok bytes) × IsKeyNode node bytes
    × KeyIs split cells MOST_PATH_NAMES [] node mid new keys × EndIs cells root new rest × (told ≡ keys ++ rest)
