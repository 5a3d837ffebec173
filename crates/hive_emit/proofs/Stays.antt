-- What is written stays if the cells stay that it lies in.
use Rattle.std.proofs.Common.{◌≡◌, inl, inr, ℕ, Bool, true, List, [], ◌∷◌, ◌++◌, map, flat_map, refl, sym, ◌∙◌, subst}
use Rattle.std.specs.List.{AllByRecursion}
use Rattle.std.proofs.lemmas.List.Concat.{flat_map-cons}
use Rattle.reg_tree_parts.specs.Rows.{ValueMap}
use Rattle.hive_cells.specs.Bins.{Cells}
use Rattle.hive_tree_model.specs.Lists.{IsIn}
use Rattle.hive_tree_model.proofs.Basics.{in_front, in_back}
use Rattle.hive_records.specs.Fields.{CellHolds}
use Rattle.hive_records.specs.BigDataEncodings.{Segment, big_data_bytes, segment_offsets}
use Rattle.hive_records.specs.ListEncodings.{Subkey, offsets_bytes, indirect}
use Rattle.hive_records.specs.ValueEncodings.{small_value, large_value}
use Rattle.hive_records.specs.KeyEncodings.{ValueCells}
use Rattle.hive_records.specs.Wholes.{IsWritten}
use Rattle.hive_emit.specs.Values.{IsSegment, IsValue, value_own, AreListedValues}
use Rattle.hive_emit.specs.KeyLists.{leaf_bytes, SubkeyLeaf, leaf_offsets, IsLeaf, IsListed}

pub holds_stays : (old new : Cells) (at : ℕ) (encoding : List ℕ) → new at ≡ old at → CellHolds old at encoding → CellHolds new at encoding
holds_stays old new at encoding e h = (h.0, e ∙ h.1)

-- lists of subkeys
leaf_stays : (plain : Bool) (old new : Cells) (l : SubkeyLeaf) → new l.at ≡ old l.at → IsLeaf plain old l → IsLeaf plain new l
leaf_stays plain old new l e is = record { some = is.some; most = is.most; held = holds_stays old new l.at (leaf_bytes plain l.subkey_list) e is.held }

leaves_stay : (plain : Bool) (old new : Cells) (leaves : List SubkeyLeaf) → ((cell : ℕ) → IsIn cell (leaf_offsets leaves) → new cell ≡ old cell) → AllByRecursion (IsLeaf plain old) leaves → AllByRecursion (IsLeaf plain new) leaves
leaves_stay plain old new [] stay h = tt
leaves_stay plain old new (l ∷ leaves) stay h = (leaf_stays plain old new l (stay l.at (inl refl)) h.0, leaves_stay plain old new leaves (λ cell i. stay cell (inr i)) h.1)

pub listed_stays : (list : ℕ) (plain : Bool) (subkey_list : List Subkey) (own : List ℕ) (old new : Cells) → ((cell : ℕ) → IsIn cell own → new cell ≡ old cell) → IsListed list plain subkey_list own old → IsListed list plain subkey_list own new
listed_stays list plain subkey_list own old new stay (inl h) = inl h
listed_stays list plain subkey_list own old new stay (inr (inl h)) =
    let here : new list ≡ old list = stay list (subst (λ (o : List ℕ). IsIn list o) (sym h.its_own) (inl refl)) in
    inr (inl (record { is = leaf_stays plain old new (record { at = list; subkey_list = subkey_list }) here h.is; its_own = h.its_own }))
listed_stays list plain subkey_list own old new stay (inr (inr h)) =
    let here : (cell : ℕ) → IsIn cell (list ∷ leaf_offsets h.leaves) → new cell ≡ old cell = λ cell i. stay cell (subst (λ (o : List ℕ). IsIn cell o) (sym h.its_own) i) in
    inr (inr (record {
      many = h.many;
      leaves = h.leaves;
      its = h.its;
      each = leaves_stay plain old new h.leaves (λ cell i. here cell (inr i)) h.each;
      held = holds_stays old new list (indirect (leaf_offsets h.leaves)) (here list (inl refl)) h.held;
      its_own = h.its_own;
      count = h.count;
      near = h.near;
    }))

-- values, if each cell that they lie in has the data that it had
segments_hold : (old new : Cells) (segments : List Segment) → ((cell : ℕ) (encoding : List ℕ) → IsIn cell (segment_offsets segments) → CellHolds old cell encoding → CellHolds new cell encoding) → AllByRecursion (IsSegment old) segments → AllByRecursion (IsSegment new) segments
segments_hold old new [] keeps h = tt
segments_hold old new (s ∷ segments) keeps h = (keeps s.at s.encoding (inl refl) h.0, segments_hold old new segments (λ cell encoding i. keeps cell encoding (inr i)) h.1)

pub written_holds : (old new : Cells) (v : ValueCells) → ((cell : ℕ) (encoding : List ℕ) → IsIn cell v.own → CellHolds old cell encoding → CellHolds new cell encoding) → IsWritten true old v → IsWritten true new v
written_holds old new v keeps (fits, inl s) =
    let here : (encoding : List ℕ) → CellHolds old v.at encoding → CellHolds new v.at encoding = λ encoding. keeps v.at encoding (subst (λ (o : List ℕ). IsIn v.at o) (sym s.own) (inl refl)) in
    (fits, inl (record { few = s.few; own = s.own; encoding = here (small_value v.value) s.encoding }))
written_holds old new v keeps (fits, inr (inl s)) =
    let here : (cell : ℕ) (encoding : List ℕ) → IsIn cell (v.at ∷ s.to ∷ []) → CellHolds old cell encoding → CellHolds new cell encoding = λ cell encoding i. keeps cell encoding (subst (λ (o : List ℕ). IsIn cell o) (sym s.own) i) in
    (fits, inr (inl (record { to = s.to; near = s.near; some = s.some; few = s.few; one = s.one; own = s.own; encoding = here v.at (large_value v.value s.to) (inl refl) s.encoding; its = here s.to v.value.«data» (inr (inl refl)) s.its })))
written_holds old new v keeps (fits, inr (inr s)) =
    let here : (cell : ℕ) (encoding : List ℕ) → IsIn cell (v.at ∷ s.to ∷ s.list ∷ segment_offsets s.segments) → CellHolds old cell encoding → CellHolds new cell encoding
    = λ cell encoding i. keeps cell encoding (subst (λ (o : List ℕ). IsIn cell o) (sym s.own) i) in (
      fits,
      inr (inr (record {
        splits = s.splits;
        to = s.to;
        list = s.list;
        segments = s.segments;
        near = s.near;
        near_list = s.near_list;
        many = s.many;
        few = s.few;
        its = s.its;
        full = s.full;
        count = s.count;
        are = s.are;
        own = s.own;
        encoding = here v.at (large_value v.value s.to) (inl refl) s.encoding;
        leads = here s.to (big_data_bytes s.segments s.list) (inr (inl refl)) s.leads;
        listing = here s.list (offsets_bytes (segment_offsets s.segments)) (inr (inr (inl refl))) s.listing;
        held = segments_hold old new s.segments (λ cell encoding i. here cell encoding (inr (inr (inr i)))) s.held;
      })),
    )

all_written_stay : (old new : Cells) (vs : List ValueCells) → ((cell : ℕ) → IsIn cell (flat_map value_own vs) → new cell ≡ old cell) → AllByRecursion (IsValue old) vs → AllByRecursion (IsValue new) vs
all_written_stay old new [] stay h = tt
all_written_stay old new (v ∷ vs) stay h =
    let here : (cell : ℕ) → IsIn cell (v.own ++ flat_map value_own vs) → new cell ≡ old cell = λ cell i. stay cell (subst (λ (o : List ℕ). IsIn cell o) (sym (flat_map-cons value_own v vs)) i) in
    (written_holds old new v (λ cell encoding i. holds_stays old new cell encoding (here cell (in_front cell v.own (flat_map value_own vs) i))) h.0, all_written_stay old new vs (λ cell i. here cell (in_back cell v.own (flat_map value_own vs) i)) h.1)

pub values_stay : (list : ℕ) (values : ValueMap) (own : List ℕ) (old new : Cells) → ((cell : ℕ) → IsIn cell own → new cell ≡ old cell) → AreListedValues list values own old → AreListedValues list values own new
values_stay list values own old new stay (inl h) = inl h
values_stay list values own old new stay (inr h) =
    let here : (cell : ℕ) → IsIn cell (list ∷ flat_map value_own h.written) → new cell ≡ old cell = λ cell i. stay cell (subst (λ (o : List ℕ). IsIn cell o) (sym h.its_own) i) in
    inr (record {
      written = h.written;
      its = h.its;
      each = all_written_stay old new h.written (λ cell i. here cell (inr i)) h.each;
      held = holds_stays old new list (offsets_bytes (map (λ (v : ValueCells). v.at) h.written)) (here list (inl refl)) h.held;
      its_own = h.its_own;
    })
