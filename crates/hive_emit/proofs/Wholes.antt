-- A tree that a hive file can encode, within the weight, can be put; and what was put encodes it.
use Rattle.std.proofs.Common.{◌≡◌, ◌≢◌, inl, inr, ℕ, ◌+◌, ◌*◌, ◌/◌, ◌%◌, ◌<◌, ◌≤◌, ◌^◌, Bool, true, false, cond, eqb, ne_eqb, ◌||◌, T, List, [], ◌∷◌, length, map, sum_by, refl, sym, ◌∙◌, ap, subst, arith, Some, None, le-leb}
use Rattle.std.specs.Prelude.{bit_and}
use Rattle.std.specs.List.{AllByRecursion, list_any}
use Rattle.std.specs.FinMap as finite
use Rattle.std.specs.FinMap.{get-from_sorted, entries_sorted, entries-from_sorted, same_entries_map, len-entries}
use Rattle.std.specs.FinMap.Entries.{find, is_sorted, below_all}
use Rattle.std.specs.Ordering.{eq_by_cmp, is_eq, is_lt}
use Rattle.std.specs.Cmp.{tied_itself}
use Rattle.std.specs.declared.cmp.Ordering.{Ordering}
use Rattle.std.specs.declared.cmp.Ordering.TheVariants.{Less, Equal}
use Rattle.std.proofs.lemmas.Nat.Bits.{and_high}
use Rattle.std.proofs.lemmas.List.{length-map}
use Rattle.std.proofs.lemmas.List.Sums.{sum_by-cons}
use Rattle.refusals.specs.declared.limits.TheConstants.{MOST_WEIGHT}
use Rattle.reg_names.specs.Names.{folded}
use Rattle.reg_tree_parts.specs.declared.value.Value.{Value}
use Rattle.reg_tree_parts.specs.Orders.{name_order, path_order}
use Rattle.reg_tree_parts.specs.Weights.{value_weight}
use Rattle.reg_tree_parts.specs.Rows.{Row, ValueMap, row_weight}
use Rattle.reg_tree_parts.specs.Nodes.{Entries, entries_weight, IsNode}
use Rattle.reg_tree_parts.proofs.Finds.{equal_of}
use Rattle.reg_tree_parts.proofs.Keys.{names_total, names_apart, paths_total, paths_apart}
use Rattle.reg_tree_parts.proofs.SortedLists.{front_of, back_of, less_of}
use Rattle.reg_tree.specs.Maps.{TreeMap, weight}
use Rattle.reg_tree.specs.Encodable.{IsEncodable, IsEncodableAt, IsEncodableRow, IsEncodableValue, stored_len}
use Rattle.hive_tree_model.proofs.Basics.{decided}
use Rattle.hive_records.specs.NameEncodings.{is_latin, name_bytes}
use Rattle.hive_emit.specs.Values.{CanPut, CanPutAll}
use Rattle.hive_cells.specs.Tiles.{Tiles}
use Rattle.hive_cells.specs.Bins.{Cells, Shows}
use Rattle.hive_tree_model.specs.Encodings.{CellsEncodeTree}
use Rattle.hive_records.specs.Numbers.{nil_offset}
use Rattle.hive_records.specs.Images.{splits, BinsEncodeTree}
use Rattle.hive_records.specs.KeyNodes.{keys_in}
use Rattle.hive_records.proofs.NodesOf.{tree_of_node}
use Rattle.hive_emit.specs.CellWrites.{Makes}
use Rattle.hive_emit.proofs.Makings.{made_then, some_not}
use Rattle.hive_emit.specs.declared.security.SecurityEntry.{SecurityEntry}
use Rattle.hive_emit.specs.EmittedKeys.{CanPutKey, CanPutKeys, SecuritiesAreWritten, KeepsSecurityCells, KeyAt, PutsKey}
use Rattle.hive_emit.proofs.Owns.{record_long}
use Rattle.hive_emit.proofs.KeyProofs.{held_there}

-- what holds of all that is found holds of all entries
module _ {K X : Type 0} (R : K → K → Ordering) (tie : (k : K) → R k k ≡ Equal) (apart : (j k : K) → R j k ≡ Equal → j ≡ k) where
  none_below : (k : K) (es : List (K × X)) → T (below_all R k es) → find R k es ≡ None
  none_below k [] h = refl
  none_below k (e ∷ es) h =
      let less : R k e.0 ≡ Less = less_of (R k e.0) (front_of (is_lt (R k e.0)) (below_all R k es) h) in
      ap (λ o. cond (is_eq o) (Some e.1) (find R k es)) less ∙ none_below k es (back_of (is_lt (R k e.0)) (below_all R k es) h)

  found_behind : (k : K) (x : X) (e : K × X) (es : List (K × X)) → T (below_all R e.0 es) → find R k es ≡ Some x → find R k (e ∷ es) ≡ Some x
  found_behind k x e es h found = elim (decided (eq_by_cmp R k e.0)) [
    | inl tied ↦
        let same : k ≡ e.0 = apart k e.0 (equal_of (R k e.0) tied) in
        let none : find R k es ≡ None = ap (λ j. find R j es) same ∙ none_below e.0 es h in
        absurd (let never : ⊥ = cc in never)
    | inr other ↦ ap (λ b. cond b (Some e.1) (find R k es)) other ∙ found
  ]

  pub all_found : (P : K → X → Type 0) (es : List (K × X)) → T (is_sorted R es) → ((k : K) (x : X) → find R k es ≡ Some x → P k x) → AllByRecursion (λ (e : K × X). P e.0 e.1) es
  all_found P [] h on = tt
  all_found P (e ∷ es) h on = (
    on e.0 e.1 (ap (λ o. cond (is_eq o) (Some e.1) (find R e.0 es)) (tie e.0)),
    all_found P es (back_of (below_all R e.0 es) (is_sorted R es) h) (λ k x found. on k x (found_behind k x e es (front_of (below_all R e.0 es) (is_sorted R es) h) found)),
  )

-- names
name_few : (name : List ℕ) → stored_len name ≤ 65535 → length (name_bytes name) < 2 ^ 16
name_few name h = let long : length (name_bytes name) ≡ cond (is_latin name) (length name) (2 * length name) = record_long name (is_latin name) refl in let few : cond (is_latin name) (length name) (2 * length name) ≤ 65535 = h in omega (arith, long, few)

none_of : (name : List ℕ) → AllByRecursion (λ u. u ≢ 0x5c) name → list_any (λ u. eqb u 0x5c) name ≡ false
none_of [] h = refl
none_of (u ∷ name) h = ap (λ b. b || list_any (λ u. eqb u 0x5c) name) (ne_eqb u 0x5c h.0) ∙ none_of name h.1

-- values
value_can : (name : List ℕ) (v : Value) → IsEncodableValue name v → length v.«data» < 2 ^ 29 → CanPut v
value_can name v is few = record { fits = λ kind. record { units = is.spelled.units; name = name_few v.name is.spelled.short; kind = kind }; few = few }

weigh_all : (vs : List Value) (most : ℕ) → sum_by value_weight vs ≤ most → AllByRecursion (λ (v : Value). length v.«data» ≤ most) vs
weigh_all [] most h = tt
weigh_all (v ∷ vs) most h = let sum : sum_by value_weight (v ∷ vs) ≡ value_weight v + sum_by value_weight vs = sum_by-cons value_weight v vs in (omega (arith, sum, h), weigh_all vs most (omega (arith, sum, h)))

count_all : (vs : List Value) → length vs ≤ sum_by value_weight vs
count_all [] = omega arith
count_all (v ∷ vs) = let sum : sum_by value_weight (v ∷ vs) ≡ value_weight v + sum_by value_weight vs = sum_by-cons value_weight v vs in omega (arith, sum, count_all vs)

both_can : (es : List (List ℕ × Value)) → AllByRecursion (λ (e : List ℕ × Value). IsEncodableValue e.0 e.1) es → AllByRecursion (λ (v : Value). length v.«data» ≤ MOST_WEIGHT) (map (λ e. e.1) es) → AllByRecursion CanPut (map (λ e. e.1) es)
both_can [] h g = tt
both_can (e ∷ es) h g = let few = g.0 in (value_can e.0 e.1 h.0 (omega (arith, few)), both_can es h.1 g.1)

all_filed : (es : List (List ℕ × Value)) → AllByRecursion (λ (e : List ℕ × Value). IsEncodableValue e.0 e.1) es → AllByRecursion (λ (e : List ℕ × Value). let value = e.1 in folded value.name ≡ e.0) es
all_filed [] h = tt
all_filed (e ∷ es) h = (h.0.filed, all_filed es h.1)

found_in : (values : ValueMap) (q : List ℕ) → finite.get values q ≡ find name_order q (finite.entries values)
found_in values q =
    ap (λ (m : ValueMap). finite.get m q) (same_entries_map values (finite.from_sorted (finite.entries values)) (sym (entries-from_sorted name_order (finite.entries values) (entries_sorted values))))
    ∙ get-from_sorted name_order (finite.entries values) q (entries_sorted values)

values_can : (row : Row) → IsEncodableRow row → row_weight row ≤ MOST_WEIGHT → CanPutAll row.values
values_can row is few =
    let spelled : AllByRecursion (λ (e : List ℕ × Value). IsEncodableValue e.0 e.1) (finite.entries row.values) =
    all_found name_order (tied_itself names_total) names_apart (λ n v. IsEncodableValue n v) (finite.entries row.values) (entries_sorted row.values) (λ n v found. is.values n v (found_in row.values n ∙ found)) in
    let sum : sum_by value_weight (finite.values row.values) ≤ MOST_WEIGHT = omega arith in
    record {
      each = both_can (finite.entries row.values) spelled (weigh_all (finite.values row.values) MOST_WEIGHT sum);
      filed = all_filed (finite.entries row.values) spelled;
      few = omega (arith, len-entries row.values, length-map (finite.entries row.values) (λ e. e.1), count_all (finite.values row.values), sum);
    }

-- rows
unmarked : (flags : ℕ) → bit_and flags 0x60 ≡ 0 → flags / 32 % 4 ≡ 0
unmarked flags e = let is : flags / 32 % 4 * 2 ^ 5 ≡ 0 = sym (and_high flags 2 5) ∙ e in omega (arith, is)

row_can : (path : List (List ℕ)) (row : Row) → IsEncodableAt path row → row_weight row ≤ MOST_WEIGHT → CanPutKey path row
row_can path row is few =
    let own = is.spelled in
    let clear : row.flags / 32 % 4 ≡ 0 = unmarked row.flags own.unmarked in
    let class : length row.class ≤ 65535 = own.class in
    record {
      fits = λ time. record {
        units = own.name.units;
        no_backslash = none_of row.name own.no_backslash;
        name = name_few row.name own.name.short;
        class = omega (arith, class);
        flags = own.flags;
        not_spelling = ne_eqb (row.flags / 0x20 % 2) 1 (λ e. omega (arith, clear, e));
        not_predefined = ne_eqb (row.flags / 0x40 % 2) 1 (λ e. omega (arith, clear, e));
        time = time;
      };
      values = values_can row own few;
      named = is.named;
      short = omega (arith, few);
    }

weigh_rows : (es : Entries) (most : ℕ) → entries_weight es ≤ most → AllByRecursion (λ (e : List (List ℕ) × Row). row_weight e.1 ≤ most) es
weigh_rows [] most h = tt
weigh_rows (e ∷ es) most h = let sum : entries_weight (e ∷ es) ≡ row_weight e.1 + entries_weight es = sum_by-cons (λ (e : List (List ℕ) × Row). row_weight e.1) e es in (omega (arith, sum, h), weigh_rows es most (omega (arith, sum, h)))

count_rows : (es : Entries) → 192 * length es ≤ entries_weight es
count_rows [] = omega arith
count_rows (e ∷ es) = let sum : entries_weight (e ∷ es) ≡ row_weight e.1 + entries_weight es = sum_by-cons (λ (e : List (List ℕ) × Row). row_weight e.1) e es in omega (arith, sum, count_rows es)

rows_can : (es : Entries) → AllByRecursion (λ (e : List (List ℕ) × Row). IsEncodableAt e.0 e.1) es → AllByRecursion (λ (e : List (List ℕ) × Row). row_weight e.1 ≤ MOST_WEIGHT) es → CanPutKeys es
rows_can [] h g = tt
rows_can (e ∷ es) h g = (row_can e.0 e.1 h.0 g.0, rows_can es h.1 g.1)

pub root_weight : (tree : TreeMap) (root : Entries) → IsNode root → tree ≡ finite.from_sorted root → weight tree ≤ MOST_WEIGHT → entries_weight root ≤ MOST_WEIGHT
root_weight tree root node same light = subst (λ es. entries_weight es ≤ MOST_WEIGHT) (entries-from_sorted path_order root node.rises) (subst (λ (t : TreeMap). weight t ≤ MOST_WEIGHT) same light)

pub tree_can : (tree : TreeMap) (root : Entries) → IsNode root → tree ≡ finite.from_sorted root → IsEncodable tree → weight tree ≤ MOST_WEIGHT → CanPutKeys root
tree_can tree root node same encodable light =
    rows_can root
    (all_found path_order (tied_itself paths_total) paths_apart (λ p r. IsEncodableAt p r) root node.rises (λ p r found. encodable.rows p r (ap (λ (t : TreeMap). finite.get t p) same ∙ get-from_sorted path_order root p node.rises ∙ found)))
    (weigh_rows root MOST_WEIGHT (root_weight tree root node same light))

pub tree_few : (tree : TreeMap) (root : Entries) → IsNode root → tree ≡ finite.from_sorted root → weight tree ≤ MOST_WEIGHT → length root < 2 ^ 24
tree_few tree root node same light = omega (arith, count_rows root, root_weight tree root node same light)

-- what is known at the end
record Ended (securities : List SecurityEntry) (root : ℕ) (entries : Entries) (x z : Cells) : Type 0 where
  y : Cells
  held : SecuritiesAreWritten securities y
  key : KeyAt securities nil_offset root entries y z

pub stands_at_end : (a b c : List ℕ) (securities : List SecurityEntry) (root minor : ℕ) (tree : TreeMap) (entries : Entries) (before : Cells) → Shows a before → 4 ≤ minor → IsNode entries → tree ≡ finite.from_sorted entries → Tiles c → Makes a b (KeepsSecurityCells securities) → Makes b c (PutsKey securities nil_offset root entries) → BinsEncodeTree c root minor tree
stands_at_end a b c securities root minor tree entries before shows new node same tiles m n =
    let all = made_then a b c (KeepsSecurityCells securities) (PutsKey securities nil_offset root entries) (Ended securities root entries) m n (λ x y z g h held put. record { y = y; held = held; key = put held }) in
    let z = all.cells before shows in
    let k = z.3.key in
    let split : true ≡ splits minor = sym (le-leb 4 minor new) in (
      tiles,
      z.0,
      z.1,
      subst (λ (s : Bool). CellsEncodeTree (keys_in s z.0) root tree) split (
        k.parts,
        k.below,
        k.written.whole,
        same ∙ tree_of_node k.parts k.below entries node.rises k.written.whole.named k.node,
        (λ cell lent own. some_not (z.3.y cell) (held_there securities z.3.y z.3.held cell (k.lent cell lent)) (k.written.fresh cell own)),
      ),
    )
