-- What trees take: sums over keys and descriptors, and that they are less than twice the weight.
use Rattle.std.proofs.Common.{◌≡◌, ℕ, zero, suc, ◌+◌, ◌*◌, ◌<◌, ◌≤◌, List, [], ◌∷◌, ◌++◌, length, map, take, sum_by, refl, sym, ◌∙◌, ap, subst, arith, slice_get, get_or, Some}
use Rattle.std.specs.Prelude.{slice_set}
use Rattle.std.specs.List.{AllByRecursion}
use Rattle.std.specs.FinMap as finite
use Rattle.std.specs.FinMap.{len-entries}
use Rattle.std.proofs.lemmas.List.{length-map}
use Rattle.std.proofs.lemmas.List.Sums.{sum_by-cons, sum_by-append, sum_by_push, sum_by_more_le}
use Rattle.reg_tree_parts.specs.Rows.{Row, row_weight}
use Rattle.reg_tree_parts.specs.Nodes.{Entries, below, all_below, entries_weight, row_at, root_name, subkeys_of, HasSubkeys, IsNode, AreNodes}
use Rattle.hive_records.specs.NameEncodings.{name_bytes}
use Rattle.hive_records.proofs.Sizes.{name_most}
use Rattle.hive_emit.specs.CellWrites.{cell_cost, Uses}
use Rattle.hive_emit.specs.CellCosts.{values_cost}
use Rattle.hive_emit.proofs.Sums.{sum_next, sum_within, values_light}
use Rattle.hive_emit.specs.declared.security.SecurityEntry.{SecurityEntry}
use Rattle.hive_emit.specs.KeyCosts.{class_cost, row_cost, keys_cost, own_cost, below_cost, security_cost, securities_cost, row_security_cost, descriptors_cost}
use Rattle.hive_emit.proofs.NewCells.{uses_more, both_used}
use Rattle.hive_tree_model.proofs.Basics.{some_same}
use Rattle.hive_emit.proofs.KeyProofs.{found_subkey}
use Rattle.hive_emit.proofs.SecurityTables.{take_set}

-- a sum over rows, below a name and of all subkeys
module _ (f : Row → ℕ) where
  abbrev rows_sum : Entries → ℕ
  rows_sum entries = sum_by (λ e. f e.1) entries

  below_sum : (name : List ℕ) (es : Entries) → rows_sum (below name es) ≡ rows_sum es
  below_sum name [] = refl
  below_sum name (e ∷ es) = sum_by-cons (λ (x : List (List ℕ) × Row). f x.1) (name ∷ e.0, e.1) (below name es) ∙ ap (λ n. f e.1 + n) (below_sum name es) ∙ sym (sum_by-cons (λ (x : List (List ℕ) × Row). f x.1) e es)

  pub all_below_sum : (ks : List (List ℕ × Entries)) → rows_sum (all_below ks) ≡ sum_by (λ k. rows_sum k.1) ks
  all_below_sum [] = refl
  all_below_sum (k ∷ ks) = sum_by-append (λ (x : List (List ℕ) × Row). f x.1) (below k.0 k.1) (all_below ks) ∙ ap (λ n. n + rows_sum (all_below ks)) (below_sum k.0 k.1) ∙ ap (λ n. rows_sum k.1 + n) (all_below_sum ks) ∙ sym (sum_by-cons (λ (k : List ℕ × Entries). rows_sum k.1) k ks)

  pub node_sum : (entries : Entries) (row : Row) → HasSubkeys entries (subkeys_of entries) → row_at entries [] ≡ Some row → rows_sum entries ≡ f row + sum_by (λ k. rows_sum k.1) (subkeys_of entries)
  node_sum entries row has here = ap rows_sum (has.whole row here) ∙ sum_by-cons (λ (x : List (List ℕ) × Row). f x.1) ([], row) (all_below (subkeys_of entries)) ∙ ap (λ n. f row + n) (all_below_sum (subkeys_of entries))

-- keys with what they take in the lists of their parents
abbrev listed_cost : Row → ℕ
listed_cost row = 16 + row_cost row

kept : (entries : Entries) → IsNode entries → sum_by (λ e. 16 + row_cost e.1) entries ≡ 16 + keys_cost entries
kept entries node = subst (λ (es : Entries). sum_by (λ e. 16 + row_cost e.1) es ≡ 16 + keys_cost es) (sym node.whole) (omega (arith, sum_by-cons (λ (e : List (List ℕ) × Row). 16 + row_cost e.1) ([], node.row) node.others))

all_kept : (ks : List (List ℕ × Entries)) → AreNodes ks → sum_by (λ k. sum_by (λ e. 16 + row_cost e.1) k.1) ks ≡ 16 * length ks + sum_by (λ k. keys_cost k.1) ks
all_kept [] nodes = refl
all_kept (k ∷ ks) nodes = omega (arith, sum_by-cons (λ (k : List ℕ × Entries). sum_by (λ e. 16 + row_cost e.1) k.1) k ks, sum_by-cons (λ (k : List ℕ × Entries). keys_cost k.1) k ks, kept k.1 nodes.0, all_kept ks nodes.1)

-- a key and those below it
pub keys_sum : (entries : Entries) (row : Row) → HasSubkeys entries (subkeys_of entries) → row_at entries [] ≡ Some row → keys_cost entries ≡ row_cost row + 16 * length (subkeys_of entries) + below_cost entries
keys_sum entries row has here =
    ap keys_cost (has.whole row here)
    ∙ (let sum : sum_by (λ e. 16 + row_cost e.1) (all_below (subkeys_of entries)) ≡ sum_by (λ k. sum_by (λ e. 16 + row_cost e.1) k.1) (subkeys_of entries) = all_below_sum listed_cost (subkeys_of entries) in omega (arith, sum, all_kept (subkeys_of entries) has.nodes))

pub row_parts : (row : Row) → row_cost row ≡ cell_cost (76 + length (name_bytes row.name)) + class_cost (length row.class) + values_cost row.values
unfolding row_cost
row_parts row = refl

pub row_sum : (row : Row) (subkey_list : ℕ) → row_cost row + 16 * subkey_list ≡ cell_cost (76 + length (name_bytes row.name)) + own_cost row subkey_list
unfolding row_cost
row_sum row subkey_list = omega arith

pub own_least : (entries : Entries) (row : Row) → IsNode entries → row_at entries [] ≡ Some row → row_cost row ≤ keys_cost entries
own_least entries row node here =
    let first : node.row ≡ row = some_same node.row row (sym (ap (λ es. row_at es []) node.whole) ∙ here) in
    let sum : keys_cost entries ≡ row_cost node.row + sum_by (λ e. 16 + row_cost e.1) node.others = ap keys_cost node.whole in
    omega (arith, sum, ap row_cost first)

-- one subkey more
pub below_within : (ks : List (List ℕ × Entries)) (i : ℕ) (es : Entries) → AllByRecursion (λ (k : List ℕ × Entries). root_name k.1 ≡ k.0) ks → Some es ≡ slice_get (map (λ k. k.1) ks) i → sum_by (λ k. keys_cost k.1) (take i ks) + keys_cost es ≤ sum_by (λ k. keys_cost k.1) ks
below_within ks i es named e = let k = found_subkey ks i es named e in sum_within (λ (k : List ℕ × Entries). keys_cost k.1) ks i (k.0, es) k.1

pub below_next : (ks : List (List ℕ × Entries)) (i : ℕ) (es : Entries) → AllByRecursion (λ (k : List ℕ × Entries). root_name k.1 ≡ k.0) ks → Some es ≡ slice_get (map (λ k. k.1) ks) i → sum_by (λ k. keys_cost k.1) (take (i + 1) ks) ≡ sum_by (λ k. keys_cost k.1) (take i ks) + keys_cost es
below_next ks i es named e = let k = found_subkey ks i es named e in sum_next (λ (k : List ℕ × Entries). keys_cost k.1) ks i (k.0, es) k.1

pub descriptors_next : (ks : List (List ℕ × Entries)) (i : ℕ) (es : Entries) → AllByRecursion (λ (k : List ℕ × Entries). root_name k.1 ≡ k.0) ks → Some es ≡ slice_get (map (λ k. k.1) ks) i → sum_by (λ k. descriptors_cost k.1) (take (i + 1) ks) ≡ sum_by (λ k. descriptors_cost k.1) (take i ks) + descriptors_cost es
descriptors_next ks i es named e = let k = found_subkey ks i es named e in sum_next (λ (k : List ℕ × Entries). descriptors_cost k.1) ks i (k.0, es) k.1

-- security cells whose descriptors stay
pub cost_set : (cells : List SecurityEntry) (place : ℕ) (old new : SecurityEntry) → place < length cells → old ≡ get_or cells place old → new.descriptor ≡ old.descriptor → securities_cost (slice_set cells place new) ≡ securities_cost cells
cost_set [] place old new inside old_is same = refl
cost_set (c ∷ cells) zero old new inside old_is same =
    omega (arith, sum_by-cons security_cost new cells, sum_by-cons security_cost c cells, ap length (same ∙ ap (λ (s : SecurityEntry). s.descriptor) old_is))
cost_set (c ∷ cells) (suc place) old new inside old_is same =
    omega (arith, sum_by-cons security_cost c (slice_set cells place new), sum_by-cons security_cost c cells, cost_set cells place old new (omega (arith, inside)) old_is same)

-- less than twice the weight
row_light : (row : Row) → 16 + row_cost row + row_security_cost row ≤ 2 * row_weight row
unfolding row_cost
row_light row =
    let count : length (finite.values row.values) ≡ finite.len row.values = length-map (finite.entries row.values) (λ e. e.1) ∙ sym (len-entries row.values) in
    omega (arith, name_most row.name, values_light (finite.values row.values), count)

rows_light : (es : Entries) → sum_by (λ e. 16 + row_cost e.1) es + descriptors_cost es ≤ 2 * entries_weight es
rows_light [] = omega arith
rows_light (e ∷ es) = omega (
  arith,
  sum_by-cons (λ (e : List (List ℕ) × Row). 16 + row_cost e.1) e es,
  sum_by-cons (λ (e : List (List ℕ) × Row). row_security_cost e.1) e es,
  sum_by-cons (λ (e : List (List ℕ) × Row). row_weight e.1) e es,
  row_light e.1,
  rows_light es,
)

pub tree_light : (es : Entries) → keys_cost es + descriptors_cost es ≤ 2 * entries_weight es
tree_light [] = omega arith
tree_light (e ∷ es) = omega (arith, sum_by-cons (λ (e : List (List ℕ) × Row). 16 + row_cost e.1) e es, rows_light (e ∷ es))

-- a security cell that is put
pub uses_put : (a b c : List ℕ) (cells : List SecurityEntry) (i n : ℕ) (new : SecurityEntry) (d : List ℕ) → i < length cells → new.descriptor ≡ d → n ≡ 20 + length d → Uses a b (securities_cost (take i cells)) → Uses b c (cell_cost n) → Uses a c (securities_cost (take (i + 1) (slice_set cells i new)))
uses_put a b c cells i n new d inside same long u v =
    let next : take (i + 1) (slice_set cells i new) ≡ take i cells ++ new ∷ [] = ap (λ k. take k (slice_set cells i new)) (let e : i + 1 ≡ suc i = omega arith in e) ∙ take_set cells i new inside in
    let sum : securities_cost (take (i + 1) (slice_set cells i new)) ≡ securities_cost (take i cells) + security_cost new = ap securities_cost next ∙ sum_by_push security_cost (take i cells) new in
    uses_more a c (securities_cost (take i cells) + cell_cost n) (securities_cost (take (i + 1) (slice_set cells i new))) (omega (arith, sum, long, ap length same)) (both_used a b c (securities_cost (take i cells)) (cell_cost n) u v)

pub cost_within : (cells : List SecurityEntry) (i n : ℕ) (s : SecurityEntry) (d : List ℕ) → i < length cells → s ≡ get_or cells i s → d ≡ s.descriptor → n ≡ 20 + length d → securities_cost (take i cells) + cell_cost n ≤ securities_cost cells
cost_within cells i n s d inside is same long = omega (arith, sum_by_more_le security_cost cells i s inside, ap security_cost is, ap length same, long)

pub one_within : (cells : List SecurityEntry) (i : ℕ) (s : SecurityEntry) → i < length cells → s ≡ get_or cells i s → security_cost s ≤ securities_cost cells
one_within cells i s inside is = omega (arith, sum_by_more_le security_cost cells i s inside, ap security_cost is)
