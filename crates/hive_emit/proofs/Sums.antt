-- What is taken of the room: sums, and the bounds of values and lists.
use Rattle.std.proofs.Common.{◌≡◌, ℕ, ◌+◌, ◌*◌, ◌<◌, ◌≤◌, Bool, true, false, List, [], ◌∷◌, length, map, take, sum_by, inl, inr, ◌∙◌, ap, arith, slice_get, Some, nat_le}
use Rattle.std.specs.Prelude.{if◌then◌else◌}
use Rattle.std.proofs.lemmas.List.Sums.{sum_by_push, sum_by-take-le, sum_by-cons}
use Rattle.std.proofs.lemmas.List.{length-map}
use Rattle.std.proofs.lemmas.Bool.{cases_lt}
use Rattle.reg_tree_parts.specs.declared.value.Value.{Value}
use Rattle.reg_tree_parts.specs.Weights.{value_weight}
use Rattle.hive_records.specs.ListEncodings.{Subkey}
use Rattle.hive_records.specs.ValueEncodings.{small_value, large_value}
use Rattle.hive_records.proofs.Sizes.{name_most, long_small, long_large, long_plain, long_hashed}
use Rattle.hive_emit.specs.CellWrites.{cell_cost}
use Rattle.hive_emit.specs.KeyLists.{leaf_bytes}
use Rattle.hive_emit.specs.CellCosts.{segments_cost, apart_cost, data_cost, value_cost, leaf_cost}
use Rattle.hive_emit.proofs.ValueMaps.{take_next}

-- a sum, one more
pub sum_next : {A : Type 0} (f : A → ℕ) (xs : List A) (i : ℕ) (x : A) → slice_get xs i ≡ Some x → sum_by f (take (i + 1) xs) ≡ sum_by f (take i xs) + f x
sum_next f xs i x e = ap (sum_by f) (take_next xs i x e) ∙ sum_by_push f (take i xs) x

pub sum_within : {A : Type 0} (f : A → ℕ) (xs : List A) (i : ℕ) (x : A) → slice_get xs i ≡ Some x → sum_by f (take i xs) + f x ≤ sum_by f xs
sum_within f xs i x e = omega (arith, sum_next f xs i x e, sum_by-take-le f xs (i + 1))

-- data
pub in_record : (len : ℕ) → len ≤ 4 → data_cost len ≡ 0
unfolding data_cost
in_record len few = ap (λ (b : Bool). if b then 0 else apart_cost len) (let e : nat_le len 4 ≡ true = grind (arith, few) in e)

pub apart : (len : ℕ) → 4 < len → data_cost len ≡ apart_cost len
unfolding data_cost
apart len some = ap (λ (b : Bool). if b then 0 else apart_cost len) (let e : nat_le len 4 ≡ false = grind (arith, some) in e)

pub one_cell_cost : (len : ℕ) → cell_cost len ≤ apart_cost len
unfolding apart_cost
one_cell_cost len = omega arith

pub segments_most : (len : ℕ) → 16_344 < len → segments_cost len ≤ apart_cost len
unfolding apart_cost
segments_most len many = omega (arith, many)

pub big_cost : (len count : ℕ) → 16_344 < len → 16_344 * count < len + 16_344 → segments_cost len + cell_cost (4 * count) + cell_cost 8 ≤ apart_cost len
unfolding apart_cost
big_cost len count many few = omega (arith, many, few)

-- values
pub small_cost : (value : Value) → cell_cost (length (small_value value)) ≤ value_cost value
unfolding value_cost
small_cost value = omega (arith, long_small value)

pub large_cost : (value : Value) (at : ℕ) → 4 < length value.«data» → apart_cost (length value.«data») + cell_cost (length (large_value value at)) ≤ value_cost value
unfolding value_cost
large_cost value at some = omega (arith, long_large value at, apart (length value.«data») some)

pub data_first : (value : Value) → 4 < length value.«data» → apart_cost (length value.«data») ≤ value_cost value
unfolding value_cost
data_first value some = omega (arith, apart (length value.«data») some)

-- what values take is less than twice what they weigh
data_light : (len : ℕ) → data_cost len ≤ 2 * len + 11
unfolding data_cost apart_cost
data_light len = elim (cases_lt 4 len) [
  | inl some ↦ omega (arith, apart len some)
  | inr few ↦ omega (arith, in_record len few)
]

value_light : (value : Value) → value_cost value + 8 ≤ 2 * value_weight value
unfolding value_cost
value_light value = omega (arith, name_most value.name, data_light (length value.«data»))

pub values_light : (values : List Value) → sum_by value_cost values + 8 * length values ≤ 2 * sum_by value_weight values
values_light [] = omega arith
values_light (v ∷ values) = omega (arith, sum_by-cons value_cost v values, sum_by-cons value_weight v values, value_light v, values_light values)

-- lists of subkeys
pub leaf_long : (plain : Bool) (subkey_list : List Subkey) → cell_cost (length (leaf_bytes plain subkey_list)) ≤ leaf_cost (length subkey_list)
leaf_long true subkey_list = omega (arith, long_plain (map (λ (k : Subkey). k.at) subkey_list), length-map subkey_list (λ (k : Subkey). k.at))
leaf_long false subkey_list = omega (arith, long_hashed subkey_list)

-- data of less than 2 ^ 29 bytes take less than 2 ^ 31
pub data_few : (len : ℕ) → data_cost len ≤ 2 * len + 11
data_few len = data_light len
