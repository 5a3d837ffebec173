-- The change of one operation is never too long.
use Rattle.std.proofs.Common.{◌≡◌, ℕ, ◌+◌, ◌*◌, ◌≤◌, ◌&&◌, Bool, true, false, cond, List, [], ◌∷◌, length, Option, Some, None, Ok, Err, refl, arith, slice_get}
use Rattle.std.specs.Prelude.{nat_le, nat_lt, ⊤}
use Rattle.std.proofs.lemmas.List.Sums.{sum_by-cons}
use Rattle.std.specs.List.{list_all, sum_by}
use Rattle.std.proofs.lemmas.Bool.Decides.{nat_tests}
use Rattle.refusals.specs.declared.refusal.Refusal.TheVariants.{TooLarge}
use Rattle.refusals.specs.declared.limits.TheConstants.{MOST_PATH_NAMES, MOST_KEY_NAME_UNITS, MOST_VALUE_NAME_UNITS, MOST_VALUE_BYTES}
use Rattle.reg_names.specs.Names.{is_path, is_key_name, is_key_unit, is_value_name, is_name_unit}
use Rattle.reg_tree.specs.Maps.{TreeMap}
use Rattle.reg_tree.specs.Encodings.{path_encoded_len}
use Rattle.reg_tree.specs.Operations.{spelled_path}
use Rattle.reg_tree_parts.specs.Rows.{Row}
use Rattle.reg_names.specs.Names.{folded_path}
use Rattle.reg_tree.specs.Maps.{row, weight}
use Rattle.reg_tree.specs.Judgement.{legal, legal_if, legal_after, judged_there, changed}
use Rattle.reg_tree.specs.declared.op.Op.{Op}
use Rattle.reg_tree.specs.declared.op.Op.TheVariants.{CreateKey, DeleteKey, SetValue, DeleteValue}
use Rattle.reg_tree.specs.declared.op.Legality.TheVariants.{Legal}
use Rattle.store_model.specs.Machine.{change}
use Rattle.transactions.specs.Histories.{IsShort}

both : (a b : Bool) → (a && b) ≡ true → (a ≡ true) × (b ≡ true)
both true b e = (refl, e)
both false b e = absurd cc

names_short : (names : List (List ℕ)) → list_all is_key_name names ≡ true → sum_by (λ name. 1 + length name) names ≤ 256 * length names
names_short [] e = omega arith
names_short (name ∷ names) e =
    let here = both (is_key_name name) (list_all is_key_name names) e in
    let first = both (nat_le 1 (length name) && nat_le (length name) MOST_KEY_NAME_UNITS) (list_all is_key_unit name) here.0 in
    let second = both (nat_le 1 (length name)) (nat_le (length name) MOST_KEY_NAME_UNITS) first.0 in
    let rest = names_short names here.1 in
    let one : length name ≤ MOST_KEY_NAME_UNITS = let f = second.1 in grind (arith, nat_tests, f) in
    omega (arith, rest, one, sum_by-cons (λ (n : List ℕ). 1 + length n) name names)

pub path_short : (path : List (List ℕ)) → is_path path ≡ true → path_encoded_len path ≤ 131074
path_short path e =
    let parts = both (nat_le (length path) MOST_PATH_NAMES) (list_all is_key_name path) e in
    let few : length path ≤ MOST_PATH_NAMES = let f = parts.0 in grind (arith, nat_tests, f) in
    let long = names_short path parts.1 in
    omega (arith, few, long)

pub name_short : (name : List ℕ) → is_value_name name ≡ true → length name ≤ 16383
name_short name e =
    let parts = both (nat_le (length name) MOST_VALUE_NAME_UNITS) (list_all is_name_unit name) e in
    let f = parts.0 in
    grind (arith, nat_tests, f)

-- what is legally written is within the limit of data
module _ (hive : ℕ) (path : List (List ℕ)) (name : List ℕ) (kind : ℕ) (bytes : List ℕ) where
  by_key : (key : Option Row) (total : ℕ) → legal_after (SetValue hive path name kind bytes) (judged_there key (λ key. cond (nat_lt MOST_VALUE_BYTES (length bytes)) (Err TooLarge) (Ok Legal))) total ≡ Ok Legal → nat_lt MOST_VALUE_BYTES (length bytes) ≡ false
  by_key None total e = absurd cc
  by_key (Some key) total e = by_size (nat_lt MOST_VALUE_BYTES (length bytes)) e
    where
      by_size : (b : Bool) → legal_after (SetValue hive path name kind bytes) (cond b (Err TooLarge) (Ok Legal)) total ≡ Ok Legal → b ≡ false
      by_size true f = absurd cc
      by_size false f = refl

  by_content : (content : Option TreeMap) → legal_if content (SetValue hive path name kind bytes) ≡ Ok Legal → nat_lt MOST_VALUE_BYTES (length bytes) ≡ false
  by_content None e = absurd cc
  by_content (Some tree) e = by_key (row tree (folded_path path)) (weight (changed tree (SetValue hive path name kind bytes) 0)) e

  pub data_short : (trees : List TreeMap) → legal trees (SetValue hive path name kind bytes) ≡ Ok Legal → length bytes ≤ MOST_VALUE_BYTES
  data_short trees e = let f = by_content (slice_get trees hive) e in grind (arith, nat_tests, f)

-- an operation whose value, if it has one, has a name of a call
abbrev pub IsNamed : Op → Type 0
IsNamed (CreateKey hive path) = ⊤
IsNamed (DeleteKey hive path) = ⊤
IsNamed (SetValue hive path name kind bytes) = is_value_name name ≡ true
IsNamed (DeleteValue hive path name) = is_value_name name ≡ true

pub one_short : (op : Op) → is_path (spelled_path op) ≡ true → IsNamed op → (trees : List TreeMap) (moment : ℕ) → legal trees op ≡ Ok Legal → IsShort (change moment op)
one_short (CreateKey hive path) p n trees moment l = let a = path_short path p in omega (arith, a)
one_short (DeleteKey hive path) p n trees moment l = let a = path_short path p in omega (arith, a)
one_short (SetValue hive path name kind bytes) p n trees moment l =
    let a = path_short path p in
    let b = name_short name n in
    let d = data_short hive path name kind bytes trees l in
    omega (arith, a, b, d)
one_short (DeleteValue hive path name) p n trees moment l =
    let a = path_short path p in
    let b = name_short name n in
    omega (arith, a, b)
