-- Trees that calls may make: what their keys show, and that a registration file holds them.
use Rattle.std.proofs.Common.{◌≡◌, ◌≢◌, ℕ, ◌*◌, ◌<◌, ◌≤◌, ◌^◌, Bool, true, false, not, ◌&&◌, List, [], ◌∷◌, ◌++◌, map, length, Some, is_some, refl, sym, ◌∙◌, ap, arith}
use Rattle.std.specs.Prelude.{◌==◌, nat_le}
use Rattle.std.specs.List.{AllByRecursion, flat_map, list_all}
use Rattle.std.specs.FinMap as finite
use Rattle.std.proofs.lemmas.Bool.Decides.{Decides-eqb, nat_tests}
use Rattle.std.proofs.lemmas.List.{length-append}
use Rattle.refusals.specs.declared.limits.TheConstants.{MOST_PATH_NAMES, MOST_VALUE_NAME_UNITS, MOST_VALUE_BYTES}
use Rattle.reg_names.specs.Names.{is_name_unit, is_key_unit, is_key_name}
use Rattle.reg_tree_parts.specs.declared.value.Value.{Value}
use Rattle.reg_tree_parts.specs.Rows.{Row}
use Rattle.reg_tree_parts.proofs.Keys.{paths_total, names_total}
use Rattle.reg_tree.specs.Maps.{TreeMap, row}
use Rattle.key_walk.specs.KeyRows.{NamedRow, spelled_names, tree_rows}
use Rattle.reg_export.specs.declared.encoding.Encoding.{Encoding}
use Rattle.reg_export.specs.declared.encoding.Encoding.TheVariants.{Utf8, Utf16}
use Rattle.reg_export.specs.NameTests.{are_chars, breaks_line, can_show, fits_line}
use Rattle.reg_export.specs.CharLaws.{ascii_chars}
use Rattle.reg_export.specs.Scans.{shown_names}
use Rattle.reg_export.specs.RegFiles.{file_names}
use Rattle.reg_round_trip.specs.Exports.{IsPrefixText, IsBelowName, IsValueOfLimits, IsKeyOfLimits, IsHiveOfLimits}
use Rattle.reg_round_trip.specs.NewTrees.{IsCallValue, IsCallTree}
use Rattle.reg_round_trip.proofs.Units.{all_both, all_then, all_flat, both_true, not_true, list_all_from, all_map}
use Rattle.reg_round_trip.proofs.Spelled.{all_spelled, spelled_length}
use Rattle.reg_round_trip.proofs.CallNames.{key_units, key_length, key_name_units, value_name_units}
use Rattle.reg_round_trip.proofs.SortedKeys.{each_got}

-- a row of such a tree
pub record IsCallShown (key : NamedRow) : Type 0 where
  pub names : AllByRecursion (λ n. is_key_name n ≡ true) key.0
  pub shallow : length key.0 ≤ MOST_PATH_NAMES
  pub values : AllByRecursion (λ (v : Value). (name : List ℕ) × IsCallValue name v) (finite.values (let its = key.1 in its.values))

values_shown : (key : Row) → (es : List (List ℕ × Value)) → AllByRecursion (λ e. IsCallValue e.0 e.1) es → AllByRecursion (λ (v : Value). (name : List ℕ) × IsCallValue name v) (map (λ e. e.1) es)
values_shown key [] all = tt
values_shown key (e ∷ es) all = ((e.0, all.0), values_shown key es all.1)

pub rows_shown : (tree : TreeMap) → IsCallTree tree → (es : List (List (List ℕ) × Row)) → AllByRecursion (λ e. row tree e.0 ≡ Some e.1) es → AllByRecursion IsCallShown (map (λ e. (spelled_names tree e.0, e.1)) es)
rows_shown tree call [] all = tt
rows_shown tree call (e ∷ es) all =
    let key : Row = e.1 in
    let its = call.keys e.0 e.1 all.0 in
    let long = spelled_length tree e.0 in
    let shallow = its.shallow in (
      record {
        names = all_spelled tree call.is_tree (λ n. is_key_name n ≡ true) (λ path name k there. let more = call.keys (path ++ name ∷ []) k there in let deep = length-append path (name ∷ []) in more.named (omega (arith, deep))) e.0 (ap is_some all.0);
        shallow = omega (arith, long, shallow);
        values = values_shown key (finite.entries key.values) (all_then (λ v. finite.get key.values v.0 ≡ Some v.1) (λ v. IsCallValue v.0 v.1) (λ v got. its.values v.0 v.1 got) (finite.entries key.values) (each_got names_total key.values));
      },
      rows_shown tree call es all.1,
    )

pub tree_shown : (tree : TreeMap) → IsCallTree tree → AllByRecursion IsCallShown (tree_rows tree)
tree_shown tree call = rows_shown tree call (finite.entries tree) (each_got paths_total tree)

-- within the limits of a registration file
wide : (u : ℕ) → is_name_unit u ≡ true → u < 2 ^ 16
wide u h = grind (arith, nat_tests, h)

below_name : (name : List ℕ) → is_key_name name ≡ true → IsBelowName name
below_name name h = record {
  units = all_then (λ u. is_name_unit u ≡ true) (λ u. u < 2 ^ 16) wide name (key_name_units name h);
  some = λ e. let long = (key_length name h).0 in let none = ap length e in absurd (omega (arith, long, none));
  no_backslash = all_then (λ u. is_key_unit u ≡ true) (λ u. u ≢ 92) (λ u k e. not_true (sym (ap (λ v. not (v == 92)) e) ∙ (both_true (is_name_unit u) (not (u == 92)) k).1)) name (key_units name h);
}

value_limits : (value : Value) → ((name : List ℕ) × IsCallValue name value) → IsValueOfLimits value
value_limits value call =
    let its = call.1 in
    let low = (both_true (nat_le (length value.name) MOST_VALUE_NAME_UNITS) (list_all is_name_unit value.name) its.named).0 in
    record {
      units = all_then (λ u. is_name_unit u ≡ true) (λ u. u < 2 ^ 16) wide value.name (value_name_units value.name its.named);
      short = grind (arith, nat_tests, low);
      kind = its.kind;
      bytes = its.bytes;
      few = its.few;
    }

path_short : (names : List (List ℕ)) → AllByRecursion (λ n. is_key_name n ≡ true) names → length (flat_map (λ n. 92 ∷ n) names) ≤ 256 * length names
path_short [] all = omega arith
path_short (name ∷ names) all =
    let whole = length-append (92 ∷ name) (flat_map (λ n. 92 ∷ n) names) in
    let one = (key_length name all.0).1 in
    let rest = path_short names all.1 in
    omega (arith, whole, one, rest)

key_limits : (prefix : List ℕ) → length prefix ≤ MOST_VALUE_BYTES → (key : NamedRow) → IsCallShown key → IsKeyOfLimits prefix key
key_limits prefix few key call =
    let whole = length-append prefix (flat_map (λ n. 92 ∷ n) key.0) in
    let names = path_short key.0 call.names in
    let shallow = call.shallow in
    record {
      names = all_then (λ n. is_key_name n ≡ true) IsBelowName below_name key.0 call.names;
      short = omega (arith, whole, names, shallow, few);
      values = all_then (λ (v : Value). (name : List ℕ) × IsCallValue name v) IsValueOfLimits value_limits (finite.values (let its = key.1 in its.values)) call.values;
    }

pub keys_limits : (prefix : List ℕ) → IsPrefixText prefix → length prefix ≤ MOST_VALUE_BYTES → (keys : List NamedRow) → AllByRecursion IsCallShown keys → IsHiveOfLimits (prefix, keys)
keys_limits prefix text few keys calls = record { prefix = text; keys = all_then IsCallShown (IsKeyOfLimits prefix) (key_limits prefix few) keys calls }

-- its names fit lines
unit_fits : (u : ℕ) → is_name_unit u ≡ true → not (breaks_line u) ≡ true
unit_fits u h = by_tests (u == 0) (u == 10) (u == 13) refl refl refl
  where
    never : (n : ℕ) → is_name_unit n ≡ false → (u == n) ≡ true → ⊥
    never n other e = not_true (sym other ∙ ap is_name_unit (sym ((Decides-eqb u n).0 e)) ∙ h)

    by_tests : (a b c : Bool) → (u == 0) ≡ a → (u == 10) ≡ b → (u == 13) ≡ c → not (breaks_line u) ≡ true
    by_tests true b c x y z = absurd (never 0 refl x)
    by_tests false true c x y z = absurd (never 10 refl y)
    by_tests false false true x y z = absurd (never 13 refl z)
    by_tests false false false x y z = rw (x, y, z) refl

name_fits : (name : List ℕ) → AllByRecursion (λ u. is_name_unit u ≡ true) name → fits_line name ≡ true
name_fits name all = list_all_from (λ u. not (breaks_line u)) name (all_then (λ u. is_name_unit u ≡ true) (λ u. not (breaks_line u) ≡ true) unit_fits name all)

-- its names are characters
small : (u : ℕ) → is_name_unit u ≡ true → u < 128
small u h = grind (arith, nat_tests, h)

name_chars : (name : List ℕ) → AllByRecursion (λ u. is_name_unit u ≡ true) name → are_chars name ≡ true
name_chars name all = ascii_chars name (all_then (λ u. is_name_unit u ≡ true) (λ u. u < 128) small name all)

-- what holds of each name of calls holds of all that are shown
module _ (test : List ℕ → Bool) (names : (name : List ℕ) → AllByRecursion (λ u. is_name_unit u ≡ true) name → test name ≡ true) where
  key_passes : (key : NamedRow) → IsCallShown key → AllByRecursion (λ name. test name ≡ true) (shown_names key)
  key_passes key call =
      let values = finite.values (let its = key.1 in its.values) in
      all_both (λ name. test name ≡ true) key.0 (map (λ (value : Value). value.name) values)
      (all_then (λ n. is_key_name n ≡ true) (λ name. test name ≡ true) (λ n k. names n (key_name_units n k)) key.0 call.names)
      (all_map (λ name. test name ≡ true) (λ (value : Value). value.name) values (all_then (λ (v : Value). (name : List ℕ) × IsCallValue name v) (λ (v : Value). test v.name ≡ true) (λ v c. let its = c.1 in names v.name (value_name_units v.name its.named)) values call.values))

  hives_pass : (hives : List (List ℕ × List NamedRow)) → AllByRecursion (λ hive. AllByRecursion IsCallShown hive.1) hives → list_all test (file_names hives) ≡ true
  hives_pass hives all =
      list_all_from test (file_names hives)
      (all_flat (λ hive. AllByRecursion IsCallShown hive.1) (λ name. test name ≡ true) (λ hive. flat_map shown_names hive.1) (λ hive keys. all_flat IsCallShown (λ name. test name ≡ true) shown_names key_passes hive.1 keys) hives all)

pub hives_fit : (encoding : Encoding) (hives : List (List ℕ × List NamedRow)) → AllByRecursion (λ hive. AllByRecursion IsCallShown hive.1) hives → can_show encoding (file_names hives) ≡ true
hives_fit Utf8 hives all = let lines = hives_pass fits_line name_fits hives all in let whole = hives_pass are_chars name_chars hives all in λ i. lines i && whole i
hives_fit Utf16 hives all = hives_pass fits_line name_fits hives all
