-- Names that calls take: their units and how many there are.
use Rattle.std.proofs.Common.{◌≡◌, ℕ, ◌≤◌, true, not, ◌&&◌, List, length, arith}
use Rattle.std.specs.Prelude.{◌==◌, nat_le}
use Rattle.std.specs.List.{AllByRecursion, list_all}
use Rattle.std.proofs.lemmas.Bool.Decides.{nat_tests}
use Rattle.refusals.specs.declared.limits.TheConstants.{MOST_KEY_NAME_UNITS, MOST_VALUE_NAME_UNITS}
use Rattle.reg_names.specs.Names.{is_name_unit, is_key_unit, is_key_name, is_value_name}
use Rattle.reg_round_trip.proofs.Units.{all_then, all_pass, both_true}

pub key_units : (name : List ℕ) → is_key_name name ≡ true → AllByRecursion (λ u. is_key_unit u ≡ true) name
key_units name h = all_pass is_key_unit name (both_true (nat_le 1 (length name) && nat_le (length name) MOST_KEY_NAME_UNITS) (list_all is_key_unit name) h).1

pub key_length : (name : List ℕ) → is_key_name name ≡ true → (1 ≤ length name) × (length name ≤ MOST_KEY_NAME_UNITS)
key_length name h =
    let one = (both_true (nat_le 1 (length name) && nat_le (length name) MOST_KEY_NAME_UNITS) (list_all is_key_unit name) h).0 in
    let two = both_true (nat_le 1 (length name)) (nat_le (length name) MOST_KEY_NAME_UNITS) one in
    let low = two.0 in
    let high = two.1 in
    (grind (arith, nat_tests, low), grind (arith, nat_tests, high))

pub key_name_units : (name : List ℕ) → is_key_name name ≡ true → AllByRecursion (λ u. is_name_unit u ≡ true) name
key_name_units name h = all_then (λ u. is_key_unit u ≡ true) (λ u. is_name_unit u ≡ true) (λ u k. (both_true (is_name_unit u) (not (u == 92)) k).0) name (key_units name h)

pub value_name_units : (name : List ℕ) → is_value_name name ≡ true → AllByRecursion (λ u. is_name_unit u ≡ true) name
value_name_units name h = all_pass is_name_unit name (both_true (nat_le (length name) MOST_VALUE_NAME_UNITS) (list_all is_name_unit name) h).1
