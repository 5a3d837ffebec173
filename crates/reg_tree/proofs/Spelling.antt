-- An operation keeps a tree one that a hive file can encode.
use Rattle.std.proofs.Common.{◌≡◌, ◌≢◌, ℕ, zero, suc, ◌+◌, ◌-◌, ◌*◌, ◌<◌, ◌≤◌, ◌^◌, Bool, true, false, not, ◌&&◌, cond, List, [], ◌∷◌, length, take, Option, Some, None, refl, sym, ◌∙◌, ap, subst, arith}
use Rattle.std.specs.Prelude.{nat_lt, nat_le, ◌==◌, slice_index_or}
use Rattle.std.specs.List.{list_all, AllByRecursion}
use Rattle.std.specs.Ordering.{eq_by_cmp}
use Rattle.std.specs.Option.{option_map}
use Rattle.std.specs.FinMap as finite
use Rattle.std.specs.FinMap.{get-insert, get-remove, get-empty}
use Rattle.std.proofs.lemmas.Bool.{and_parts}
use Rattle.std.proofs.lemmas.Bool.Decides.{nat_tests}
use Rattle.std.proofs.lemmas.List.{length-append, length-map}
use Rattle.reg_names.specs.Names.{folded, folded_path, is_name_unit, is_key_unit, is_key_name, is_value_name, is_path}
use Rattle.refusals.specs.declared.limits.TheConstants.{MOST_KEY_NAME_UNITS, MOST_VALUE_NAME_UNITS, MOST_PATH_NAMES}
use Rattle.reg_tree_parts.specs.declared.value.Value.{Value}
use Rattle.reg_tree_parts.specs.Orders.{name_order, path_order}
use Rattle.reg_tree_parts.specs.Rows.{Row, ValueMap}
use Rattle.reg_tree_parts.specs.NewRows.{new_row}
use Rattle.reg_tree_parts.specs.ValueEdits.{spelled_name, values_with, values_without}
use Rattle.reg_tree_parts.specs.Nodes.{begins_path, one_below}
use Rattle.reg_tree_parts.proofs.Keys.{names_total, names_apart}
use Rattle.reg_tree_parts.proofs.Finds.{equal_of}
use Rattle.reg_tree.specs.Maps.{TreeMap, row}
use Rattle.reg_tree.specs.Operations.{touched, depth_there, descriptor_of, row_created, row_deleted, row_edited, row_after, tree_after}
use Rattle.reg_tree.specs.Judgement.{judged, changed, changed_if}
use Rattle.reg_tree.specs.Encodable.{stored_len, IsEncodableName, IsEncodableValue, IsEncodableAt, IsEncodable, NamesAreValid}
use Rattle.reg_tree.specs.declared.op.Op.{Op}
use Rattle.reg_tree.specs.declared.op.Op.TheVariants.{CreateKey, DeleteKey, SetValue, DeleteValue}
use Rattle.reg_tree.specs.declared.op.Legality.{Legality}
use Rattle.reg_tree.specs.declared.op.Legality.TheVariants.{Legal, Opened}
use Rattle.refusals.specs.declared.refusal.Refusal.{Refusal}
use Rattle.std.proofs.Common.{Result, Ok, Err}
use Rattle.reg_tree.proofs.Paths.{split_begins}
use Rattle.reg_tree.proofs.TreesAfter.{row-tree_after}

-- Names that a call may name

name_unit : (u : ℕ) → is_name_unit u ≡ true → u < 2 ^ 16
name_unit u e = grind (arith, nat_tests, e)

name_units : (name : List ℕ) → list_all is_name_unit name ≡ true → AllByRecursion (λ u. u < 2 ^ 16) name
name_units [] e = tt
name_units (u ∷ us) e = let p = and_parts (is_name_unit u) (list_all is_name_unit us) e in (name_unit u p.0, name_units us p.1)

key_units : (name : List ℕ) → list_all is_key_unit name ≡ true → AllByRecursion (λ u. u < 2 ^ 16) name × AllByRecursion (λ u. u ≢ 0x5c) name
key_units [] e = (tt, tt)
key_units (u ∷ us) e =
    let p = and_parts (is_key_unit u) (list_all is_key_unit us) e in
    let q = and_parts (is_name_unit u) (not (u == 92)) p.0 in
    let rest = key_units us p.1 in
    ((name_unit u q.0, rest.0), ((λ same. not_the_same u same q.1), rest.1))
  where
    not_the_same : (u : ℕ) → u ≡ 0x5c → not (u == 92) ≡ true → ⊥
    not_the_same u same e = grind (arith, nat_tests)

few_bytes : (name : List ℕ) → 2 * length name ≤ 65535 → stored_len name ≤ 65535
few_bytes name few = by_case (list_all (λ u. nat_lt u 0x100) name)
  where
    by_case : (b : Bool) → cond b (length name) (2 * length name) ≤ 65535
    by_case true = omega (arith, few)
    by_case false = few

key_name : (name : List ℕ) → is_key_name name ≡ true → (0 < length name) × IsEncodableName name × AllByRecursion (λ u. u ≢ 0x5c) name
key_name name e =
    let p = and_parts (nat_le 1 (length name) && nat_le (length name) MOST_KEY_NAME_UNITS) (list_all is_key_unit name) e in
    let q = and_parts (nat_le 1 (length name)) (nat_le (length name) MOST_KEY_NAME_UNITS) p.0 in
    let units = key_units name p.1 in
    let long : 1 ≤ length name = some q.0 in
    (omega (arith, long), record { units = units.0; short = few_bytes name (few q.1) }, units.1)
  where
    some : nat_le 1 (length name) ≡ true → 1 ≤ length name
    some t = grind (arith, nat_tests)

    few : nat_le (length name) MOST_KEY_NAME_UNITS ≡ true → 2 * length name ≤ 65535
    few t = grind (arith, nat_tests)

value_name : (name : List ℕ) → is_value_name name ≡ true → IsEncodableName name
value_name name e =
    let p = and_parts (nat_le (length name) MOST_VALUE_NAME_UNITS) (list_all is_name_unit name) e in
    record { units = name_units name p.1; short = few_bytes name (few p.0) }
  where
    few : nat_le (length name) MOST_VALUE_NAME_UNITS ≡ true → 2 * length name ≤ 65535
    few t = grind (arith, nat_tests)

-- an item of a list all of whose items pass
passes_at : {A : Type 0} (p : A → Bool) (xs : List A) (i : ℕ) (d : A) → i < length xs → list_all p xs ≡ true → p (slice_index_or xs i d) ≡ true
passes_at p [] i d below e = absurd (omega (arith, below))
passes_at p (x ∷ xs) zero d below e = (and_parts (p x) (list_all p xs) e).0
passes_at p (x ∷ xs) (suc i) d below e = passes_at p xs i d (omega (arith, below)) (and_parts (p x) (list_all p xs) e).1

-- Rows

module _ (path : List (List ℕ)) where
  touched_too : (moment : ℕ) (key : Row) → IsEncodableAt path key → IsEncodableAt path (touched moment key)
  touched_too moment key s = record {
    shallow = s.shallow;
    named = s.named;
    spelled = record {
      name = s.spelled.name;
      no_backslash = s.spelled.no_backslash;
      flags = s.spelled.flags;
      unmarked = s.spelled.unmarked;
      class = s.spelled.class;
      values = s.spelled.values;
    };
  }

  with_values_too : (values : ValueMap) (key : Row) → ((name : List ℕ) (value : Value) → finite.get values name ≡ Some value → IsEncodableValue name value) → IsEncodableAt path key → IsEncodableAt path (record key { values = values })
  with_values_too values key all s = record {
    shallow = s.shallow;
    named = s.named;
    spelled = record {
      name = s.spelled.name;
      no_backslash = s.spelled.no_backslash;
      flags = s.spelled.flags;
      unmarked = s.spelled.unmarked;
      class = s.spelled.class;
      values = all;
    };
  }

  written_too : (name : List ℕ) (kind : ℕ) (bytes : List ℕ) → is_value_name name ≡ true → (key : Row) → IsEncodableAt path key → IsEncodableAt path (record key { values = values_with key.values name kind bytes })
  written_too name kind bytes may key s = with_values_too _ key all s
    where
      old_name : (old : Option Value) → finite.get key.values (folded name) ≡ old → (folded (spelled_name old name) ≡ folded name) × IsEncodableName (spelled_name old name)
      old_name None e = (refl, value_name name may)
      old_name (Some old) e = let was = s.spelled.values (folded name) old e in (was.filed, was.spelled)

      by_case : (new : Value) → (folded new.name ≡ folded name) × IsEncodableName new.name → (q : List ℕ) (value : Value) (b : Bool) → eq_by_cmp name_order q (folded name) ≡ b → cond b (Some new) (finite.get key.values q) ≡ Some value → IsEncodableValue q value
      by_case new named q value true t e =
          let is : new ≡ value = cc in
          let same : q ≡ folded name = names_apart q (folded name) (equal_of _ t) in
          subst (IsEncodableValue q) is (record { filed = named.0 ∙ sym same; spelled = named.1 })
      by_case new named q value false t e = s.spelled.values q value e

      all : (q : List ℕ) (value : Value) → finite.get (values_with key.values name kind bytes) q ≡ Some value → IsEncodableValue q value
      all q value e = by_case _ (old_name (finite.get key.values (folded name)) refl) q value (eq_by_cmp name_order q (folded name)) refl (sym (get-insert names_total key.values (folded name) _ q) ∙ e)

  unset_too : (name : List ℕ) (key : Row) → IsEncodableAt path key → IsEncodableAt path (record key { values = values_without key.values name })
  unset_too name key s = with_values_too _ key all s
    where
      by_case : (q : List ℕ) (value : Value) (b : Bool) → cond b None (finite.get key.values q) ≡ Some value → IsEncodableValue q value
      by_case q value true e = cc
      by_case q value false e = s.spelled.values q value e

      all : (q : List ℕ) (value : Value) → finite.get (values_without key.values name) q ≡ Some value → IsEncodableValue q value
      all q value e = by_case q value (eq_by_cmp name_order q (folded name)) (sym (get-remove names_total key.values (folded name) q) ∙ e)

-- a new row, by a name of a path
new_too : (path : List (List ℕ)) (name descriptor : List ℕ) (moment : ℕ) → length path ≤ MOST_PATH_NAMES → is_key_name name ≡ true → IsEncodableAt path (new_row name descriptor moment)
new_too path name descriptor moment shallow may =
    let is = key_name name may in
    record {
      shallow = shallow;
      named = λ deep. is.0;
      spelled = record {
        name = is.1;
        no_backslash = is.2;
        flags = omega arith;
        unmarked = refl;
        class = omega arith;
        values = λ q value e. absurd (nothing q value e);
      };
    }
  where
    nothing : (q : List ℕ) (value : Value) → finite.get {R = name_order} finite.empty q ≡ Some value → ⊥
    nothing q value e = let bad : None ≡ Some value = sym (get-empty name_order q) ∙ e in cc

mapped_too : (path : List (List ℕ)) (edit : Row → Row) → ((key : Row) → IsEncodableAt path key → IsEncodableAt path (edit key)) → (o : Option Row) → ((key : Row) → o ≡ Some key → IsEncodableAt path key) → (key : Row) → option_map edit o ≡ Some key → IsEncodableAt path key
mapped_too path edit keeps None was key e = cc
mapped_too path edit keeps (Some old) was key e = let is : edit old ≡ key = cc in subst (IsEncodableAt path) is (keeps old (was old refl))

module _ (tree : TreeMap) (all : IsEncodable tree) where
  pub edited_too : (edit : Row → Row) → ((path : List (List ℕ)) (key : Row) → IsEncodableAt path key → IsEncodableAt path (edit key)) → (p : List (List ℕ)) (moment : ℕ) → (path : List (List ℕ)) (key : Row) → row_edited edit tree p moment path ≡ Some key → IsEncodableAt path key
  edited_too edit keeps p moment path key e = by_case (eq_by_cmp path_order path p) e
    where
      by_case : (b : Bool) → cond b (option_map (λ key. touched moment (edit key)) (row tree path)) (row tree path) ≡ Some key → IsEncodableAt path key
      by_case true e = mapped_too path (λ key. touched moment (edit key)) (λ k s. touched_too path moment (edit k) (keeps path k s)) (row tree path) (all.rows path) key e
      by_case false e = all.rows path key e

  deleted_too : (p : List (List ℕ)) (moment : ℕ) → (path : List (List ℕ)) (key : Row) → row_deleted tree p moment path ≡ Some key → IsEncodableAt path key
  deleted_too p moment path key e = by_case (eq_by_cmp path_order path p) (one_below path p) e
    where
      by_case : (a b : Bool) → cond a None (cond b (option_map (touched moment) (row tree path)) (row tree path)) ≡ Some key → IsEncodableAt path key
      by_case true b e = cc
      by_case false true e = mapped_too path (touched moment) (touched_too path moment) (row tree path) (all.rows path) key e
      by_case false false e = all.rows path key e

  created_too : (spelled : List (List ℕ)) → is_path spelled ≡ true → (moment : ℕ) → (path : List (List ℕ)) (key : Row) → row_created tree spelled moment path ≡ Some key → IsEncodableAt path key
  created_too spelled may moment path key e =
      by_case (eq_by_cmp path_order path (take (depth_there tree (folded_path spelled)) (folded_path spelled))) (begins_path path (folded_path spelled) && nat_lt (depth_there tree (folded_path spelled)) (length path)) refl e
    where
      within : (d : ℕ) → (begins_path path (folded_path spelled) && nat_lt d (length path)) ≡ true → (length path - 1 < length spelled) × (length path ≤ length spelled)
      within d on =
          let p = and_parts (begins_path path (folded_path spelled)) (nat_lt d (length path)) on in
          let more = split_begins path (folded_path spelled) p.0 in
          let whole : length spelled ≡ length path + length more.0 = sym (length-map spelled folded) ∙ ap length more.1 ∙ length-append path more.0 in
          let deep : d < length path = below d p.1 in
          (omega (arith, whole, deep), omega (arith, whole))
        where
          below : (d : ℕ) → nat_lt d (length path) ≡ true → d < length path
          below d t = grind (arith, nat_tests)

      fresh : (descriptor : List ℕ) → (length path - 1 < length spelled) × (length path ≤ length spelled) → IsEncodableAt path (new_row (slice_index_or spelled (length path - 1) []) descriptor moment)
      fresh descriptor near =
          let p = and_parts (nat_le (length spelled) MOST_PATH_NAMES) (list_all is_key_name spelled) may in
          new_too path (slice_index_or spelled (length path - 1) []) descriptor moment (shallow p.0 near.1) (passes_at is_key_name spelled (length path - 1) [] near.0 p.1)
        where
          shallow : nat_le (length spelled) MOST_PATH_NAMES ≡ true → length path ≤ length spelled → length path ≤ MOST_PATH_NAMES
          shallow t le = grind (arith, nat_tests)

      by_case : (a b : Bool) → (begins_path path (folded_path spelled) && nat_lt (depth_there tree (folded_path spelled)) (length path)) ≡ b
          → cond a (option_map (touched moment) (row tree path)) (cond b (Some (new_row (slice_index_or spelled (length path - 1) []) (descriptor_of (row tree (take (depth_there tree (folded_path spelled)) (folded_path spelled)))) moment)) (row tree path)) ≡ Some key → IsEncodableAt path key
      by_case true b t e = mapped_too path (touched moment) (touched_too path moment) (row tree path) (all.rows path) key e
      by_case false true t e =
          let is : new_row (slice_index_or spelled (length path - 1) []) (descriptor_of (row tree (take (depth_there tree (folded_path spelled)) (folded_path spelled)))) moment ≡ key = cc in
          subst (IsEncodableAt path) is (fresh _ (within (depth_there tree (folded_path spelled)) t))
      by_case false false t e = all.rows path key e

  rows_too : (op : Op) → NamesAreValid op → (moment : ℕ) → (path : List (List ℕ)) (key : Row) → row_after tree op moment path ≡ Some key → IsEncodableAt path key
  rows_too (CreateKey hive spelled) may moment path key e = created_too spelled may moment path key e
  rows_too (DeleteKey hive spelled) may moment path key e = deleted_too (folded_path spelled) moment path key e
  rows_too (SetValue hive spelled name kind bytes) may moment path key e = edited_too (λ key. record key { values = values_with key.values name kind bytes }) (λ path key s. written_too path name kind bytes may.1 key s) (folded_path spelled) moment path key e
  rows_too (DeleteValue hive spelled name) may moment path key e = edited_too (λ key. record key { values = values_without key.values name }) (λ path key s. unset_too path name key s) (folded_path spelled) moment path key e

  pub encodable_after : (op : Op) → NamesAreValid op → (moment : ℕ) → IsEncodable (tree_after tree op moment)
  encodable_after op may moment = record { rows = λ path key e. rows_too op may moment path key (sym (row-tree_after tree op moment path) ∙ e) }

  pub encodable_stays : (op : Op) → NamesAreValid op → (moment : ℕ) → IsEncodable (changed tree op moment)
  encodable_stays op may moment = by_case (judged tree op)
    where
      by_case : (j : Result Legality Refusal) → IsEncodable (changed_if j (tree_after tree op moment) tree)
      by_case (Ok Legal) = encodable_after op may moment
      by_case (Ok Opened) = all
      by_case (Err refusal) = all
