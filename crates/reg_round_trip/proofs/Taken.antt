-- The statements of an export are taken into a plan, whose operations make its keys and values.
use Rattle.std.proofs.Common.{◌≡◌, ℕ, zero, suc, ◌+◌, ◌<◌, ◌≤◌, Bool, true, false, List, [], ◌∷◌, ◌++◌, map, length, Option, Some, None, Ok, refl, sym, ◌∙◌, ap, subst, inl, inr, arith, append_assoc, append-nil}
use Rattle.std.specs.Prelude.{◌==◌, nat_le, slice_get, slice_set}
use Rattle.std.specs.List.{AllByRecursion, flat_map}
use Rattle.std.specs.FinMap as finite
use Rattle.std.proofs.lemmas.Bool.Decides.{Decides-eqb, nat_tests}
use Rattle.std.proofs.lemmas.List.Sums.{sum_by-append}
use Rattle.refusals.specs.declared.limits.TheConstants.{MOST_ELEMENT_BYTES, MOST_PATH_NAMES}
use Rattle.reg_names.specs.Names.{folded_path, is_key_name, is_value_name, name_if}
use Rattle.reg_tree_parts.specs.declared.value.Value.{Value}
use Rattle.reg_tree.specs.Maps.{TreeMap, weight, IsTree}
use Rattle.reg_tree.specs.TreeLists.{value_in}
use Rattle.reg_tree.specs.Operations.{hive_of}
use Rattle.reg_tree.specs.Encodings.{op_encoded_len}
use Rattle.reg_tree.specs.Judgement.{changed, judged, legal, legal_if, legal_after, applied, applied_if, applied_one}
use Rattle.reg_tree.specs.declared.op.Op.{Op}
use Rattle.reg_tree.specs.declared.op.Op.TheVariants as op
use Rattle.reg_tree.specs.declared.op.Legality.TheVariants.{Legal, Opened}
use Rattle.reg_tree.proofs.OthersStay.{one_by_one, hives_stay}
use Rattle.reg_tree.proofs.TreesStay.{changed_stays}
use Rattle.key_walk.specs.KeyRows.{NamedRow, tree_rows}
use Rattle.reg_prefixes.specs.declared.prefix.Prefix.{Prefix}
use Rattle.reg_prefixes.specs.Places.{shown_in}
use Rattle.reg_export.specs.RegTexts.{reg_path}
use Rattle.reg_file.specs.declared.statement.Statement.{Statement}
use Rattle.reg_file.specs.declared.statement.Statement.TheVariants.{CreateKey}
use Rattle.reg_file.specs.declared.statement.NumberedStatement.{NumberedStatement}
use Rattle.change_plan.specs.declared.edit.Edit.{Edit}
use Rattle.change_plan.specs.declared.edit.Edit.TheVariants as edit
use Rattle.change_plan.specs.Edits.{IsDatum}
use Rattle.change_plan.specs.Plans.{Planned, ops_len, TakesEdit}
use Rattle.reg_apply.specs.Statements.{with_name, asked, TakesStatement, TakesStatements}
use Rattle.reg_round_trip.specs.Statements.{value_statement, key_statements, export_statements}
use Rattle.reg_round_trip.specs.Operations.{value_op, key_ops, tree_ops, trees_ops}
use Rattle.reg_round_trip.specs.Shown.{PrefixesAreApart}
use Rattle.reg_round_trip.proofs.AddedOps.{AreAdded, WritesNewIn, added_front, added_back}
use Rattle.reg_round_trip.proofs.Units.{not_both}
use Rattle.reg_round_trip.proofs.Entries.{plain}
use Rattle.reg_round_trip.proofs.Places.{Place, place_at}
use Rattle.reg_round_trip.proofs.ShownHives.{AreShown}
use Rattle.reg_round_trip.proofs.ShownPlaces.{place_shown, path_read}

-- a plan with more operations, which it sees carried out
abbrev pub behind : Planned → List Op → Planned
behind old ops = record { view = applied old.view ops old.moment; ops = old.ops ++ ops; moment = old.moment; aside = old.aside }

none_behind : (old : Planned) → behind old [] ≡ old
none_behind old = λ i. record { view = old.view; ops = append-nil old.ops i; moment = old.moment; aside = old.aside }

pub both_behind : (old : Planned) (front back : List Op) → behind (behind old front) back ≡ behind old (front ++ back)
both_behind old front back = λ i. record { view = sym (one_by_one old.view front back old.moment) i; ops = append_assoc old.ops front back i; moment = old.moment; aside = old.aside }

-- operations that are fewer are no longer
longer : (front back : List Op) → ops_len front ≤ ops_len (front ++ back)
longer front back = let whole = sum_by-append op_encoded_len front back in omega (arith, whole)

front_short : (aside : ℕ) (old front back : List Op) → ops_len (old ++ (front ++ back)) + aside ≤ MOST_ELEMENT_BYTES → ops_len (old ++ front) + aside ≤ MOST_ELEMENT_BYTES
front_short aside old front back h =
    let less = longer (old ++ front) back in
    let same : ops_len ((old ++ front) ++ back) ≡ ops_len (old ++ (front ++ back)) = ap ops_len (append_assoc old front back) in
    omega (arith, less, same, h)

back_short : (aside : ℕ) (old front back : List Op) → ops_len (old ++ (front ++ back)) + aside ≤ MOST_ELEMENT_BYTES → ops_len ((old ++ front) ++ back) + aside ≤ MOST_ELEMENT_BYTES
back_short aside old front back h = subst (λ ops. ops_len ops + aside ≤ MOST_ELEMENT_BYTES) (sym (append_assoc old front back)) h

-- each hive has a tree
abbrev pub HasTrees : ℕ → List TreeMap → Type 0
HasTrees hives trees = (hive : ℕ) → hive < hives → (tree : TreeMap) × (slice_get trees hive ≡ Some tree) × IsTree tree

pub get_set : {X : Type 0} (xs : List X) (i : ℕ) (x y : X) → slice_get xs i ≡ Some x → slice_get (slice_set xs i y) i ≡ Some y
get_set [] i x y e = cc
get_set (z ∷ xs) zero x y e = refl
get_set (z ∷ xs) (suc i) x y e = get_set xs i x y e

kept_one : (hives : ℕ) (trees : List TreeMap) (o : Op) (moment : ℕ) → HasTrees hives trees → HasTrees hives (applied_one trees o moment)
kept_one hives trees o moment has hive within = by_hive (hive == hive_of o) refl
  where
    its : (tree : TreeMap) × (slice_get trees hive ≡ Some tree) × IsTree tree
    its = has hive within

    by_hive : (t : Bool) → (hive == hive_of o) ≡ t → (tree : TreeMap) × (slice_get (applied_one trees o moment) hive ≡ Some tree) × IsTree tree
    by_hive true t =
        let same : hive ≡ hive_of o = (Decides-eqb hive (hive_of o)).0 t in
        let found : slice_get trees (hive_of o) ≡ Some its.0 = ap (slice_get trees) (sym same) ∙ its.1 in (
          changed its.0 o moment,
          ap (slice_get (applied_one trees o moment)) same ∙ ap (λ found. slice_get (applied_if trees found o moment) (hive_of o)) found ∙ get_set trees (hive_of o) its.0 (changed its.0 o moment) found,
          changed_stays its.0 its.2 o moment,
        )
    by_hive false t = (its.0, hives_stay trees o moment hive (λ e. not_both (hive == hive_of o) ((Decides-eqb hive (hive_of o)).1 e) t) ∙ its.1, its.2)

pub trees_kept : (hives : ℕ) (trees : List TreeMap) (ops : List Op) (moment : ℕ) → HasTrees hives trees → HasTrees hives (applied trees ops moment)
trees_kept hives trees [] moment has = has
trees_kept hives trees (o ∷ ops) moment has = trees_kept hives (applied_one trees o moment) ops moment (kept_one hives trees o moment has)

-- the edit that writes a value
abbrev value_edit : ℕ → List (List ℕ) → Value → Edit
value_edit hive path value = edit.WriteValue hive path value.name value.kind value.«data»

-- one operation is taken, and the write of a value that isn't there
op_taken : (old : Planned) (o : Op) → legal old.view o ≡ Ok Legal → ops_len (old.ops ++ o ∷ []) + old.aside ≤ MOST_ELEMENT_BYTES → TakesEdit old (edit.Operation o) (behind old (o ∷ []))
op_taken old o is short = record { more = o ∷ []; asked = inl (is, refl); ops = refl; view = refl; moment = refl; aside = refl; short = short }

not_datum : (o : Option Value) (kind : ℕ) (bytes : List ℕ) → o ≡ None → IsDatum o kind bytes → ⊥
not_datum None kind bytes none its = its
not_datum (Some value) kind bytes none its = absurd (let no : ⊥ = cc in no)

value_taken : (old : Planned) (hive : ℕ) (path : List (List ℕ)) (value : Value) → legal old.view (value_op hive path value) ≡ Ok Legal → WritesNewIn old.view (value_op hive path value) → ops_len (old.ops ++ value_op hive path value ∷ []) + old.aside ≤ MOST_ELEMENT_BYTES
    → TakesEdit old (value_edit hive path value) (behind old (value_op hive path value ∷ []))
value_taken old hive path value is new short = record {
  more = value_op hive path value ∷ [];
  asked = inr (not_datum (value_in old.view hive (folded_path path) value.name) value.kind value.«data» new, inl (is, refl));
  ops = refl;
  view = refl;
  moment = refl;
  aside = refl;
  short = short;
}

-- what a value asks for
asked_value : (prefixes : List Prefix) (hives hive : ℕ) (path : List (List ℕ)) (value : Value) → is_value_name value.name ≡ true
    → asked prefixes hives (Some (place_at hive path)) (value_statement value) ≡ Ok (value_edit hive path value, Some (place_at hive path))
asked_value prefixes hives hive path value named = ap (λ b. with_name (name_if b value.name) (λ n. Ok (edit.WriteValue hive path n value.kind value.«data», Some (place_at hive path)))) named

-- a key that calls may name
pub record IsCallRow (key : NamedRow) : Type 0 where
  pub names : AllByRecursion (λ n. is_key_name n ≡ true) key.0
  pub shallow : length key.0 ≤ MOST_PATH_NAMES
  pub values : AllByRecursion (λ (v : Value). is_value_name v.name ≡ true) (finite.values (let its = key.1 in its.values))

module _ (prefixes : List Prefix) (hives : ℕ) where
  -- statements without their numbers are taken
  abbrev pub Takes : Option Place → Planned → List Statement → Option Place → Planned → Type 0
  Takes first old [] last new = (last ≡ first) × (new ≡ old)
  Takes first old (statement ∷ statements) last new = (next : Option Place) × (mid : Planned) × TakesStatement prefixes hives first old statement next mid × Takes next mid statements last new

  pub with_numbers : (first : Option Place) (old : Planned) (numbered : List NumberedStatement) (last : Option Place) (new : Planned) → Takes first old (map plain numbered) last new → TakesStatements prefixes hives first old numbered last new
  with_numbers first old [] last new t = t
  with_numbers first old (n ∷ numbered) last new t = (t.0, t.1, t.2, with_numbers t.0 t.1 numbered last new t.3)

  takes_both : (first mid last : Option Place) (old between new : Planned) (front back : List Statement) → Takes first old front mid between → Takes mid between back last new → Takes first old (front ++ back) last new
  takes_both first mid last old between new [] back one two = subst (λ p. Takes p old back last new) one.0 (subst (λ p. Takes mid p back last new) one.1 two)
  takes_both first mid last old between new (s ∷ front) back one two = (one.0, one.1, one.2, takes_both one.0 mid last one.1 between new front back one.3 two)

  -- values
  values_taken : (hive : ℕ) (path : List (List ℕ)) (values : List Value) → AllByRecursion (λ (v : Value). is_value_name v.name ≡ true) values → (old : Planned) → AreAdded old.view (map (value_op hive path) values) old.moment
      → ops_len (old.ops ++ map (value_op hive path) values) + old.aside ≤ MOST_ELEMENT_BYTES → Takes (Some (place_at hive path)) old (map value_statement values) (Some (place_at hive path)) (behind old (map (value_op hive path) values))
  values_taken hive path [] named old added short = (refl, none_behind old)
  values_taken hive path (value ∷ values) named old added short =
      let its = value_op hive path value in
      let others = map (value_op hive path) values in
      let mid = behind old (its ∷ []) in
      let first = value_taken old hive path value added.0.0 added.0.1 (front_short old.aside old.ops (its ∷ []) others short) in
      let rest = values_taken hive path values named.1 mid added.1 (back_short old.aside old.ops (its ∷ []) others short) in
      (Some (place_at hive path), mid, (value_edit hive path value, asked_value prefixes hives hive path value named.0, first), subst (Takes (Some (place_at hive path)) mid (map value_statement values) (Some (place_at hive path))) (both_behind old (its ∷ []) others) rest)

  module _ (apart : PrefixesAreApart prefixes) (hive : ℕ) (within : hive < hives) (prefix : List ℕ) (shown : shown_in prefixes hive ≡ Some prefix) where
    asked_key : (current : Option Place) (path : List (List ℕ)) → AllByRecursion (λ n. is_key_name n ≡ true) path → length path ≤ MOST_PATH_NAMES → asked prefixes hives current (CreateKey (reg_path prefix path)) ≡ Ok (edit.Operation (op.CreateKey hive path), Some (place_at hive path))
    asked_key current path named shallow =
        let there : nat_le hives hive ≡ false = grind (arith, nat_tests, within) in
        rw (place_shown prefixes apart hive prefix shown path, there, path_read path named shallow) refl

    root_opened : (trees : List TreeMap) → HasTrees hives trees → legal trees (op.CreateKey hive []) ≡ Ok Opened
    root_opened trees has =
        let its = has hive within in
        let tree_is = its.2 in
        let opened : judged its.0 (op.CreateKey hive []) ≡ Ok Opened = rw tree_is.root refl in
        ap (λ o. legal_if o (op.CreateKey hive [])) its.1 ∙ ap (λ j. legal_after (op.CreateKey hive []) j (weight (changed its.0 (op.CreateKey hive []) 0))) opened

    key_taken : (current : Option Place) (key : NamedRow) → IsCallRow key → (old : Planned) → HasTrees hives old.view → AreAdded old.view (key_ops hive key) old.moment → ops_len (old.ops ++ key_ops hive key) + old.aside ≤ MOST_ELEMENT_BYTES
        → Takes current old (key_statements prefix key) (Some (place_at hive key.0)) (behind old (key_ops hive key))
    key_taken current ([], its) call old has added short =
        let place = place_at hive [] in
        let key : NamedRow = ([], its) in
        let values = finite.values its.values in
        let ops = map (value_op hive []) values in
        let fits = front_short old.aside old.ops [] ops short in
        let opened : TakesEdit old (edit.Operation (op.CreateKey hive [])) old = record {
          more = [];
          asked = inr (root_opened old.view has, refl);
          ops = sym (append-nil old.ops);
          view = refl;
          moment = refl;
          aside = refl;
          short = subst (λ os. ops_len os + old.aside ≤ MOST_ELEMENT_BYTES) (append-nil old.ops) fits;
        } in
        (Some place, old, (edit.Operation (op.CreateKey hive []), asked_key current key.0 call.names call.shallow, opened), values_taken hive key.0 values call.values old added short)
    key_taken current (name ∷ names, its) call old has added short =
        let path = name ∷ names in
        let place = place_at hive path in
        let key : NamedRow = (path, its) in
        let values = finite.values its.values in
        let ops = map (value_op hive path) values in
        let first = op.CreateKey hive path in
        let mid = behind old (first ∷ []) in
        let made = op_taken old first added.0.0 (front_short old.aside old.ops (first ∷ []) ops short) in
        let rest = values_taken hive key.0 values call.values mid added.1 (back_short old.aside old.ops (first ∷ []) ops short) in
        (Some place, mid, (edit.Operation first, asked_key current key.0 call.names call.shallow, made), subst (Takes (Some place) mid (map value_statement values) (Some place)) (both_behind old (first ∷ []) ops) rest)

    -- the keys of a hive
    pub keys_taken : (keys : List NamedRow) → AllByRecursion IsCallRow keys → (current : Option Place) (old : Planned) → HasTrees hives old.view → AreAdded old.view (flat_map (key_ops hive) keys) old.moment → ops_len (old.ops ++ flat_map (key_ops hive) keys) + old.aside ≤ MOST_ELEMENT_BYTES
        → (last : Option Place) × Takes current old (flat_map (key_statements prefix) keys) last (behind old (flat_map (key_ops hive) keys))
    keys_taken [] calls current old has added short = (current, (refl, none_behind old))
    keys_taken (key ∷ keys) calls current old has added short =
        let front = key_ops hive key in
        let back = flat_map (key_ops hive) keys in
        let mid = behind old front in
        let one = key_taken current key calls.0 old has (added_front old.view front back old.moment added) (front_short old.aside old.ops front back short) in
        let rest = keys_taken keys calls.1 (Some (place_at hive key.0)) mid (trees_kept hives old.view front old.moment has) (added_back old.view front back old.moment added) (back_short old.aside old.ops front back short) in
        (rest.0, takes_both current (Some (place_at hive key.0)) rest.0 old mid (behind old (front ++ back)) (key_statements prefix key) (flat_map (key_statements prefix) keys) one (subst (Takes (Some (place_at hive key.0)) mid (flat_map (key_statements prefix) keys) rest.0) (both_behind old front back) rest.1))

  -- all hives
  pub hives_taken : PrefixesAreApart prefixes → (hive : ℕ) (trees : List TreeMap) (shown : List (List ℕ × List NamedRow)) → AreShown prefixes hive trees shown → hive + length trees ≤ hives → AllByRecursion (λ tree. AllByRecursion IsCallRow (tree_rows tree)) trees
      → (current : Option Place) (old : Planned) → HasTrees hives old.view → AreAdded old.view (trees_ops hive trees) old.moment → ops_len (old.ops ++ trees_ops hive trees) + old.aside ≤ MOST_ELEMENT_BYTES
      → (last : Option Place) × Takes current old (export_statements shown) last (behind old (trees_ops hive trees))
  hives_taken apart hive [] shown are within calls current old has added short = (current, subst (λ hs. Takes current old (export_statements hs) current (behind old [])) (sym are) (refl, none_behind old))
  hives_taken apart hive (tree ∷ trees) shown are within calls current old has added short =
      let prefix = are.0 in
      let others = are.1 in
      let front = tree_ops hive tree in
      let back = trees_ops (hive + 1) trees in
      let mid = behind old front in
      let one = keys_taken apart hive (omega (arith, within)) prefix are.2 (tree_rows tree) calls.0 current old has (added_front old.view front back old.moment added) (front_short old.aside old.ops front back short) in
      let rest = hives_taken apart (hive + 1) trees others are.4 (omega (arith, within)) calls.1 one.0 mid (trees_kept hives old.view front old.moment has) (added_back old.view front back old.moment added) (back_short old.aside old.ops front back short) in
      let whole = takes_both current one.0 rest.0 old mid (behind old (front ++ back)) (flat_map (key_statements prefix) (tree_rows tree)) (export_statements others) one.1 (subst (Takes one.0 mid (export_statements others) rest.0) (both_behind old front back) rest.1) in
      (rest.0, subst (λ hs. Takes current old (export_statements hs) rest.0 (behind old (front ++ back))) (sym are.3) whole)
