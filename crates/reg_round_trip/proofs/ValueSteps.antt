-- The values of a key, written one after another.
use Rattle.std.proofs.Common.{◌≡◌, ℕ, ◌≤◌, Bool, true, false, cond, T, List, [], ◌∷◌, ◌++◌, length, Option, Some, None, Ok, Err, IsSome, refl, sym, ◌∙◌, ap, subst, arith}
use Rattle.std.specs.Prelude.{nat_lt}
use Rattle.std.specs.Option.{option_map, option_and_then}
use Rattle.std.specs.Ordering.{eq_by_cmp}
use Rattle.std.specs.FinMap as finite
use Rattle.std.specs.FinMap.{get-insert, same_map, get-empty, get-entries}
use Rattle.std.specs.FinMap.Entries.{find, below_all}
use Rattle.std.proofs.lemmas.Bool.Decides.{nat_tests}
use Rattle.refusals.specs.declared.refusal.Refusal.TheVariants.{TooLarge}
use Rattle.refusals.specs.declared.limits.TheConstants.{MOST_VALUE_BYTES, MOST_WEIGHT}
use Rattle.reg_names.specs.Names.{folded, folded_path}
use Rattle.reg_tree_parts.specs.declared.value.Value.{Value}
use Rattle.reg_tree_parts.specs.Orders.{name_order, path_order}
use Rattle.reg_tree_parts.specs.Rows.{Row, ValueMap}
use Rattle.reg_tree_parts.specs.Weights.{value_weight}
use Rattle.reg_tree_parts.specs.ValueEdits.{values_with, spelled_name}
use Rattle.reg_tree_parts.proofs.Keys.{names_total, names_apart}
use Rattle.reg_tree_parts.proofs.Finds.{equal_of}
use Rattle.reg_tree.specs.Maps.{TreeMap, row, weight}
use Rattle.reg_tree.specs.Reads.{value_at}
use Rattle.reg_tree.specs.Operations.{touched, row_edited, tree_after}
use Rattle.reg_tree.specs.Judgement.{judged, judged_there, changed, changed_if, legal_in, legal_after, weighed}
use Rattle.reg_tree.specs.declared.op.Op.{Op}
use Rattle.reg_tree.specs.declared.op.Op.TheVariants.{SetValue}
use Rattle.reg_tree.specs.declared.op.Legality.TheVariants.{Legal}
use Rattle.reg_tree.proofs.Paths.{eq_is, name_self}
use Rattle.reg_tree.proofs.Sums.{of_option}
use Rattle.reg_tree.proofs.TreesAfter.{row-tree_after}
use Rattle.reg_tree.proofs.TreesStay.{changed_stays}
use Rattle.reg_round_trip.specs.NewTrees.{made_tree_weight}
use Rattle.reg_round_trip.proofs.AddedOps.{WritesNew}
use Rattle.reg_round_trip.proofs.Units.{none_some}
use Rattle.reg_round_trip.proofs.SortedKeys.{none_at}
use Rattle.reg_round_trip.proofs.MadeTrees.{Wanted, IsMade, IsBuilt}
use Rattle.reg_round_trip.proofs.MadeWeights.{values_weight, fewer_values, IsBounded, built_weight}
use Rattle.reg_round_trip.proofs.KeySteps.{updated}

-- operations on one tree, each of which is legal, changes it, and writes no value that is there
abbrev pub LegalSteps : ℕ → TreeMap → List Op → TreeMap → Type 0
LegalSteps moment tree [] new = new ≡ tree
LegalSteps moment tree (op ∷ ops) new = ((legal_in tree op ≡ Ok Legal) × WritesNew tree op) × LegalSteps moment (changed tree op moment) ops new

pub steps_both : (moment : ℕ) (tree mid new : TreeMap) (front back : List Op) → LegalSteps moment tree front mid → LegalSteps moment mid back new → LegalSteps moment tree (front ++ back) new
steps_both moment tree mid new [] back one two = subst (λ t. LegalSteps moment t back new) one two
steps_both moment tree mid new (op ∷ front) back one two = (one.0, steps_both moment (changed tree op moment) mid new front back one.1 two)

-- the weight of what it makes decides
pub light_is_legal : (total : ℕ) → total ≤ MOST_WEIGHT → weighed total ≡ Ok Legal
light_is_legal total h = let light : nat_lt MOST_WEIGHT total ≡ false = grind (arith, nat_tests, h) in rw light refl

-- one value
module _ (tree : TreeMap) (want : Wanted) (built : IsBuilt tree want) (hive : ℕ) (spelled path : List (List ℕ)) (is_path : folded_path spelled ≡ path) (key_name : List ℕ) (values : ValueMap) (here : want path ≡ Some (key_name, values)) (name : List ℕ) (kind : ℕ) (bytes : List ℕ) (few : length bytes ≤ MOST_VALUE_BYTES) where
  there : IsSome (row tree path)
  there = by_row (row tree path) (subst (IsMade path (row tree path)) here (built.made path))
    where
      by_row : (o : Option Row) → IsMade path o (Some (key_name, values)) → IsSome o
      by_row None m = absurd m
      by_row (Some key) m = refl

  pub set_judged : judged tree (SetValue hive spelled name kind bytes) ≡ Ok Legal
  set_judged = ap (λ p. judged_there (row tree p) (λ key. cond (nat_lt MOST_VALUE_BYTES (length bytes)) (Err TooLarge) (Ok Legal))) is_path ∙ by_row (row tree path) there
    where
      by_row : (o : Option Row) → IsSome o → judged_there o (λ key. cond (nat_lt MOST_VALUE_BYTES (length bytes)) (Err TooLarge) (Ok Legal)) ≡ Ok Legal
      by_row None s = absurd (none_some {A = Row} None refl s)
      by_row (Some key) s = let small : nat_lt MOST_VALUE_BYTES (length bytes) ≡ false = grind (arith, nat_tests, few) in rw small refl

  edit : Row → Row
  edit key = record key { values = values_with key.values name kind bytes }

  changed_at : (moment : ℕ) (at : List (List ℕ)) → row (changed tree (SetValue hive spelled name kind bytes) moment) at ≡ row_edited edit tree path moment at
  unfolding edit
  changed_at moment at =
      ap (λ j. row (changed_if j (tree_after tree (SetValue hive spelled name kind bytes) moment) tree) at) set_judged
      ∙ row-tree_after tree (SetValue hive spelled name kind bytes) moment at ∙ ap (λ p. row_edited edit tree p moment at) is_path

  edited_made : (moment : ℕ) (at : List (List ℕ)) (o : Option Row) → IsMade at o (Some (key_name, values)) → IsMade at (option_map (λ key. touched moment (edit key)) o) (Some (key_name, values_with values name kind bytes))
  unfolding edit
  edited_made moment at None m = absurd m
  edited_made moment at (Some key) m = record { named = m.named; root = m.root; short = m.short; class = m.class; descriptor = m.descriptor; values = ap (λ v. values_with v name kind bytes) m.values }

  made_at : (moment : ℕ) (at : List (List ℕ)) → IsMade at (row_edited edit tree path moment at) (updated want path (key_name, values_with values name kind bytes) at)
  made_at moment at = by_path (eq_by_cmp path_order at path) refl
    where
      by_path : (t : Bool) → eq_by_cmp path_order at path ≡ t → IsMade at (cond t (option_map (λ key. touched moment (edit key)) (row tree at)) (row tree at)) (cond t (Some (key_name, values_with values name kind bytes)) (want at))
      by_path true t = edited_made moment at (row tree at) (subst (IsMade at (row tree at)) (ap want (eq_is at path t) ∙ here) (built.made at))
      by_path false t = built.made at

  -- it isn't there if the values that the key is to have lack it
  pub set_new : finite.get values (folded name) ≡ None → WritesNew tree (SetValue hive spelled name kind bytes)
  set_new none = ap (λ p. value_at tree p name) is_path ∙ by_row (row tree path) (subst (IsMade path (row tree path)) here (built.made path))
    where
      by_row : (o : Option Row) → IsMade path o (Some (key_name, values)) → option_and_then (λ key. finite.get key.values (folded name)) o ≡ None
      by_row None m = absurd m
      by_row (Some key) m = ap (λ v. finite.get v (folded name)) m.values ∙ none

  pub set_built : (moment : ℕ) → IsBuilt (changed tree (SetValue hive spelled name kind bytes) moment) (updated want path (key_name, values_with values name kind bytes))
  set_built moment = record {
    is_tree = changed_stays tree built.is_tree (SetValue hive spelled name kind bytes) moment;
    made = λ at. subst (λ o. IsMade at o (updated want path (key_name, values_with values name kind bytes) at)) (sym (changed_at moment at)) (made_at moment at);
  }

  pub set_legal : (whole : TreeMap) → IsBounded whole (updated want path (key_name, values_with values name kind bytes)) → made_tree_weight whole ≤ MOST_WEIGHT → legal_in tree (SetValue hive spelled name kind bytes) ≡ Ok Legal
  set_legal whole bounded light =
      let less = built_weight (changed tree (SetValue hive spelled name kind bytes) 0) whole (updated want path (key_name, values_with values name kind bytes)) (set_built 0) bounded in
      ap (λ j. legal_after (SetValue hive spelled name kind bytes) j (weight (changed tree (SetValue hive spelled name kind bytes) 0))) set_judged
      ∙ light_is_legal (weight (changed tree (SetValue hive spelled name kind bytes) 0)) (omega (arith, less, light))

-- what a key has while the values of these entries are still to come
abbrev pub got : Option Value → Option Value → Option Value
got None its = its
got (Some value) its = None

abbrev pub HasOthers : ValueMap → List (List ℕ × Value) → ValueMap → Type 0
HasOthers whole rest some = (name : List ℕ) → finite.get some name ≡ got (find name_order name rest) (finite.get whole name)

pub has_none : (whole : ValueMap) → HasOthers whole (finite.entries whole) finite.empty
has_none whole name = get-empty name_order name ∙ by_get (finite.get whole name) (find name_order name (finite.entries whole)) (get-entries whole name)
  where
    by_get : (o found : Option Value) → o ≡ found → None ≡ got found o
    by_get o None e = sym e
    by_get o (Some value) e = refl

pub has_all : (whole some : ValueMap) → HasOthers whole [] some → some ≡ whole
has_all whole some h = same_map names_total names_apart some whole h

pub no_more : (whole some : ValueMap) (rest : List (List ℕ × Value)) → HasOthers whole rest some → values_weight some ≤ values_weight whole
no_more whole some rest h = fewer_values some whole (λ name. by_found name (find name_order name rest) (h name))
  where
    by_found : (name : List ℕ) (found : Option Value) → finite.get some name ≡ got found (finite.get whole name) → of_option value_weight (finite.get some name) ≤ of_option value_weight (finite.get whole name)
    by_found name None e = let same = ap (of_option value_weight) e in omega (arith, same)
    by_found name (Some value) e = let same = ap (of_option value_weight) e in omega (arith, same)

-- one value more
module _ (whole some : ValueMap) (name : List ℕ) (value : Value) (rest : List (List ℕ × Value)) (others : HasOthers whole ((name, value) ∷ rest) some) (its : finite.get whole name ≡ Some value) (filed : folded value.name ≡ name) (apart : T (below_all name_order name rest)) where
  self : (n : List ℕ) → eq_by_cmp name_order n n ≡ true
  self n = name_self n

  pub was_none : finite.get some name ≡ None
  was_none = others name ∙ ap (λ t. got (cond t (Some value) (find name_order name rest)) (finite.get whole name)) (self name)

  written_is : values_with some value.name value.kind value.«data» ≡ finite.insert some name value
  written_is = ap (λ n. finite.insert some n (record { name = spelled_name (finite.get some n) value.name; kind = value.kind; «data» = value.«data» })) filed
      ∙ ap (λ o. finite.insert some name (record { name = spelled_name o value.name; kind = value.kind; «data» = value.«data» })) was_none

  pub written_has : HasOthers whole rest (values_with some value.name value.kind value.«data»)
  written_has n = ap (λ m. finite.get m n) written_is ∙ get-insert names_total some name value n ∙ by_name (eq_by_cmp name_order n name) refl
    where
      by_name : (t : Bool) → eq_by_cmp name_order n name ≡ t → cond t (Some value) (finite.get some n) ≡ got (find name_order n rest) (finite.get whole n)
      by_name true t =
          let same : n ≡ name = names_apart n name (equal_of (name_order n name) t) in
          sym its ∙ ap (finite.get whole) (sym same) ∙ ap (λ o. got o (finite.get whole n)) (sym (none_at names_total name rest apart) ∙ ap (λ m. find name_order m rest) (sym same))
      by_name false t = others n ∙ ap (λ b. got (cond b (Some value) (find name_order n rest)) (finite.get whole n)) t
