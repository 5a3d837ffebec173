-- A part of a tree, made in a new one: its first key with all on the way to it, and then the others.
use Rattle.std.proofs.Common.{◌≡◌, ℕ, ◌-◌, ◌≤◌, Bool, true, false, cond, ◌&&◌, T, List, [], ◌∷◌, map, length, filter, Option, Some, None, Ok, IsSome, is_some, refl, sym, ◌∙◌, ap, subst, arith}
use Rattle.std.specs.Prelude.{nat_lt, slice_index_or}
use Rattle.std.specs.Option.{option_map}
use Rattle.std.specs.List.{AllByRecursion, flat_map}
use Rattle.std.specs.declared.cmp.Ordering.TheVariants.{Less}
use Rattle.std.specs.Ordering.{eq_by_cmp}
use Rattle.std.specs.FinMap as finite
use Rattle.std.specs.FinMap.{entries_sorted}
use Rattle.std.specs.FinMap.Entries.{find, is_sorted, below_all, is_sorted-where_key}
use Rattle.std.proofs.lemmas.Bool.Decides.{nat_tests}
use Rattle.refusals.specs.declared.limits.TheConstants.{MOST_NEW_LEVELS, MOST_WEIGHT}
use Rattle.reg_names.specs.Names.{folded_path}
use Rattle.reg_tree_parts.specs.Orders.{path_order}
use Rattle.reg_tree_parts.specs.Rows.{Row}
use Rattle.reg_tree_parts.specs.NewRows.{new_row}
use Rattle.reg_tree_parts.specs.Nodes.{begins_path}
use Rattle.reg_tree_parts.proofs.Keys.{paths_total}
use Rattle.reg_tree_parts.proofs.SortedLists.{front_of, back_of}
use Rattle.reg_tree.specs.Maps.{TreeMap, row, beginnings, is_there, missing, weight, IsTree}
use Rattle.reg_tree.specs.Fresh.{fresh_row, fresh_tree}
use Rattle.reg_tree.specs.Operations.{touched, depth_there, tree_after}
use Rattle.reg_tree.specs.Judgement.{judged, judged_create, changed, changed_if, legal_in, legal_after}
use Rattle.reg_tree.specs.declared.op.Op.TheVariants.{CreateKey}
use Rattle.reg_tree.specs.declared.op.Legality.TheVariants.{Legal}
use Rattle.reg_tree.proofs.Paths.{eq_self, eq_is}
use Rattle.reg_tree.proofs.Paths.{split_begins}
use Rattle.reg_tree.proofs.Depths.{beginning_there, levels_missing}
use Rattle.reg_tree.proofs.Changes.{created_is}
use Rattle.reg_tree.proofs.TreesAfter.{row-tree_after}
use Rattle.reg_tree.proofs.TreesStay.{changed_stays}
use Rattle.key_walk.specs.KeyRows.{NamedRow, name_of_row, spelled_names, tree_rows}
use Rattle.key_walk.specs.SubtreeRows.{rows_below}
use Rattle.reg_round_trip.specs.Contents.{HasSameKey}
use Rattle.reg_round_trip.specs.Operations.{value_op, key_ops}
use Rattle.reg_round_trip.specs.NewTrees.{made_tree_weight, IsCallTree}
use Rattle.reg_round_trip.specs.Parts.{emptied, HasPart, part_ops}
use Rattle.reg_round_trip.proofs.Units.{none_some, not_both, not_true}
use Rattle.reg_round_trip.proofs.SortedKeys.{none_at, none_before, each_got}
use Rattle.reg_round_trip.proofs.Spelled.{folded_spelled, spelled_index}
use Rattle.reg_round_trip.proofs.MadeTrees.{Wanted, IsMade, IsBuilt, content, by_rest, wanted, fresh_none, fresh_root, fresh_is_tree}
use Rattle.reg_round_trip.proofs.MadeWeights.{IsBounded, built_weight}
use Rattle.reg_round_trip.proofs.KeySteps.{updated}
use Rattle.reg_round_trip.proofs.ValueSteps.{LegalSteps, steps_both, light_is_legal}
use Rattle.reg_round_trip.proofs.TreeSteps.{same_want, bounded_updated, key_written, bounded_wanted, empty_light, keys_made, call_values, built_same, tree_rebuilt}
use Rattle.reg_round_trip.proofs.PartTrees.{part, row_part, row_inside, row_above, row_outside, part_call}
use Rattle.reg_round_trip.proofs.PartSteps.{self_begins, begun_less, both_begin, filter_all, all_left_of, Entry, inside, first_of, found_inside, same_rows}

module _ (tree : TreeMap) (is_tree : IsTree tree) (n : List ℕ) (t : List (List ℕ)) (key : Row) (there : row tree (n ∷ t) ≡ Some key) (rest : List Entry) (list : inside tree (n ∷ t) ≡ (n ∷ t, key) ∷ rest) (apart : T (below_all path_order (n ∷ t) rest)) (few : length (n ∷ t) ≤ MOST_NEW_LEVELS) (hive : ℕ) where
  -- its names
  first : List ℕ
  first = name_of_row (row tree (n ∷ []))

  further : List (List ℕ)
  further = map (λ start. name_of_row (row tree start)) (map (λ more. n ∷ more) (beginnings t))

  path_is : folded_path (spelled_names tree (n ∷ t)) ≡ n ∷ t
  path_is = folded_spelled tree is_tree (n ∷ t) (ap is_some there)

  no_key : row fresh_tree (n ∷ t) ≡ None
  no_key = fresh_none n t

  levels : length (missing fresh_tree (n ∷ t)) ≡ length (n ∷ t)
  levels = let all = levels_missing fresh_tree fresh_is_tree (n ∷ t) 0 (omega arith) (ap is_some fresh_root) (λ deep more. fresh_none n more) in omega (arith, all)

  first_judged : judged fresh_tree (CreateKey hive (spelled_names tree (n ∷ t))) ≡ Ok Legal
  first_judged =
      let gone : is_there fresh_tree (n ∷ t) ≡ false = ap is_some no_key in
      let count = levels in
      let allowed : nat_lt MOST_NEW_LEVELS (length (missing fresh_tree (n ∷ t))) ≡ false = grind (arith, nat_tests, count, few) in
      ap (judged_create fresh_tree) path_is ∙ rw (gone, allowed) refl

  depth : 0 ≡ depth_there fresh_tree (folded_path (spelled_names tree (n ∷ t)))
  depth =
      let count = levels in
      let same : depth_there fresh_tree (folded_path (spelled_names tree (n ∷ t))) ≡ length (n ∷ t) - length (missing fresh_tree (n ∷ t)) = ap (depth_there fresh_tree) path_is in
      omega (arith, count, same)

  -- the rows behind it
  new_at : ℕ → List (List ℕ) → Option Row
  new_at moment at =
      cond (eq_by_cmp path_order at []) (option_map (touched moment) (row fresh_tree at))
      (cond (begins_path at (n ∷ t) && nat_lt 0 (length at)) (Some (new_row (slice_index_or (spelled_names tree (n ∷ t)) (length at - 1) []) fresh_row.descriptor moment)) (row fresh_tree at))

  changed_at : (moment : ℕ) (at : List (List ℕ)) → row (changed fresh_tree (CreateKey hive (spelled_names tree (n ∷ t))) moment) at ≡ new_at moment at
  unfolding new_at first further
  changed_at moment at =
      ap (λ j. row (changed_if j (tree_after fresh_tree (CreateKey hive (spelled_names tree (n ∷ t))) moment) fresh_tree) at) first_judged
      ∙ row-tree_after fresh_tree (CreateKey hive (spelled_names tree (n ∷ t))) moment at
      ∙ sym (created_is fresh_tree (spelled_names tree (n ∷ t)) [] further first 0 fresh_row moment refl depth refl fresh_root at)
      ∙ ap (λ p. cond (eq_by_cmp path_order at []) (option_map (touched moment) (row fresh_tree at)) (cond (begins_path at p && nat_lt 0 (length at)) (Some (new_row (slice_index_or (spelled_names tree (n ∷ t)) (length at - 1) []) fresh_row.descriptor moment)) (row fresh_tree at))) path_is

  abbrev its_part : TreeMap
  its_part = part tree is_tree (n ∷ t)

  abbrev its_want : Wanted
  its_want = updated (wanted its_part rest) (n ∷ t) (key.name, finite.empty)

  none_rest : (at : List (List ℕ)) → path_order at (n ∷ t) ≡ Less → find path_order at rest ≡ None
  none_rest at less = none_before paths_total at (n ∷ t) rest less apart

  root_made : (moment : ℕ) → IsMade [] (new_at moment []) (its_want [])
  unfolding new_at
  root_made moment =
      subst (λ o. IsMade [] (option_map (touched moment) o) (its_want [])) (sym fresh_root)
      (subst (λ o. IsMade [] (Some (touched moment fresh_row)) (by_rest [] (row its_part []) o)) (sym (none_rest [] refl))
      (subst (λ o. IsMade [] (Some (touched moment fresh_row)) (option_map content o)) (sym (row_above tree is_tree (n ∷ t) [] refl refl)) (by_root (row tree []) is_tree.root)))
    where
      by_root : (o : Option Row) → IsSome o → IsMade [] (Some (touched moment fresh_row)) (option_map content (option_map emptied o))
      by_root None s = absurd (none_some {A = Row} None refl s)
      by_root (Some root) s = record { named = λ deep. absurd (omega (arith, deep)); root = λ none. refl; short = omega arith; class = refl; descriptor = refl; values = refl }

  -- a key on the way, and the first key
  way_name : (a : List ℕ) (r : List (List ℕ)) → begins_path (a ∷ r) (n ∷ t) ≡ true → slice_index_or (spelled_names tree (n ∷ t)) (length (a ∷ r) - 1) [] ≡ name_of_row (row tree (a ∷ r))
  way_name a r on =
      let s = split_begins (a ∷ r) (n ∷ t) on in
      ap (λ p. slice_index_or (spelled_names tree p) (length (a ∷ r) - 1) []) s.1 ∙ spelled_index tree a r s.0

  way_there : (a : List ℕ) (r : List (List ℕ)) → begins_path (a ∷ r) (n ∷ t) ≡ true → IsSome (row tree (a ∷ r))
  way_there a r on = let s = split_begins (a ∷ r) (n ∷ t) on in beginning_there tree is_tree (a ∷ r) s.0 (subst (λ p. IsSome (row tree p)) s.1 (ap is_some there))

  made_row : (moment : ℕ) (a : List ℕ) (r : List (List ℕ)) (name wanted_name : List ℕ) → name ≡ wanted_name → IsMade (a ∷ r) (Some (new_row name fresh_row.descriptor moment)) (Some (wanted_name, finite.empty))
  made_row moment a r name wanted_name e = record { named = λ deep. e; root = λ none. absurd (omega (arith, none)); short = subst (λ w. length name ≤ length w) e (omega arith); class = refl; descriptor = refl; values = refl }

  on_way : (moment : ℕ) (a : List ℕ) (r : List (List ℕ)) → begins_path (a ∷ r) (n ∷ t) ≡ true → (same : Bool) → eq_by_cmp path_order (a ∷ r) (n ∷ t) ≡ same
      → IsMade (a ∷ r) (Some (new_row (slice_index_or (spelled_names tree (n ∷ t)) (length (a ∷ r) - 1) []) fresh_row.descriptor moment)) (cond same (Some (key.name, finite.empty)) (wanted its_part rest (a ∷ r)))
  on_way moment a r on true same = made_row moment a r _ key.name (way_name a r on ∙ ap name_of_row (ap (row tree) (eq_is (a ∷ r) (n ∷ t) same) ∙ there))
  on_way moment a r on false same =
      let differ : (n ∷ t ≡ a ∷ r → ⊥) = λ e. not_both (eq_by_cmp path_order (a ∷ r) (n ∷ t)) (ap (eq_by_cmp path_order (a ∷ r)) e ∙ eq_self (a ∷ r)) same in
      let less = begun_less (a ∷ r) (n ∷ t) on differ in
      let made : Option Row = Some (new_row (slice_index_or (spelled_names tree (n ∷ t)) (length (a ∷ r) - 1) []) fresh_row.descriptor moment) in
      subst (λ o. IsMade (a ∷ r) made (by_rest (a ∷ r) (row its_part (a ∷ r)) o)) (sym (none_rest (a ∷ r) less))
      (subst (λ o. IsMade (a ∷ r) made (option_map content o)) (sym (row_above tree is_tree (n ∷ t) (a ∷ r) (not_inside (begins_path (n ∷ t) (a ∷ r)) refl differ) on)) (by_row (row tree (a ∷ r)) refl (way_there a r on)))
    where
      not_inside : (b : Bool) → begins_path (n ∷ t) (a ∷ r) ≡ b → (n ∷ t ≡ a ∷ r → ⊥) → b ≡ false
      not_inside false e differ = refl
      not_inside true e differ = absurd (differ (both_begin (n ∷ t) (a ∷ r) e on))

      by_row : (o : Option Row) → row tree (a ∷ r) ≡ o → IsSome o → IsMade (a ∷ r) (Some (new_row (slice_index_or (spelled_names tree (n ∷ t)) (length (a ∷ r) - 1) []) fresh_row.descriptor moment)) (option_map content (option_map emptied o))
      by_row None e s = absurd (none_some {A = Row} None refl s)
      by_row (Some k) e s = made_row moment a r _ k.name (way_name a r on ∙ ap name_of_row e)

  -- nothing else
  off_way : (a : List ℕ) (r : List (List ℕ)) → begins_path (a ∷ r) (n ∷ t) ≡ false → (same : Bool) → eq_by_cmp path_order (a ∷ r) (n ∷ t) ≡ same → IsMade (a ∷ r) None (cond same (Some (key.name, finite.empty)) (wanted its_part rest (a ∷ r)))
  off_way a r off true same = absurd (not_both (begins_path (a ∷ r) (n ∷ t)) (ap (λ p. begins_path p (n ∷ t)) (eq_is (a ∷ r) (n ∷ t) same) ∙ self_begins (n ∷ t)) off)
  off_way a r off false same = by_found (find path_order (a ∷ r) rest) refl
    where
      in_list : find path_order (a ∷ r) rest ≡ cond (begins_path (n ∷ t) (a ∷ r)) (row tree (a ∷ r)) None
      in_list = sym (ap (λ b. cond b (Some key) (find path_order (a ∷ r) rest)) same) ∙ sym (ap (find path_order (a ∷ r)) list) ∙ found_inside tree (n ∷ t) (a ∷ r)

      none_there : find path_order (a ∷ r) rest ≡ None → row its_part (a ∷ r) ≡ None
      none_there e = by_inside (begins_path (n ∷ t) (a ∷ r)) refl
        where
          by_inside : (b : Bool) → begins_path (n ∷ t) (a ∷ r) ≡ b → row its_part (a ∷ r) ≡ None
          by_inside true b = row_inside tree is_tree (n ∷ t) (a ∷ r) b ∙ sym (ap (λ x. cond x (row tree (a ∷ r)) None) b) ∙ sym in_list ∙ e
          by_inside false b = row_outside tree is_tree (n ∷ t) (a ∷ r) b off

      by_found : (found : Option Row) → find path_order (a ∷ r) rest ≡ found → IsMade (a ∷ r) None (by_rest (a ∷ r) (row its_part (a ∷ r)) found)
      by_found (Some k) e = tt
      by_found None e = subst (λ o. IsMade (a ∷ r) None (option_map content o)) (sym (none_there e)) tt

  below_made : (moment : ℕ) (a : List ℕ) (r : List (List ℕ)) → IsMade (a ∷ r) (new_at moment (a ∷ r)) (its_want (a ∷ r))
  unfolding new_at
  below_made moment a r =
      let deep : nat_lt 0 (length (a ∷ r)) ≡ true = grind (arith, nat_tests) in
      by_way (begins_path (a ∷ r) (n ∷ t)) refl (nat_lt 0 (length (a ∷ r))) deep
    where
      by_way : (b : Bool) → begins_path (a ∷ r) (n ∷ t) ≡ b → (d : Bool) → d ≡ true → IsMade (a ∷ r) (cond (b && d) (Some (new_row (slice_index_or (spelled_names tree (n ∷ t)) (length (a ∷ r) - 1) []) fresh_row.descriptor moment)) (row fresh_tree (a ∷ r))) (its_want (a ∷ r))
      by_way true b true d = on_way moment a r b (eq_by_cmp path_order (a ∷ r) (n ∷ t)) refl
      by_way true b false d = absurd (not_true d)
      by_way false b d e = subst (λ o. IsMade (a ∷ r) o (its_want (a ∷ r))) (sym (fresh_none a r)) (off_way a r b (eq_by_cmp path_order (a ∷ r) (n ∷ t)) refl)

  made_at : (moment : ℕ) (at : List (List ℕ)) → IsMade at (new_at moment at) (its_want at)
  made_at moment [] = root_made moment
  made_at moment (a ∷ r) = below_made moment a r

  pub first_built : (moment : ℕ) → IsBuilt (changed fresh_tree (CreateKey hive (spelled_names tree (n ∷ t))) moment) (updated (wanted (part tree is_tree (n ∷ t)) rest) (n ∷ t) (key.name, finite.empty))
  first_built moment = record {
    is_tree = changed_stays fresh_tree fresh_is_tree (CreateKey hive (spelled_names tree (n ∷ t))) moment;
    made = λ at. subst (λ o. IsMade at o (its_want at)) (sym (changed_at moment at)) (made_at moment at);
  }

  pub first_legal : IsBounded its_part (updated (wanted (part tree is_tree (n ∷ t)) rest) (n ∷ t) (key.name, finite.empty)) → made_tree_weight (part tree is_tree (n ∷ t)) ≤ MOST_WEIGHT → legal_in fresh_tree (CreateKey hive (spelled_names tree (n ∷ t))) ≡ Ok Legal
  first_legal bounded light =
      let op = CreateKey hive (spelled_names tree (n ∷ t)) in
      let less = built_weight (changed fresh_tree op 0) (part tree is_tree (n ∷ t)) its_want (first_built 0) bounded in
      ap (λ j. legal_after op j (weight (changed fresh_tree op 0))) first_judged ∙ light_is_legal (weight (changed fresh_tree op 0)) (omega (arith, less, light))

-- what operations make of a new tree
pub record PartRebuilt (tree : TreeMap) (top : List (List ℕ)) (hive moment : ℕ) : Type 0 where
  pub new : TreeMap
  pub steps : LegalSteps moment fresh_tree (part_ops hive tree top) new
  pub has : HasPart tree top new

all_kept : (es : List Entry) → filter (λ entry. begins_path [] entry.0) es ≡ es
all_kept [] = refl
all_kept (e ∷ es) = ap (λ xs. e ∷ xs) (all_kept es)

module _ (tree : TreeMap) (call : IsCallTree tree) (hive moment : ℕ) where
  root_rebuilt : PartRebuilt tree [] hive moment
  root_rebuilt =
      let whole = tree_rebuilt tree hive moment call in
      let rows : ◌≡◌ {A = List NamedRow} (tree_rows tree) (rows_below tree []) = ap (map (λ entry. (spelled_names tree entry.0, entry.1))) (sym (all_kept (finite.entries tree))) in
      record { new = whole.new; steps = subst (λ keys. LegalSteps moment fresh_tree (flat_map (key_ops hive) keys) whole.new) rows whole.steps; has = whole.same }

  below_rebuilt : (n : List ℕ) (t : List (List ℕ)) (key : Row) → row tree (n ∷ t) ≡ Some key → length (n ∷ t) ≤ MOST_NEW_LEVELS → PartRebuilt tree (n ∷ t) hive moment
  below_rebuilt n t key there few =
      let top : List (List ℕ) = n ∷ t in
      let is_tree = call.is_tree in
      let its = part tree is_tree top in
      let its_call = part_call tree call top in
      let all = filter_all (λ (e : Entry). begins_path top e.0) (λ e. row tree e.0 ≡ Some e.1) (finite.entries tree) (each_got paths_total tree) in
      let sorted = is_sorted-where_key path_order (begins_path top) (finite.entries tree) (entries_sorted tree) in
      let begun = all_left_of (λ (e : Entry). begins_path top e.0 ≡ true) (λ e. row tree e.0 ≡ Some e.1) (inside tree top) all in
      let found : find path_order top (inside tree top) ≡ Some key = found_inside tree top top ∙ ap (λ b. cond b (row tree top) None) (self_begins top) ∙ there in
      let f = first_of top key (inside tree top) sorted found begun in
      let rest = f.0 in
      let list_sorted : T (is_sorted path_order ((top, key) ∷ rest)) = subst (λ es. T (is_sorted path_order es)) f.1 sorted in
      let apart = front_of (below_all path_order top rest) (is_sorted path_order rest) list_sorted in
      let later = back_of (below_all path_order top rest) (is_sorted path_order rest) list_sorted in
      let all_rest = (subst (AllByRecursion (λ (e : Entry). (begins_path top e.0 ≡ true) × (row tree e.0 ≡ Some e.1))) f.1 all).1 in
      let rows = in_part n t rest all_rest in
      let key_there : row its top ≡ Some key = row_inside tree is_tree top top (self_begins top) ∙ there in
      let want = wanted its rest in
      let bounded = bounded_wanted its its_call.light hive moment rest rows in
      let names = spelled_names tree top in
      let op = CreateKey hive names in
      let begun_built = first_built tree is_tree n t key there rest f.1 apart few hive moment in
      let still = bounded_updated its want top key finite.empty bounded key_there (empty_light its its_call.light hive moment key.values) in
      let legal = first_legal tree is_tree n t key there rest f.1 apart few hive still its_call.light in
      let names_is = folded_spelled tree is_tree top (ap is_some there) in
      let written = key_written its its_call.light hive moment names top names_is key key_there want bounded (changed fresh_tree op moment) begun_built (call_values top key (its_call.keys top key key_there)) in
      let ready : IsBuilt written.0 want = same_want written.0 (updated want top (key.name, key.values)) want (same_wanted n t key rest apart key_there) written.2 in
      let others = keys_made its its_call.light hive moment its_call.is_tree (λ path k at. call_values path k (its_call.keys path k at)) rest later rows written.0 ready in
      let steps_rest : LegalSteps moment written.0 (flat_map (key_ops hive) (map (λ (e : Entry). (spelled_names tree e.0, e.1)) rest)) others.0 =
      subst (λ keys. LegalSteps moment written.0 (flat_map (key_ops hive) keys) others.0) (same_rows tree is_tree top rest (all_left_of (λ (e : Entry). begins_path top e.0 ≡ true) (λ e. row tree e.0 ≡ Some e.1) rest all_rest)) others.1 in
      let front = steps_both moment fresh_tree (changed fresh_tree op moment) written.0 (op ∷ []) (map (value_op hive names) (finite.values key.values)) ((legal, tt), refl) written.1 in
      let steps = steps_both moment fresh_tree written.0 others.0 (key_ops hive (names, key)) (flat_map (key_ops hive) (map (λ (e : Entry). (spelled_names tree e.0, e.1)) rest)) front steps_rest in
      record {
        new = others.0;
        steps = subst (λ (es : List Entry). LegalSteps moment fresh_tree (flat_map (key_ops hive) (map (λ e. (spelled_names tree e.0, e.1)) es)) others.0) (sym f.1) steps;
        has = λ path. subst (λ o. HasSameKey path o (row others.0 path)) (row_part tree is_tree top path) (built_same its others.0 others.2 path);
      }
    where
      in_part : (n : List ℕ) (t : List (List ℕ)) (es : List Entry) → AllByRecursion (λ e. (begins_path (n ∷ t) e.0 ≡ true) × (row tree e.0 ≡ Some e.1)) es → AllByRecursion (λ e. row (part tree call.is_tree (n ∷ t)) e.0 ≡ Some e.1) es
      in_part n t [] all = tt
      in_part n t (e ∷ es) all = (row_inside tree call.is_tree (n ∷ t) e.0 all.0.0 ∙ all.0.1, in_part n t es all.1)

      same_wanted : (n : List ℕ) (t : List (List ℕ)) (key : Row) (rest : List Entry) → T (below_all path_order (n ∷ t) rest) → row (part tree call.is_tree (n ∷ t)) (n ∷ t) ≡ Some key → (at : List (List ℕ))
          → updated (wanted (part tree call.is_tree (n ∷ t)) rest) (n ∷ t) (key.name, key.values) at ≡ wanted (part tree call.is_tree (n ∷ t)) rest at
      same_wanted n t key rest apart at_top at = by_path (eq_by_cmp path_order at (n ∷ t)) refl
        where
          by_path : (b : Bool) → eq_by_cmp path_order at (n ∷ t) ≡ b → cond b (Some (key.name, key.values)) (wanted (part tree call.is_tree (n ∷ t)) rest at) ≡ wanted (part tree call.is_tree (n ∷ t)) rest at
          by_path true b = sym (ap (wanted (part tree call.is_tree (n ∷ t)) rest) (eq_is at (n ∷ t) b) ∙ ap (by_rest (n ∷ t) (row (part tree call.is_tree (n ∷ t)) (n ∷ t))) (none_at paths_total (n ∷ t) rest apart) ∙ ap (option_map content) at_top)
          by_path false b = refl

  pub part_rebuilt : (top : List (List ℕ)) → IsSome (row tree top) → length top ≤ MOST_NEW_LEVELS → PartRebuilt tree top hive moment
  part_rebuilt [] some few = root_rebuilt
  part_rebuilt (n ∷ t) some few = by_row (row tree (n ∷ t)) refl some
    where
      by_row : (o : Option Row) → row tree (n ∷ t) ≡ o → IsSome o → PartRebuilt tree (n ∷ t) hive moment
      by_row None e s = absurd (none_some {A = Row} None refl s)
      by_row (Some key) e s = below_rebuilt n t key e few
