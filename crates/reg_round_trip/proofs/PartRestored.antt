-- The export of a part restores this part.
use Rattle.std.proofs.Common.{◌≡◌, ◌≢◌, ℕ, zero, suc, ◌+◌, ◌<◌, ◌≤◌, true, List, [], ◌∷◌, length, Option, Some, None, IsSome, refl, sym, ◌∙◌, ap, subst, arith, append-nil}
use Rattle.std.specs.Prelude.{slice_get, slice_set}
use Rattle.std.specs.List.{AllByRecursion, flat_map}
use Rattle.std.specs.FinMap as finite
use Rattle.refusals.specs.declared.limits.TheConstants.{MOST_ELEMENT_BYTES, MOST_VALUE_BYTES, MOST_NEW_LEVELS}
use Rattle.reg_tree_parts.specs.Nodes.{begins_path}
use Rattle.reg_tree_parts.proofs.Keys.{paths_total}
use Rattle.reg_tree.specs.Maps.{TreeMap, row, IsTree}
use Rattle.reg_tree.specs.Fresh.{fresh_tree}
use Rattle.reg_tree.specs.Sequences.{AreTrees}
use Rattle.reg_tree.specs.Operations.{hive_of}
use Rattle.reg_tree.specs.Judgement.{changed, legal_if, applied, applied_if, applied_one}
use Rattle.reg_tree.specs.declared.op.Op.{Op}
use Rattle.reg_tree.proofs.OthersStay.{hives_stay}
use Rattle.store_model.specs.Machine.{Machine, named_trees, outcome_bytes}
use Rattle.key_walk.specs.SubtreeRows.{rows_below}
use Rattle.reg_prefixes.specs.declared.prefix.Prefix.{Prefix}
use Rattle.reg_prefixes.specs.Places.{shown_in}
use Rattle.reg_export.specs.declared.encoding.Encoding.{Encoding}
use Rattle.reg_export.specs.RegFiles.{reg_text}
use Rattle.change_plan.specs.Plans.{ops_len}
use Rattle.reg_apply.specs.Applied.{first_plan}
use Rattle.reg_round_trip.specs.Statements.{key_statements, export_statements}
use Rattle.reg_round_trip.specs.Exports.{IsPrefixText, AreReadAs}
use Rattle.reg_round_trip.specs.NewTrees.{IsCallTree}
use Rattle.reg_round_trip.specs.Parts.{part_ops}
use Rattle.reg_round_trip.specs.Shown.{PrefixesAreApart}
use Rattle.reg_round_trip.specs.Restores.{FileRestores, HasPartIn}
use Rattle.reg_round_trip.proofs.Units.{all_then, none_some}
use Rattle.reg_round_trip.proofs.SortedKeys.{each_got}
use Rattle.reg_round_trip.proofs.Reading.{ReadsText, export_is_read}
use Rattle.reg_round_trip.proofs.AddedOps.{AreAdded, new_among}
use Rattle.reg_round_trip.proofs.ValueSteps.{LegalSteps}
use Rattle.reg_round_trip.proofs.TreeLists.{AreOf, keys_of}
use Rattle.reg_round_trip.proofs.ShownPlaces.{shown_all}
use Rattle.reg_round_trip.proofs.CallTrees.{IsCallShown, rows_shown, keys_limits, hives_fit}
use Rattle.reg_round_trip.proofs.Taken.{HasTrees, get_set, behind, IsCallRow, Takes, keys_taken}
use Rattle.reg_round_trip.proofs.OnePlan.{export_adds}
use Rattle.reg_round_trip.proofs.PartSteps.{Entry, inside, filter_all}
use Rattle.reg_round_trip.proofs.PartMade.{part_rebuilt}
use Rattle.reg_round_trip.proofs.Restored.{AreShowable, call_row, restores_by}

-- operations on one hive of a list
record OnHive (trees : List TreeMap) (hive : ℕ) (ops : List Op) (moment : ℕ) (new : TreeMap) : Type 0 where
  added : AreAdded trees ops moment
  there : slice_get (applied trees ops moment) hive ≡ Some new
  others : (other : ℕ) → other ≢ hive → slice_get (applied trees ops moment) other ≡ slice_get trees other

on_hive : (trees : List TreeMap) (hive : ℕ) (tree : TreeMap) (ops : List Op) (moment : ℕ) (new : TreeMap) → slice_get trees hive ≡ Some tree → AreOf hive ops → LegalSteps moment tree ops new → OnHive trees hive ops moment new
on_hive trees hive tree [] moment new there all steps = record { added = tt; there = there ∙ ap Some (sym steps); others = λ other differ. refl }
on_hive trees hive tree (op ∷ ops) moment new there all steps =
    let found : slice_get trees (hive_of op) ≡ Some tree = ap (slice_get trees) all.0 ∙ there in
    let next : applied_one trees op moment ≡ slice_set trees (hive_of op) (changed tree op moment) = ap (λ o. applied_if trees o op moment) found in
    let got : slice_get (applied_one trees op moment) hive ≡ Some (changed tree op moment) =
    ap (λ ts. slice_get ts hive) next ∙ ap (slice_get (slice_set trees (hive_of op) (changed tree op moment))) (sym all.0) ∙ get_set trees (hive_of op) tree (changed tree op moment) found in
    let rest = on_hive (applied_one trees op moment) hive (changed tree op moment) ops moment new got all.1 steps.1 in
    record {
      added = ((ap (λ o. legal_if o op) found ∙ steps.0.0, new_among trees tree op found steps.0.1), rest.added);
      there = rest.there;
      others = λ other differ. rest.others other differ ∙ hives_stay trees op moment other (λ e. differ (e ∙ all.0));
    }

-- trees of a store
trees_has : (trees : List TreeMap) → AreTrees trees → HasTrees (length trees) trees
trees_has trees are hive within = by_get (slice_get trees hive) refl (some_within trees hive within)
  where
    some_within : (ts : List TreeMap) (h : ℕ) → h < length ts → IsSome (slice_get ts h)
    some_within [] h less = absurd (omega (arith, less))
    some_within (t ∷ ts) zero less = refl
    some_within (t ∷ ts) (suc h) less = some_within ts h (omega (arith, less))

    by_get : (o : Option TreeMap) → slice_get trees hive ≡ o → IsSome o → (tree : TreeMap) × (slice_get trees hive ≡ Some tree) × IsTree tree
    by_get None e s = absurd (none_some {A = TreeMap} None refl s)
    by_get (Some tree) e s = (tree, e, are hive tree e)

-- the keys of a part are shown
part_shown : (tree : TreeMap) → IsCallTree tree → (top : List (List ℕ)) → AllByRecursion IsCallShown (rows_below tree top)
part_shown tree call top =
    rows_shown tree call (inside tree top)
    (all_then (λ (e : Entry). (begins_path top e.0 ≡ true) × (row tree e.0 ≡ Some e.1)) (λ e. row tree e.0 ≡ Some e.1) (λ e h. h.1) (inside tree top) (filter_all (λ (e : Entry). begins_path top e.0) (λ e. row tree e.0 ≡ Some e.1) (finite.entries tree) (each_got paths_total tree)))

module _ (r : ReadsText) (encoding : Encoding) (prefixes : List Prefix) (hive : ℕ) (tree : TreeMap) (top : List (List ℕ)) (prefix : List ℕ) (moment : ℕ) (old : Machine) (texts : AreShowable prefixes) (apart : PrefixesAreApart prefixes) (shown : shown_in prefixes hive ≡ Some prefix) (call : IsCallTree tree) (some : IsSome (row tree top))
    (few : length top ≤ MOST_NEW_LEVELS) (short : ops_len (part_ops hive tree top) + outcome_bytes old ≤ MOST_ELEMENT_BYTES) (are : AreTrees (named_trees old)) (new : slice_get (named_trees old) hive ≡ Some fresh_tree) where
  pub part_read : AreReadAs (reg_text encoding ((prefix, rows_below tree top) ∷ [])) (export_statements ((prefix, rows_below tree top) ∷ []))
  part_read =
      let its = shown_all (λ text. IsPrefixText text × (length text ≤ MOST_VALUE_BYTES)) prefixes texts hive prefix shown in
      export_is_read r encoding ((prefix, rows_below tree top) ∷ []) (keys_limits prefix its.0 its.1 (rows_below tree top) (part_shown tree call top), tt) (hives_fit encoding ((prefix, rows_below tree top) ∷ []) (part_shown tree call top, tt))

  made : (new_tree : TreeMap) × OnHive (named_trees old) hive (part_ops hive tree top) moment new_tree × HasPartIn tree top hive (named_trees old) (applied (named_trees old) (part_ops hive tree top) moment)
  made =
      let built = part_rebuilt tree call hive moment top some few in
      let on = on_hive (named_trees old) hive fresh_tree (part_ops hive tree top) moment built.new new (keys_of hive (rows_below tree top)) built.steps in
      (built.new, on, (built.new, on.there, built.has, on.others))

  pub part_made : HasPartIn tree top hive (named_trees old) (applied (named_trees old) (part_ops hive tree top) moment)
  part_made = made.2

  pub part_restores : hive < length (named_trees old) → FileRestores prefixes moment (reg_text encoding ((prefix, rows_below tree top) ∷ [])) old (part_ops hive tree top) (HasPartIn tree top hive (named_trees old))
  part_restores within =
      let on = made.1 in
      let first = first_plan old moment in
      let calls = all_then IsCallShown IsCallRow call_row (rows_below tree top) (part_shown tree call top) in
      let taken = keys_taken prefixes (length (named_trees old)) apart hive within prefix shown (rows_below tree top) calls None first (trees_has (named_trees old) are) on.added short in
      let whole : Takes prefixes (length (named_trees old)) None first (export_statements ((prefix, rows_below tree top) ∷ [])) taken.0 (behind first (part_ops hive tree top)) =
      subst (λ ss. Takes prefixes (length (named_trees old)) None first ss taken.0 (behind first (part_ops hive tree top))) (sym (append-nil (flat_map (key_statements prefix) (rows_below tree top)))) taken.1 in
      restores_by prefixes moment (reg_text encoding ((prefix, rows_below tree top) ∷ [])) old (part_ops hive tree top) (HasPartIn tree top hive (named_trees old)) (export_statements ((prefix, rows_below tree top) ∷ [])) part_read (export_adds ((prefix, rows_below tree top) ∷ [])) taken.0 whole part_made
