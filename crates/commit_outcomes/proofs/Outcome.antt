-- What the operations of a commit do to the tree of outcomes.
use Rattle.std.proofs.Common.{◌≡◌, ◌⊎◌, inl, inr, ℕ, ◌<◌, ◌≤◌, ◌^◌, true, cond, List, [], ◌∷◌, ◌++◌, map, length, Contains, Option, Some, None, Ok, Err, if◌then◌else◌, is_some, is_none, option_map, nat_lt, refl, sym, ◌∙◌, ap, subst, arith}
use Rattle.std.specs.Prelude.{slice_get}
use Rattle.std.specs.List.{AllByRecursion, list_any}
use Rattle.std.specs.FinMap as finite
use Rattle.std.specs.FinMap.{contains_key-keys, entries-insert, get-insert, len-entries, len-empty}
use Rattle.std.specs.Ordering.{eq_by_cmp}
use Rattle.std.proofs.lemmas.Bool.{false≢true}
use Rattle.byteorder.specs.Endian.{little_bytes}
use Rattle.reg_names.specs.Names.{folded}
use Rattle.refusals.specs.declared.refusal.Refusal.TheVariants.{NotFound, TooLarge}
use Rattle.refusals.specs.declared.limits.TheConstants.{MOST_VALUE_BYTES}
use Rattle.reg_tree_parts.specs.declared.value.Value.{Value}
use Rattle.reg_tree_parts.specs.Orders.{path_order}
use Rattle.reg_tree_parts.specs.Rows.{Row}
use Rattle.reg_tree_parts.specs.ValueEdits.{values_without}
use Rattle.reg_tree_parts.proofs.Keys.{paths_total}
use Rattle.reg_tree.specs.Maps.{TreeMap, row}
use Rattle.reg_tree.specs.Operations.{hive_of, touched, row_edited, tree_of, tree_after}
use Rattle.reg_tree.specs.Encodings.{ops_encoded_len}
use Rattle.reg_tree.specs.Judgement.{judged, judged_there, applied, applied_one, applied_if, changed, changed_if}
use Rattle.reg_tree.specs.declared.op.Op.{Op}
use Rattle.reg_tree.specs.declared.op.Legality.TheVariants.{Legal}
use Rattle.conflicts.specs.TreeOutlines.{judged_if, judged_in, AreCarriedOut}
use Rattle.conflicts.proofs.OnSkeletons.{set_here}
use Rattle.commit_outcomes.specs.Units.{is_unit_name}
use Rattle.commit_outcomes.specs.Commits.{Commit, latest, kept, AreKept, AreUpTo}
use Rattle.commit_outcomes.specs.Trees.{HasCommits, values_if, root_values, values_of, commit_value}
use Rattle.commit_outcomes.specs.Operations.{record_op, forget_op, values_recorded, surplus, outcome_ops}
use Rattle.commit_outcomes.proofs.UnitNames.{unit_len}
use Rattle.commit_outcomes.proofs.Values.{recorded_is, forgotten_is}
use Rattle.commit_outcomes.proofs.Written.{with_one, apart_with, stand_with, value_of_member, few_or_many, kept_stand, AreFew, AreMany}
use Rattle.conflicts.proofs.Members.{here}

-- a tree with a root alone
abbrev pub lone : Row → TreeMap
lone root = finite.insert finite.empty [] root

pub lone_row : (root : Row) → row (lone root) [] ≡ Some root
lone_row root = get-insert paths_total finite.empty [] root []

no_length : {A : Type 0} (xs : List A) → length xs ≡ 0 → xs ≡ []
no_length [] e = refl
no_length (x ∷ xs) e = absurd (omega (arith, e))

pub lone_alone : (root : Row) → finite.keys (lone root) ≡ [] ∷ []
lone_alone root =
    let none : finite.entries (finite.empty {X = Row} {R = path_order}) ≡ [] = no_length _ (sym (len-entries finite.empty) ∙ len-empty path_order Row) in
    ap (map (λ e. e.0)) (entries-insert paths_total finite.empty [] root ∙ ap (λ (es : List (List (List ℕ) × Row)). finite.put path_order [] root es) none)

-- the root of such a tree
pub root_of : (tree : TreeMap) → finite.keys tree ≡ [] ∷ [] → (root : Row) × (row tree [] ≡ Some root)
root_of tree alone = by_case (row tree []) refl
  where
    by_case : (o : Option Row) → row tree [] ≡ o → (root : Row) × (row tree [] ≡ Some root)
    by_case None e = absurd (false≢true (sym (ap is_some e) ∙ contains_key-keys tree [] ∙ ap (list_any (eq_by_cmp path_order [])) alone))
    by_case (Some root) e = (root, e)

-- an operation on the values of the root
edited : (edit : Row → Row) (tree : TreeMap) (moment : ℕ) (root : Row) → finite.keys tree ≡ [] ∷ [] → row tree [] ≡ Some root → tree_of (row_edited edit tree [] moment) (finite.keys tree ++ []) ≡ lone (touched moment (edit root))
edited edit tree moment root alone is =
    ap (λ paths. tree_of (row_edited edit tree [] moment) (paths ++ [])) alone ∙ ap (λ o. tree_of (λ path. cond (eq_by_cmp path_order path []) (option_map (λ key. touched moment (edit key)) o) (row tree path)) ([] ∷ [])) is

module _ (tree : TreeMap) (root : Row) (alone : finite.keys tree ≡ [] ∷ []) (is : row tree [] ≡ Some root) (hive moment : ℕ) where
  recorded : (c : Commit) → tree_after tree (record_op hive c) moment ≡ lone (touched moment (record root { values = values_recorded root.values c }))
  recorded c = edited (λ key. record key { values = values_recorded key.values c }) tree moment root alone is

  forgot : (name : List ℕ) → tree_after tree (forget_op hive name) moment ≡ lone (touched moment (record root { values = values_without root.values name }))
  forgot name = edited (λ key. record key { values = values_without key.values name }) tree moment root alone is

  may_record : (c : Commit) → judged tree (record_op hive c) ≡ Ok Legal
  may_record c = ap (λ o. judged_there o (λ key. if nat_lt MOST_VALUE_BYTES (length (little_bytes 8 c.0)) then Err TooLarge else Ok Legal)) is

  may_forget : (name : List ℕ) (value : Value) → finite.get root.values (folded name) ≡ Some value → judged tree (forget_op hive name) ≡ Ok Legal
  may_forget name value found = ap (λ o. judged_there o (λ key. if is_none (finite.get key.values (folded name)) then Err NotFound else Ok Legal)) is ∙ ap (λ (o : Option Value). if is_none o then Err NotFound else Ok Legal) found

-- an operation that may be carried out on the tree of its hive
stepped : (trees : List TreeMap) (hive : ℕ) (tree : TreeMap) (op : Op) (moment : ℕ) → hive_of op ≡ hive → slice_get trees hive ≡ Some tree → judged tree op ≡ Ok Legal
    → (judged_in trees op ≡ Ok Legal) × (slice_get (applied_one trees op moment) hive ≡ Some (tree_after tree op moment))
stepped trees hive tree op moment same is may =
    let there : slice_get trees (hive_of op) ≡ Some tree = ap (slice_get trees) same ∙ is in (
      ap (λ o. judged_if o op) there ∙ may,
      ap (λ o. slice_get (applied_if trees o op moment) hive) there
          ∙ ap (λ h. slice_get (applied_if trees (Some tree) op moment) h) (sym same)
          ∙ set_here trees (hive_of op) (changed tree op moment) tree there
          ∙ ap (λ r. Some (changed_if r (tree_after tree op moment) tree)) may,
    )

-- an entry that is found is the one that is there
same_some : {A : Type 0} (x y : A) → Some x ≡ Some y → x ≡ y
same_some x y e = cc

-- a lone root whose values are those of commits that may stand
pub lone_has : (commits : List Commit) (root : Row) → root.values ≡ values_of commits → AreKept commits → HasCommits commits (lone root)
lone_has commits root is are = record { alone = lone_alone root; values = ap values_if (lone_row root) ∙ is; are = are }

module _ (hive : ℕ) (tree : TreeMap) (commits : List Commit) (c : Commit) (has : HasCommits commits tree) (unit : is_unit_name c.1 ≡ true)
    (below : AllByRecursion (λ (d : Commit). d.0 < c.0) commits) (fits : c.0 < 2 ^ 64) where
  recorded_values : values_recorded (root_values tree) c ≡ values_of (with_one commits c)
  recorded_values = ap (λ vs. values_recorded vs c) has.values ∙ recorded_is commits c has.are.units unit

  pub ops_few : AreFew commits c → outcome_ops hive tree c ≡ record_op hive c ∷ []
  ops_few few = ap (λ vs. record_op hive c ∷ map (λ (v : Value). forget_op hive v.name) vs) (ap surplus recorded_values ∙ few.none)

  pub ops_many : (many : AreMany commits c) → outcome_ops hive tree c ≡ record_op hive c ∷ forget_op hive many.first.1 ∷ []
  ops_many many = ap (λ vs. record_op hive c ∷ map (λ (v : Value). forget_op hive v.name) vs) (ap surplus recorded_values ∙ many.one)

  pub which : AreFew commits c ⊎ AreMany commits c
  which = few_or_many commits c has.are unit below fits

  -- each operation is on the hive, and they are short
  pub there : AllByRecursion (λ op. hive_of op ≡ hive) (outcome_ops hive tree c) × (ops_encoded_len (outcome_ops hive tree c) ≤ 100)
  there = elim which [
    | inl few ↦ subst (λ ops. AllByRecursion (λ op. hive_of op ≡ hive) ops × (ops_encoded_len ops ≤ 100)) (sym (ops_few few)) ((refl, tt), omega (arith, unit_len c.1 unit))
    | inr many ↦
        let first = unit_len many.first.1 (subst (λ l. AllByRecursion (λ (d : Commit). is_unit_name d.1 ≡ true) l) many.whole (stand_with commits c has.are unit below).units).0 in
        subst (λ ops. AllByRecursion (λ op. hive_of op ≡ hive) ops × (ops_encoded_len ops ≤ 100)) (sym (ops_many many)) ((refl, (refl, tt)), omega (arith, unit_len c.1 unit, first))
  ]

  module _ (trees : List TreeMap) (moment : ℕ) (is : slice_get trees hive ≡ Some tree) (root : Row) (at : row tree [] ≡ Some root) where
    written_values : values_recorded root.values c ≡ values_of (with_one commits c)
    written_values = ap (λ o. values_recorded (values_if o) c) (sym at) ∙ recorded_values

    written : (judged_in trees (record_op hive c) ≡ Ok Legal) × (slice_get (applied_one trees (record_op hive c) moment) hive ≡ Some (lone (touched moment (record root { values = values_recorded root.values c }))))
    written =
        let step = stepped trees hive tree (record_op hive c) moment refl is (may_record tree root has.alone at hive moment c) in
        (step.0, step.1 ∙ ap (λ t. Some t) (recorded tree root has.alone at hive moment c))

    module _ (many : AreMany commits c) where
      first_there : finite.get (values_recorded root.values c) (folded many.first.1) ≡ Some (commit_value many.first)
      first_there =
          ap (λ vs. finite.get vs (folded many.first.1)) written_values
          ∙ value_of_member (with_one commits c) many.first (apart_with commits c has.are.apart) (subst (λ l. Contains l many.first) (sym many.whole) (here many.first many.rest))

      thinned : (judged_in (applied_one trees (record_op hive c) moment) (forget_op hive many.first.1) ≡ Ok Legal)
          × (slice_get (applied_one (applied_one trees (record_op hive c) moment) (forget_op hive many.first.1) moment) hive ≡ Some (lone (touched moment (record root { values = values_without (values_recorded root.values c) many.first.1 }))))
      thinned =
          let root_then : Row = touched moment (record root { values = values_recorded root.values c }) in
          let step = stepped (applied_one trees (record_op hive c) moment) hive (lone root_then) (forget_op hive many.first.1) moment refl written.1
          (may_forget (lone root_then) root_then (lone_alone root_then) (lone_row root_then) hive moment many.first.1 (commit_value many.first) first_there) in
          (step.0, step.1 ∙ ap (λ t. Some t) (forgot (lone root_then) root_then (lone_alone root_then) (lone_row root_then) hive moment many.first.1))

      thinned_values : values_without (values_recorded root.values c) many.first.1 ≡ values_of many.rest
      thinned_values =
          ap (λ vs. values_without vs many.first.1) (written_values ∙ ap values_of many.whole)
          ∙ forgotten_is many.first many.rest (subst (λ l. latest l ≡ l) many.whole (apart_with commits c has.are.apart))

    carried_from : AreFew commits c ⊎ AreMany commits c → AreCarriedOut trees (outcome_ops hive tree c) moment
    carried_from (inl few) = subst (λ ops. AreCarriedOut trees ops moment) (sym (ops_few few)) (written.0, tt)
    carried_from (inr many) = subst (λ ops. AreCarriedOut trees ops moment) (sym (ops_many many)) (written.0, ((thinned many).0, tt))

    has_from : AreFew commits c ⊎ AreMany commits c → (after : TreeMap) → 0 < c.0 → slice_get (applied trees (outcome_ops hive tree c) moment) hive ≡ Some after
        → HasCommits (kept (commits ++ c ∷ [])) after × AreUpTo c.0 (kept (commits ++ c ∷ []))
    has_from (inl few) after above got =
        let stand = kept_stand commits c has.are unit below above fits in
        let root_then : Row = touched moment (record root { values = values_recorded root.values c }) in
        let same : lone root_then ≡ after = same_some _ _ (sym written.1 ∙ subst (λ ops. slice_get (applied trees ops moment) hive ≡ Some after) (ops_few few) got) in
        (subst (HasCommits (kept (commits ++ c ∷ []))) same (lone_has (kept (commits ++ c ∷ [])) root_then (written_values ∙ ap values_of (sym few.kept_are)) stand.0), stand.1)
    has_from (inr many) after above got =
        let stand = kept_stand commits c has.are unit below above fits in
        let root_then : Row = touched moment (record root { values = values_without (values_recorded root.values c) many.first.1 }) in
        let same : lone root_then ≡ after = same_some _ _ (sym (thinned many).1 ∙ subst (λ ops. slice_get (applied trees ops moment) hive ≡ Some after) (ops_many many) got) in
        (subst (HasCommits (kept (commits ++ c ∷ []))) same (lone_has (kept (commits ++ c ∷ [])) root_then (thinned_values many ∙ ap values_of (sym many.kept_are)) stand.0), stand.1)

  -- they may be carried out in turn
  pub carried : (trees : List TreeMap) (moment : ℕ) → slice_get trees hive ≡ Some tree → AreCarriedOut trees (outcome_ops hive tree c) moment
  carried trees moment is = let root = root_of tree has.alone in carried_from trees moment is root.0 root.1 which

  -- and leave the commits that are kept
  pub has_kept : (trees : List TreeMap) (moment : ℕ) → slice_get trees hive ≡ Some tree → (after : TreeMap) → 0 < c.0 → slice_get (applied trees (outcome_ops hive tree c) moment) hive ≡ Some after
      → HasCommits (kept (commits ++ c ∷ [])) after × AreUpTo c.0 (kept (commits ++ c ∷ []))
  has_kept trees moment is after above got = let root = root_of tree has.alone in has_from trees moment is root.0 root.1 which after above got
