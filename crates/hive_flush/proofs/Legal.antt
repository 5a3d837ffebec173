-- Changes that are legal leave a tree within the weight.
use Rattle.std.proofs.Common.{◌≡◌, ◌≤◌, ℕ, Bool, true, false, List, [], ◌∷◌, ◌++◌, refl, ap, ◌∙◌, Option, Some, None, Result, Ok, Err, cond, ◌⊎◌, inl, inr, ⊎_elim, ◌<◌, arith}
use Rattle.std.specs.Prelude.{IsOk}
use Rattle.std.proofs.lemmas.Option.{none-some}
use Rattle.refusals.specs.declared.refusal.Refusal.{Refusal}
use Rattle.refusals.specs.declared.refusal.Refusal.TheVariants as refusal
use Rattle.refusals.specs.declared.limits.TheConstants.{MOST_BINS_BYTES, MOST_WEIGHT}
use Rattle.hive_emit.specs.EmittedKeys.{EmitRefused}
use Rattle.hive_flush.specs.Decoders.{IsRefusedFor}
use Rattle.reg_tree.specs.Maps.{TreeMap, IsTree, weight}
use Rattle.reg_tree.specs.Judgement.{changed, legal_in}
use Rattle.reg_tree.specs.declared.op.Op.{Op}
use Rattle.reg_tree.specs.declared.op.Legality.{Legality}
use Rattle.reg_tree.specs.declared.element.Element.{Element}
use Rattle.crash_model.specs.Changes.{applied, ops_on, replay}
use Rattle.crash_model.proofs.Replays.{applied-append, ops_on-append}
use Rattle.change_codec.specs.ModelChanges.{TimedOp, is_legal, tree_rules, timed_element, timed_elements}
use Rattle.hive_flush.specs.HiveStates.{tree_after_changes}

-- ---- two lists of changes as one

timed-append : (xs ys : List Element) → timed_elements (xs ++ ys) ≡ timed_elements xs ++ timed_elements ys
timed-append [] ys = refl
timed-append (x ∷ xs) ys = ap (λ (l : List (List (ℕ × TimedOp))). timed_element x ∷ l) (timed-append xs ys)

pub led_on : (hive : ℕ) (xs ys : List Element) (tree : TreeMap) → tree_after_changes hive (xs ++ ys) tree ≡ tree_after_changes hive ys (tree_after_changes hive xs tree)
led_on hive xs ys tree =
    ap (λ (l : List (List (ℕ × TimedOp))). applied tree_rules (ops_on hive l) tree) (timed-append xs ys)
    ∙ ap (λ (l : List TimedOp). applied tree_rules l tree) (ops_on-append hive (timed_elements xs) (timed_elements ys))
    ∙ applied-append tree_rules (ops_on hive (timed_elements xs)) (ops_on hive (timed_elements ys)) tree

-- ---- weights

abbrev pub WeightsStay : Type 0
WeightsStay = (tree : TreeMap) → IsTree tree → (op : Op) (moment : ℕ) → weight tree ≤ MOST_WEIGHT → IsOk (legal_in tree op) → weight (changed tree op moment) ≤ MOST_WEIGHT

abbrev pub TreesStay : Type 0
TreesStay = (tree : TreeMap) → IsTree tree → (op : Op) (moment : ℕ) → IsTree (changed tree op moment)

legal_ok : (r : Result Legality Refusal) → is_legal r ≡ true → IsOk r
legal_ok (Ok x) e = refl
legal_ok (Err why) e = absurd cc

-- a step that leads somewhere was legal
was_legal : (b : Bool) (o : Option TreeMap) (u : TreeMap) → cond b o None ≡ Some u → (b ≡ true) × (o ≡ Some u)
was_legal true o u go = (refl, go)
was_legal false o u go = absurd (none-some u go)

pub legal_within : WeightsStay → TreesStay → (ops : List TimedOp) (tree made : TreeMap) → IsTree tree → weight tree ≤ MOST_WEIGHT
    → replay tree_rules ops tree ≡ Some made → weight (applied tree_rules ops tree) ≤ MOST_WEIGHT
unfolding tree_rules
legal_within weights trees [] tree made is within go = within
legal_within weights trees (op ∷ ops) tree made is within go =
    let step = was_legal (is_legal (legal_in tree op.1)) (replay tree_rules ops (changed tree op.1 op.0)) made go in
    legal_within weights trees ops (changed tree op.1 op.0) made (trees tree is op.1 op.0) (weights tree is op.1 op.0 within (legal_ok (legal_in tree op.1) step.0)) step.1

-- ---- refusals

-- a tree is emitted at a size within the limit
pub emit_told : (total least : ℕ) (why : Refusal) → least ≤ MOST_BINS_BYTES → EmitRefused total least why → IsRefusedFor total why
emit_told total least refusal.NoMemory le x = inl refl
emit_told total least refusal.NotFound le x = elim x [ ]
emit_told total least refusal.HasSubkeys le x = elim x [ ]
emit_told total least refusal.BadName le x = elim x [ ]
emit_told total least refusal.TooDeep le x = elim x [ ]
emit_told total least refusal.TooLarge le x = ⊎_elim (λ heavy. inr (refl, heavy)) (λ long. absurd (omega (arith, le, long))) x
emit_told total least refusal.Conflict le x = elim x [ ]
emit_told total least refusal.NotActive le x = elim x [ ]
emit_told total least refusal.NoSuchHandle le x = elim x [ ]
emit_told total least refusal.NoSeat le x = elim x [ ]
emit_told total least refusal.JournalFull le x = elim x [ ]
emit_told total least refusal.HistoryFull le x = elim x [ ]
emit_told total least refusal.DiskFault le x = elim x [ ]
emit_told total least refusal.Faulted le x = elim x [ ]
emit_told total least (refusal.HiveDamaged hive cause) le x = elim x [ ]
emit_told total least refusal.JournalDamaged le x = elim x [ ]
emit_told total least refusal.Unsupported le x = elim x [ ]
emit_told total least refusal.Fixed le x = elim x [ ]

-- changes that are legal are refused for memory alone
pub legal_told : (most total : ℕ) (why : Refusal) → total ≤ most → (why ≡ refusal.NoMemory) ⊎ ((why ≡ refusal.TooLarge) × (most < total)) → why ≡ refusal.NoMemory
legal_told most total why light hive_refusal = ⊎_elim (λ none. none) (λ large. absurd (omega (arith, light, large.1))) hive_refusal
