-- What is carried out at a commit is legal, but for weight.
use Rattle.std.proofs.Common.{◌≡◌, ◌⊎◌, ℕ, ◌+◌, ◌<◌, ◌≤◌, ◌^◌, Bool, true, false, ◌||◌, List, [], ◌∷◌, ◌++◌, length, Option, Some, None, Result, Ok, Err, cond, refl, ◌∙◌, ap, arith}
use Rattle.std.specs.Prelude.{slice_get, is_ok, nat_lt}
use Rattle.std.specs.List.{AllByRecursion}
use Rattle.std.proofs.lemmas.Bool.Decides.{nat_tests}
use Rattle.std.proofs.lemmas.List.Sums.{sum_by-append}
use Rattle.std.proofs.lemmas.Option.{slice_get-get_or}
use Rattle.refusals.specs.declared.refusal.Refusal.{Refusal}
use Rattle.refusals.specs.declared.refusal.Refusal.TheVariants.{TooLarge}
use Rattle.reg_tree.specs.Maps.{TreeMap}
use Rattle.reg_tree.specs.Fresh.{fresh_tree}
use Rattle.reg_tree.specs.Operations.{hive_of}
use Rattle.reg_tree.specs.Encodings.{element_encoded_len, op_encoded_len, ops_encoded_len}
use Rattle.reg_tree.specs.Judgement.{judged, legal, applied, applied_one, outweighs, any_outweighs}
use Rattle.reg_tree.specs.Sequences.{AreLegal}
use Rattle.reg_tree.specs.declared.op.Op.{Op}
use Rattle.reg_tree.specs.declared.op.Legality.{Legality}
use Rattle.reg_tree.specs.declared.op.Legality.TheVariants.{Legal}
use Rattle.conflicts.specs.TreeOutlines.{judged_if, judged_in, AreCarriedOut, OpsDontConflict}
use Rattle.commit_outcomes.specs.Units.{unit_name, is_unit_name}
use Rattle.commit_outcomes.specs.Commits.{Commit, kept}
use Rattle.commit_outcomes.specs.Trees.{HasCommits}
use Rattle.commit_outcomes.specs.Operations.{outcome_ops}
use Rattle.store_model.specs.Transactions.{Transaction}
use Rattle.store_model.specs.Machine.{Machine, commit_change, committed, commit_ops, has_outcomes, last_number, next_commit, outcome_bytes, outcome_tree, trees_now}
use Rattle.store_model.specs.Invariant.{AreLegalButForWeight, AreLegalChanges, HivesAreNamable, InvariantHolds, IsActiveAt, KeepsOutcomes}
use Rattle.store_model.specs.declared.room.TheConstants.{MOST_OUTCOME_BYTES}
use Rattle.store_model.specs.declared.bounds.StoreBounds.{StoreBounds}
use Rattle.store_model.proofs.TreeCounts.{all_long}
use Rattle.store_model.proofs.Hives.{apart_on, carried_on, hive_apart, tree_stays}

-- what may be carried out is legal, or would be too heavy
abbrev pub ButForWeight : Type 0
ButForWeight = (trees : List TreeMap) (op : Op) → judged_in trees op ≡ Ok Legal → (legal trees op ≡ Ok Legal) ⊎ (legal trees op ≡ Err TooLarge)

-- and it is refused exactly if it would leave its hive's tree too heavy
abbrev pub WeightAlone : Type 0
WeightAlone = (trees : List TreeMap) (op : Op) (moment : ℕ) (tree : TreeMap) → slice_get trees (hive_of op) ≡ Some tree → judged tree op ≡ Ok Legal →
    legal trees op ≡ cond (outweighs trees op moment) (Err TooLarge) (Ok Legal)

-- the laws of outcomes, as they are handed in
pub record OutcomeLaws : Type 0 where
  pub named : (id : List ℕ) → is_unit_name (unit_name id) ≡ true
  pub carried : (trees : List TreeMap) (hive : ℕ) (tree : TreeMap) (commits : List Commit) (commit : Commit) (moment : ℕ) → slice_get trees hive ≡ Some tree → HasCommits commits tree →
      is_unit_name commit.1 ≡ true → AllByRecursion (λ c. c.0 < commit.0) commits → commit.0 < 2 ^ 64 → AreCarriedOut trees (outcome_ops hive tree commit) moment
  pub there : (hive : ℕ) (tree : TreeMap) (commits : List Commit) (commit : Commit) → HasCommits commits tree → is_unit_name commit.1 ≡ true → AllByRecursion (λ c. c.0 < commit.0) commits → commit.0 < 2 ^ 64 →
      AllByRecursion (λ op. hive_of op ≡ hive) (outcome_ops hive tree commit) × (ops_encoded_len (outcome_ops hive tree commit) ≤ 100)

pub legal_but_for_weight : ButForWeight → (trees : List TreeMap) (ops : List Op) (moment : ℕ) → AreCarriedOut trees ops moment → AreLegalButForWeight trees ops moment
legal_but_for_weight law trees [] moment c = tt
legal_but_for_weight law trees (op ∷ ops) moment c = (law trees op c.0, legal_but_for_weight law (applied_one trees op moment) ops moment c.1)

pub neither : (a b : Bool) → (a || b) ≡ false → (a ≡ false) × (b ≡ false)
neither true b e = absurd cc
neither false b e = (refl, e)

light : WeightAlone → (trees : List TreeMap) (op : Op) (moment : ℕ) → judged_in trees op ≡ Ok Legal → outweighs trees op moment ≡ false → legal trees op ≡ Ok Legal
light law trees op moment j e = by_hive (slice_get trees (hive_of op)) refl j
  where
    by_hive : (o : Option TreeMap) → slice_get trees (hive_of op) ≡ o → judged_if o op ≡ Ok Legal → legal trees op ≡ Ok Legal
    by_hive None t j = absurd cc
    by_hive (Some tree) t j = law trees op moment tree t j ∙ ap (λ b. cond {A = Result Legality Refusal} b (Err TooLarge) (Ok Legal)) e

pub legal_within : WeightAlone → (trees : List TreeMap) (ops : List Op) (moment : ℕ) → AreCarriedOut trees ops moment → any_outweighs trees ops moment ≡ false → AreLegalChanges trees ops moment
legal_within law trees [] moment c e = tt
legal_within law trees (op ∷ ops) moment c e =
    let f = neither (outweighs trees op moment) (any_outweighs (applied_one trees op moment) ops moment) e in
    (light law trees op moment c.0 f.0, legal_within law (applied_one trees op moment) ops moment c.1 f.1)

pub legal_in_order : (trees : List TreeMap) (ops : List Op) (moment : ℕ) → AreLegalChanges trees ops moment → AreLegal trees ops moment
legal_in_order trees [] moment l = tt
legal_in_order trees (op ∷ ops) moment l = (ap is_ok l.0, legal_in_order (applied_one trees op moment) ops moment l.1)

-- The tree of outcomes before a commit

pub each_weaker : {X : Type 0} (P Q : X → Type 0) → ((x : X) → P x → Q x) → (xs : List X) → AllByRecursion P xs → AllByRecursion Q xs
each_weaker P Q weaker [] all = tt
each_weaker P Q weaker (x ∷ xs) all = (weaker x all.0, each_weaker P Q weaker xs all.1)

-- there is a tree of outcomes, with commits whose numbers are below the next
pub record IsReady (machine : Machine) : Type 0 where
  pub tree : slice_get (trees_now machine) machine.bounds.hives ≡ Some (outcome_tree machine.bounds (trees_now machine))
  pub keeps : KeepsOutcomes machine
  pub before : AllByRecursion (λ c. c.0 < last_number machine + 1) (kept (keeps.before ++ machine.commits))
  pub fits : last_number machine + 1 < 2 ^ 64

pub tree_there : (bounds : StoreBounds) (trees : List TreeMap) → bounds.hives < length trees → slice_get trees bounds.hives ≡ Some (outcome_tree bounds trees)
tree_there bounds trees lt = slice_get-get_or trees bounds.hives fresh_tree lt

pub hives_fewer : (machine : Machine) → has_outcomes machine ≡ true → machine.bounds.hives < length machine.opened
hives_fewer machine has = below machine.bounds.hives (length machine.opened) has
  where
    below : (n m : ℕ) → nat_lt n m ≡ true → n < m
    below n m e = grind (arith, nat_tests)

pub is_ready : (machine : Machine) → InvariantHolds machine → has_outcomes machine ≡ true → IsReady machine
is_ready machine k has =
    let keeps = k.outcomes has in
    record {
      tree = tree_there machine.bounds (trees_now machine) (omega (arith, hives_fewer machine has, all_long machine.opened machine.accepted));
      keeps = keeps;
      before = each_weaker (λ c. c.0 ≤ last_number machine) (λ c. c.0 < last_number machine + 1) (λ c le. omega (arith, le)) (kept (keeps.before ++ machine.commits)) keeps.numbers;
      fits = omega (arith, k.within.numbers);
    }

module _ (laws : OutcomeLaws) (machine : Machine) (one : Transaction) (k : InvariantHolds machine) where
  -- What a commit does

  pub carried_commit : (slot : ℕ) → IsActiveAt machine.tx_slots slot one → (moment : ℕ) → AreCarriedOut (trees_now machine) (committed machine one) moment
  carried_commit slot a moment = carried_on (trees_now machine) one.ops (commit_ops machine one) moment (k.carried slot one a moment) (by_case (has_outcomes machine) refl)
    where
      after : List TreeMap
      after = applied (trees_now machine) one.ops moment

      by_case : (t : Bool) → has_outcomes machine ≡ t → AreCarriedOut after (cond t (outcome_ops machine.bounds.hives (outcome_tree machine.bounds (trees_now machine)) (next_commit machine one)) []) moment
      by_case true has =
          let ready = is_ready machine k has in
          laws.carried after machine.bounds.hives (outcome_tree machine.bounds (trees_now machine)) (kept (ready.keeps.before ++ machine.commits)) (next_commit machine one) moment
          (tree_stays (trees_now machine) one.ops moment machine.bounds.hives (k.named slot one a) ∙ ready.tree) ready.keeps.now (laws.named one.id) ready.before ready.fits
      by_case false has = tt

  -- no claim of a commit conflicts with one on hives that calls may name
  pub commit_apart : (others : List Op) → OpsDontConflict one.ops others → HivesAreNamable machine.bounds.hives others → OpsDontConflict (committed machine one) others
  commit_apart others apart named = apart_on one.ops (commit_ops machine one) others apart (by_case (has_outcomes machine) refl)
    where
      by_case : (t : Bool) → has_outcomes machine ≡ t → OpsDontConflict (cond t (outcome_ops machine.bounds.hives (outcome_tree machine.bounds (trees_now machine)) (next_commit machine one)) []) others
      by_case true has =
          let ready = is_ready machine k has in
          let ops = outcome_ops machine.bounds.hives (outcome_tree machine.bounds (trees_now machine)) (next_commit machine one) in
          hive_apart machine.bounds.hives ops others (laws.there machine.bounds.hives (outcome_tree machine.bounds (trees_now machine)) (kept (ready.keeps.before ++ machine.commits)) (next_commit machine one) ready.keeps.now (laws.named one.id) ready.before ready.fits).0 named
      by_case false has = tt

  -- a commit's change is longer than the transaction's operations by no more than the bytes that are set aside for it
  pub commit_short : (moment : ℕ) → element_encoded_len (commit_change machine moment one) ≤ element_encoded_len (record { moment = moment; ops = one.ops }) + outcome_bytes machine
  commit_short moment = omega (arith, sum_by-append op_encoded_len one.ops (commit_ops machine one), by_case (has_outcomes machine) refl)
    where
      by_case : (t : Bool) → has_outcomes machine ≡ t → ops_encoded_len (cond t (outcome_ops machine.bounds.hives (outcome_tree machine.bounds (trees_now machine)) (next_commit machine one)) []) ≤ cond t MOST_OUTCOME_BYTES 0
      by_case true has =
          let ready = is_ready machine k has in
          (laws.there machine.bounds.hives (outcome_tree machine.bounds (trees_now machine)) (kept (ready.keeps.before ++ machine.commits)) (next_commit machine one) ready.keeps.now (laws.named one.id) ready.before ready.fits).1
      by_case false has = omega arith

-- what a commit does is legal within the limit of weight
abbrev pub Within : Type 0
Within = (machine : Machine) (slot : ℕ) (one : Transaction) (moment : ℕ) → InvariantHolds machine → IsActiveAt machine.tx_slots slot one →
    any_outweighs (trees_now machine) (committed machine one) moment ≡ false → AreLegalChanges (trees_now machine) (committed machine one) moment

pub commit_within : WeightAlone → OutcomeLaws → Within
commit_within weight laws machine slot one moment k a light =
    legal_within weight (trees_now machine) (committed machine one) moment (carried_commit laws machine one k slot a moment) light
