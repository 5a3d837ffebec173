-- What a store keeps of outcomes.
use Rattle.std.proofs.Common.{◌≡◌, inl, inr, ℕ, ◌+◌, ◌-◌, ◌^◌, ◌<◌, ◌≤◌, cond, Bool, true, false, List, [], ◌∷◌, ◌++◌, length, Option, Some, None, refl, sym, ◌∙◌, ap, subst, arith, length-append, slice_index_or, slice_get}
use Rattle.std.specs.Prelude.{nat_lt, nat_le, IfSome, Contains, ◌↔◌}
use Rattle.std.specs.List.{AllByRecursion}
use mathlib.Core.Bool.{true≢false}
use Rattle.std.proofs.lemmas.Bool.{ltb-true}
use Rattle.std.proofs.lemmas.Option.{slice_get_within, slice_get-get_or, get_or_from_slice_get}
use Rattle.refusals.specs.declared.limits.TheConstants.{GREATEST_NUMBER}
use Rattle.reg_tree.specs.Maps.{TreeMap}
use Rattle.reg_tree.specs.Fresh.{fresh_tree}
use Rattle.reg_tree.specs.Judgement.{applied}
use Rattle.reg_tree.specs.declared.op.Op.{Op}
use Rattle.commit_outcomes.specs.Commits.{Commit, AreUpTo, kept}
use Rattle.std.specs.Option.{option_map}
use Rattle.commit_outcomes.specs.Units.{unit_name, is_unit_name}
use Rattle.commit_outcomes.specs.Trees.{HasCommits, number_in}
use Rattle.commit_outcomes.specs.Operations.{outcome_ops}
use Rattle.transactions.specs.Prepared.{MayRecord, unit_ops}
use Rattle.store_model.specs.Invariant.{HivesAreNamable}
use Rattle.std.proofs.lemmas.List.Elements.{All-cons, All-nil}
use Rattle.std.proofs.lemmas.Option.{none-some}
use Rattle.std.proofs.lemmas.Bool.{leb-false}
use Rattle.refusals.specs.declared.refusal.Refusal.TheVariants.{NotFound}
use Rattle.reg_tree.specs.Operations.{hive_of}
use Rattle.reg_tree.specs.Sequences.{after_elements}
use Rattle.reg_tree.specs.declared.element.Element.{Element}
use Rattle.store_model.specs.Machine.{Machine, has_outcomes, commit_change, commit_ops, outcome_bytes, outcome_of, outcome_tree, trees_now, last_number, refused_if, room_refusal, unnamed_refusal}
use Rattle.transactions.proofs.Stored.{after_one_more, below_limit}
use Rattle.store_model.specs.declared.bounds.StoreBounds.{StoreBounds}
use Rattle.store_model.specs.Transactions.{Transaction}
use Rattle.store_model.proofs.TreeCounts.{all_long}
use Rattle.store_model.proofs.Hives.{applied_on, tree_stays, same_place}
use Rattle.transactions.specs.Stores.{OutcomesMatch}

pub up_to_more : (m n : ℕ) (commits : List Commit) → m ≤ n → AreUpTo m commits → AreUpTo n commits
up_to_more m n [] le all = tt
up_to_more m n (c ∷ commits) le all = (omega (arith, le, all.0), up_to_more m n commits le all.1)

pub below_next : (m : ℕ) (commits : List Commit) → AreUpTo m commits → AllByRecursion (λ (c : Commit). c.0 < m + 1) commits
below_next m [] all = tt
below_next m (c ∷ commits) all = (omega (arith, all.0), below_next m commits all.1)

-- a machine whose tree of outcomes is that of another keeps the same outcomes
pub outcomes_stay : (o : Option (List Commit)) (m n : Machine) → has_outcomes n ≡ has_outcomes m → outcome_tree n.bounds (trees_now n) ≡ outcome_tree m.bounds (trees_now m) → last_number m ≤ last_number n → last_number n ≤ GREATEST_NUMBER →
    OutcomesMatch o m → OutcomesMatch o n
outcomes_stay None m n keeps tree le most match = keeps ∙ match
outcomes_stay (Some commits) m n keeps tree le most match =
    (keeps ∙ match.0, subst (HasCommits commits) (sym tree) match.1, up_to_more (last_number m) (last_number n) commits le match.2, most)

-- operations on hives below that of outcomes leave its tree
pub outcome_tree_stays : (bounds : StoreBounds) (trees : List TreeMap) (ops : List Op) (moment : ℕ) → HivesAreNamable bounds.hives ops → outcome_tree bounds (applied trees ops moment) ≡ outcome_tree bounds trees
outcome_tree_stays bounds trees ops moment named = same_place (applied trees ops moment) trees bounds.hives fresh_tree (tree_stays trees ops moment bounds.hives named)

-- the tree of outcomes is there, if outcomes are kept
pub outcome_tree_there : (bounds : StoreBounds) (trees : List TreeMap) → bounds.hives < length trees → slice_get trees bounds.hives ≡ Some (outcome_tree bounds trees)
outcome_tree_there bounds trees below = slice_get-get_or trees bounds.hives fresh_tree below

-- the same, if the last number stays
pub outcomes_same : (o : Option (List Commit)) (m n : Machine) → has_outcomes n ≡ has_outcomes m → outcome_tree n.bounds (trees_now n) ≡ outcome_tree m.bounds (trees_now m) → last_number n ≡ last_number m → OutcomesMatch o m → OutcomesMatch o n
outcomes_same None m n keeps tree same match = keeps ∙ match
outcomes_same (Some commits) m n keeps tree same match =
    (keeps ∙ match.0, subst (HasCommits commits) (sym tree) match.1, up_to_more (last_number m) (last_number n) commits (omega (arith, same)) match.2, omega (arith, same, match.3))

-- one change more, on hives below that of outcomes, leaves its tree
pub one_more_stays : (bounds : StoreBounds) (trees : List TreeMap) (elements : List Element) (element : Element) → HivesAreNamable bounds.hives element.ops →
    outcome_tree bounds (after_elements trees (elements ++ element ∷ [])) ≡ outcome_tree bounds (after_elements trees elements)
one_more_stays bounds trees elements element named =
    ap (outcome_tree bounds) (after_one_more trees elements element) ∙ outcome_tree_stays bounds (after_elements trees elements) element.ops element.moment named

pub named_one : (hives : ℕ) (op : Op) → hive_of op < hives → HivesAreNamable hives (op ∷ [])
named_one hives op below = All-cons (λ o. hive_of o < hives) op [] below (All-nil (λ o. hive_of o < hives))

-- a hive that is not refused is one that calls may name
pub below_named : (m : Machine) (op : Op) → unnamed_refusal m (hive_of op) ≡ None → hive_of op < m.bounds.hives
below_named m op free = by_test (nat_le m.bounds.hives (hive_of op)) refl free
  where
    by_test : (b : Bool) → nat_le m.bounds.hives (hive_of op) ≡ b → refused_if b NotFound ≡ None → hive_of op < m.bounds.hives
    by_test true e none = absurd (none-some NotFound (sym none))
    by_test false e none = leb-false m.bounds.hives (hive_of op) e

-- if there is room, there is a number for one change more
pub room_left : (m : Machine) (long : ℕ) → room_refusal m long ≡ None → last_number m + 1 ≤ GREATEST_NUMBER
room_left m long free = below_limit m long free

-- What a store knows of its tree of outcomes, if it keeps outcomes.

pub tree_has : (m : Machine) (commits : List Commit) (trees : List TreeMap) (tree : TreeMap) → OutcomesMatch (Some commits) m → outcome_tree m.bounds trees ≡ outcome_tree m.bounds (trees_now m) → slice_get trees m.bounds.hives ≡ Some tree →
    (tree ≡ outcome_tree m.bounds (trees_now m)) × HasCommits commits tree
tree_has m commits trees tree match same there =
    let is : tree ≡ outcome_tree m.bounds (trees_now m) = sym (get_or_from_slice_get trees m.bounds.hives tree fresh_tree there) ∙ same in
    (is, subst (HasCommits commits) (sym is) match.1)

pub far_up : (m : Machine) (commits : List Commit) → OutcomesMatch (Some commits) m → AreUpTo (2 ^ 64 - 1) commits
far_up m commits match = up_to_more (last_number m) (2 ^ 64 - 1) commits (omega (arith, match.3)) match.2

pub all_below : (m : Machine) (commits : List Commit) → OutcomesMatch (Some commits) m → AllByRecursion (λ (c : Commit). c.0 < last_number m + 1) commits
all_below m commits match = below_next (last_number m) commits match.2

-- what the commit of a unit does, if outcomes are kept
pub unit_ops_are : (m : Machine) (unit : List ℕ) → has_outcomes m ≡ true → unit_ops m unit ≡ outcome_ops m.bounds.hives (outcome_tree m.bounds (trees_now m)) (last_number m + 1, unit_name unit)
unit_ops_are m unit keeps = ap (λ b. cond b (outcome_ops m.bounds.hives (outcome_tree m.bounds (trees_now m)) (last_number m + 1, unit_name unit)) []) keeps

-- what an opened store's list of commits says, in the machine that the store shows
pub match_of : (o : Option (List Commit)) (commits : List Commit) (m n : Machine) → m ≡ n → o ≡ Some commits → OutcomesMatch o m → OutcomesMatch (Some commits) n
match_of o commits m n same is match = subst (OutcomesMatch (Some commits)) same (subst (λ x. OutcomesMatch x m) is match)

-- what is found in the tree of outcomes of now is what the machine has
pub told_by : (m : Machine) (o : Option (List Commit)) (tree : TreeMap) (id : List ℕ) (found : Option ℕ) → OutcomesMatch o m → has_outcomes m ≡ true → slice_get (trees_now m) m.bounds.hives ≡ Some tree →
    ((commits : List Commit) → HasCommits commits tree → found ≡ number_in tree id) → (has_outcomes m ≡ true) × (found ≡ outcome_of m id)
told_by m None tree id found match keeps there is = absurd (true≢false (sym keeps ∙ match))
told_by m (Some commits) tree id found match keeps there is =
    let has = tree_has m commits (trees_now m) tree match refl there in
    (keeps, is commits has.1 ∙ ap (λ (t : TreeMap). number_in t id) has.0)

pub bytes_kept : (m : Machine) → has_outcomes m ≡ true → outcome_bytes m ≡ 100
bytes_kept m keeps = ap (λ b. cond b 100 0) keeps

-- A commit is recorded

-- what the laws of outcomes say of a tree that a commit changes
abbrev pub HasAfter : Type 0
HasAfter = (trees : List TreeMap) (hive : ℕ) (tree after : TreeMap) (commits : List Commit) (commit : Commit) (moment : ℕ) → slice_get trees hive ≡ Some tree → HasCommits commits tree → is_unit_name commit.1 ≡ true →
    AllByRecursion (λ c. c.0 < commit.0) commits → 0 < commit.0 → commit.0 < 2 ^ 64 → slice_get (applied trees (outcome_ops hive tree commit) moment) hive ≡ Some after →
    HasCommits (kept (commits ++ commit ∷ [])) after × AreUpTo commit.0 (kept (commits ++ commit ∷ []))

-- what they say of the commit of a unit
abbrev pub LookedUp : Type 0
LookedUp = (tree : TreeMap) (commits : List Commit) (id : List ℕ) (number : ℕ) → HasCommits commits tree → AreUpTo (2 ^ 64 - 1) commits → (number_in tree id ≡ Some number) ↔ Contains commits (number, unit_name id)

pub may_record : (o : Option (List Commit)) (m : Machine) (unit : List ℕ) (number : ℕ) (earlier : Option ℕ) → OutcomesMatch o m → number ≡ last_number m + 1 → (has_outcomes m ≡ true → earlier ≡ outcome_of m unit) → LookedUp → IfSome o (MayRecord unit number earlier)
may_record None m unit number earlier match is known look = tt
may_record (Some commits) m unit number earlier match is known look = record {
  above = subst (λ n. AllByRecursion (λ (c : Commit). c.0 < n) commits) (sym is) (all_below m commits match);
  from_one = omega (arith, is);
  known = λ n. subst (λ (e : Option ℕ). (e ≡ Some n) ↔ Contains commits (n, unit_name unit)) (sym (known match.0)) (look (outcome_tree m.bounds (trees_now m)) commits unit n match.1 (far_up m commits match));
}

-- the store after a commit keeps the outcomes with it
module _ (m n : Machine) (one : Transaction) (moment : ℕ) (opened : n.opened ≡ m.opened) (bounds : n.bounds ≡ m.bounds) (before : n.before ≡ m.before) (grown : n.accepted ≡ m.accepted ++ commit_change m moment one ∷ []) (named : HivesAreNamable m.bounds.hives one.ops)
    (most : last_number m + 1 ≤ GREATEST_NUMBER) where
  keeps_same : has_outcomes n ≡ has_outcomes m
  keeps_same = ap (λ (b : StoreBounds). nat_lt b.hives (length n.opened)) bounds ∙ ap (λ (ts : List TreeMap). nat_lt m.bounds.hives (length ts)) opened

  last_is : last_number n ≡ last_number m + 1
  last_is = omega (arith, before, ap (λ (es : List Element). length es) grown, length-append m.accepted (commit_change m moment one ∷ []))

  trees_are : trees_now n ≡ applied (applied (trees_now m) one.ops moment) (commit_ops m one) moment
  trees_are =
      ap (λ ts. after_elements ts n.accepted) opened ∙ ap (after_elements m.opened) grown ∙ after_one_more m.opened m.accepted (commit_change m moment one)
      ∙ applied_on (trees_now m) one.ops (commit_ops m one) moment

  long : length (trees_now n) ≡ length m.opened
  long = all_long n.opened n.accepted ∙ ap (λ (ts : List TreeMap). length ts) opened

  pub recorded : (o : Option (List Commit)) → OutcomesMatch o m → HasAfter → ((id : List ℕ) → is_unit_name (unit_name id) ≡ true) →
      OutcomesMatch (option_map (λ commits. kept (commits ++ (last_number m + 1, unit_name one.id) ∷ [])) o) n
  recorded None match has name = keeps_same ∙ match
  recorded (Some commits) match has name =
      let front = applied (trees_now m) one.ops moment in
      let hive = m.bounds.hives in
      let tree = outcome_tree m.bounds (trees_now m) in
      let commit : Commit = (last_number m + 1, unit_name one.id) in
      let below : hive < length m.opened = ltb-true hive (length m.opened) match.0 in
      let there : slice_get front hive ≡ Some tree =
      tree_stays (trees_now m) one.ops moment hive named ∙ outcome_tree_there m.bounds (trees_now m) (omega (arith, below, all_long m.opened m.accepted)) in
      let ops : commit_ops m one ≡ outcome_ops hive tree commit = ap (λ b. cond b (outcome_ops hive tree commit) []) match.0 in
      let after = outcome_tree n.bounds (trees_now n) in
      let found : slice_get (trees_now n) hive ≡ Some after =
      ap (λ (b : StoreBounds). slice_get (trees_now n) b.hives) (sym bounds) ∙ outcome_tree_there n.bounds (trees_now n) (omega (arith, below, long, ap (λ (b : StoreBounds). b.hives) bounds)) in
      let then : HasCommits (kept (commits ++ commit ∷ [])) after × AreUpTo (last_number m + 1) (kept (commits ++ commit ∷ [])) =
      has front hive tree after commits commit moment there match.1 (name one.id) (all_below m commits match) (omega arith) (omega (arith, most))
      (ap (λ (l : List Op). slice_get (applied front l moment) hive) (sym ops) ∙ ap (λ ts. slice_get ts hive) (sym trees_are) ∙ found) in
      (keeps_same ∙ match.0, then.0, subst (λ k. AreUpTo k (kept (commits ++ commit ∷ []))) (sym last_is) then.1, omega (arith, last_is, most))
