-- Each step leaves the tree of outcomes with the commits that are kept.
use Rattle.std.proofs.Common.{◌≡◌, ◌↔◌, ℕ, ◌+◌, ◌-◌, ◌<◌, ◌≤◌, ◌^◌, ◌==◌, Bool, true, false, List, [], ◌∷◌, ◌++◌, length, take, drop, replicate, Option, Some, cond, refl, sym, ◌∙◌, ap, subst, append_assoc, arith}
use Rattle.std.specs.Prelude.{Contains, slice_get, nat_le, nat_lt}
use Rattle.std.specs.List.{AllByRecursion, list_any}
use Rattle.std.proofs.lemmas.Bool.Decides.{nat_tests}
use Rattle.std.proofs.lemmas.List.{append-nil, get_or-replicate, length-append, take-append-le, take_all}
use Rattle.std.proofs.lemmas.List.Elements.{All-cons, All-drop, All-from_recursion, All-nil, All-weaker, filter-append, filter_passes, recursion_from_All}
use Rattle.reg_tree.specs.Maps.{TreeMap}
use Rattle.reg_tree.specs.Fresh.{fresh_tree}
use Rattle.reg_tree.specs.Operations.{hive_of}
use Rattle.reg_tree.specs.Judgement.{applied}
use Rattle.reg_tree.specs.Sequences.{after_elements}
use Rattle.reg_tree.specs.declared.element.Element.{Element}
use Rattle.reg_tree.specs.declared.op.Op.{Op}
use Rattle.commit_outcomes.specs.declared.commit_list.TheConstants.{MOST_COMMITS}
use Rattle.commit_outcomes.specs.Units.{is_unit_name, unit_name}
use Rattle.commit_outcomes.specs.Commits.{Commit, AreKept, AreUpTo, is_of, kept, last_of, latest}
use Rattle.commit_outcomes.specs.Trees.{HasCommits, number_in}
use Rattle.commit_outcomes.specs.Operations.{outcome_ops}
use Rattle.store_model.specs.Transactions.{Transaction, inactive_refusal}
use Rattle.store_model.specs.Machine.{Machine, change, commit_change, commit_ops, commit_refusal, commit_refusal_if, call_refusal, closed_refusal, commits_to, fault, first_of, has_outcomes, last_number, next_commit, opened_machine, outcome_of, outcome_tree, trees_at, trees_now, unnamed_refusal}
use Rattle.store_model.specs.Steps.{AcceptsWrite, CommitsTx, Folds, Step}
use Rattle.store_model.specs.Invariant.{HivesAreNamable, InvariantHolds, IsActiveAt, KeepsOutcomes, OutcomesFit}
use Rattle.store_model.specs.declared.bounds.StoreBounds.{StoreBounds}
use Rattle.store_model.specs.declared.handle.Tx.{Tx}
use Rattle.store_model.specs.declared.event.Event.{Event}
use Rattle.store_model.specs.declared.event.Event.TheVariants as event
use Rattle.store_model.specs.declared.event.Reply.{Reply}
use Rattle.store_model.proofs.Accepting.{AcceptsNothing, bounds_stay, openings_stay, others_accept_nothing}
use Rattle.store_model.proofs.AtCommit.{IsReady, OutcomeLaws, each_weaker, hives_fewer, is_ready, tree_there}
use Rattle.store_model.proofs.Hives.{applied_on, same_place, tree_stays}
use Rattle.store_model.proofs.Replies.{accepted_or, awaits_or, folded_or}
use Rattle.store_model.proofs.TransactionChanges.{active_of, after_one_more, found_at, named_hive, none_first, with_commit}
use Rattle.store_model.proofs.TreeCounts.{all_long}

-- what a commit leaves of the tree of outcomes, and what is kept of commits as they come, as it is handed in
pub record KeptLaws : Type 0 where
  pub at_commit : OutcomeLaws
  pub has : (trees : List TreeMap) (hive : ℕ) (tree after : TreeMap) (commits : List Commit) (commit : Commit) (moment : ℕ) → slice_get trees hive ≡ Some tree → HasCommits commits tree →
      is_unit_name commit.1 ≡ true → AllByRecursion (λ c. c.0 < commit.0) commits → 0 < commit.0 → commit.0 < 2 ^ 64 → slice_get (applied trees (outcome_ops hive tree commit) moment) hive ≡ Some after →
      HasCommits (kept (commits ++ commit ∷ [])) after × AreUpTo commit.0 (kept (commits ++ commit ∷ []))
  pub in_turn : (commits : List Commit) (commit : Commit) → kept (kept commits ++ commit ∷ []) ≡ kept (commits ++ commit ∷ [])

-- Commits that are kept

pub up_to_more : (n m : ℕ) (commits : List Commit) → n ≤ m → AreUpTo n commits → AreUpTo m commits
up_to_more n m commits le up = each_weaker (λ c. c.0 ≤ n) (λ c. c.0 ≤ m) (λ c at. omega (arith, at, le)) commits up

-- commits that may stand in a tree are all kept
kept_again : (commits : List Commit) → AreKept commits → kept commits ≡ commits
kept_again commits are = ap (last_of MOST_COMMITS) are.apart ∙ ap (λ n. drop n commits) (let none : length commits - MOST_COMMITS ≡ 0 = omega (arith, are.few) in none)

kept_alone : (commits : List Commit) → AreKept commits → kept (commits ++ []) ≡ commits
kept_alone commits are = ap kept (append-nil commits) ∙ kept_again commits are

-- what is kept of commits has no number that they don't have
either_up_to : (n : ℕ) (t : Bool) (commits others : List Commit) → AreUpTo n commits → AreUpTo n others → AreUpTo n (cond t commits others)
either_up_to n true commits others up either = up
either_up_to n false commits others up either = either

latest_up_to : (n : ℕ) (commits : List Commit) → AreUpTo n commits → AreUpTo n (latest commits)
latest_up_to n [] up = tt
latest_up_to n (commit ∷ commits) up =
    let rest : AreUpTo n (latest commits) = latest_up_to n commits up.1 in
    either_up_to n (list_any (is_of commit.1) commits) (latest commits) (commit ∷ latest commits) rest (up.0, rest)

drop_up_to : (n count : ℕ) (commits : List Commit) → AreUpTo n commits → AreUpTo n (drop count commits)
drop_up_to n count commits up =
    recursion_from_All (λ c. c.0 ≤ n) (drop count commits) (All-drop (λ c. c.0 ≤ n) count commits (All-from_recursion (λ c. c.0 ≤ n) commits up))

kept_up_to : (n : ℕ) (commits : List Commit) → AreUpTo n commits → AreUpTo n (kept commits)
kept_up_to n commits up = drop_up_to n (length (latest commits) - MOST_COMMITS) (latest commits) (latest_up_to n commits up)

on_up_to : (n : ℕ) (commits more : List Commit) → AreUpTo n commits → AreUpTo n more → AreUpTo n (commits ++ more)
on_up_to n [] more up later = later
on_up_to n (commit ∷ commits) more up later = (up.0, on_up_to n commits more up.1 later)

-- the commits up to a number

to_up_to : (n : ℕ) (commits : List Commit) → AreUpTo n (commits_to n commits)
to_up_to n commits = recursion_from_All (λ c. c.0 ≤ n) (commits_to n commits)
    (All-weaker (λ c. nat_le c.0 n ≡ true) (λ c. c.0 ≤ n) (λ c e. grind (arith, nat_tests)) (commits_to n commits) (filter_passes (λ c. nat_le c.0 n) commits))

to_all : (n : ℕ) (commits : List Commit) → AreUpTo n commits → commits_to n commits ≡ commits
to_all n [] up = refl
to_all n (commit ∷ commits) up =
    let passes : nat_le commit.0 n ≡ true = grind (arith, nat_tests, up.0) in
    ap (λ t. cond t (commit ∷ commits_to n commits) (commits_to n commits)) passes ∙ ap (λ cs. commit ∷ cs) (to_all n commits up.1)

to_less : (n : ℕ) (commits : List Commit) (commit : Commit) → n < commit.0 → commits_to n (commits ++ commit ∷ []) ≡ commits_to n commits
to_less n commits commit lt =
    let fails : nat_le commit.0 n ≡ false = grind (arith, nat_tests, lt) in
    filter-append (λ c. nat_le c.0 n) commits (commit ∷ []) ∙ ap (λ t. commits_to n commits ++ cond t (commit ∷ []) []) fails ∙ append-nil (commits_to n commits)

-- changes

take_none : (n : ℕ) → take {A = Element} n [] ≡ []
take_none n = take_all n [] (omega arith)

-- As a store is opened

pub outcomes_at_first : (bounds : StoreBounds) (trees : List TreeMap) (number : ℕ) (journaled : List Element) (failures : ℕ) → OutcomesFit bounds trees number →
    has_outcomes (opened_machine bounds trees number journaled failures) ≡ true → KeepsOutcomes (opened_machine bounds trees number journaled failures)
outcomes_at_first bounds trees number journaled failures fit has =
    let (commits, are, up) = fit has in
    let all : kept (commits ++ []) ≡ commits = kept_alone commits are.are in
    record {
      before = commits;
      opened = are;
      up_to = up;
      now = subst (λ cs. HasCommits cs (outcome_tree bounds trees)) (sym all) are;
      numbers = subst (AreUpTo (number + 0)) (sym all) (up_to_more number (number + 0) commits (omega arith) up);
      since = tt;
      each = λ at low high. subst (λ cs. HasCommits cs (outcome_tree bounds (after_elements trees (take (at - number) [])))) (sym all)
          (subst (λ es. HasCommits commits (outcome_tree bounds (after_elements trees es))) (sym (take_none (at - number))) are);
    }

-- After a step

abbrev Keeps : Machine → Type 0
Keeps machine = has_outcomes machine ≡ true → KeepsOutcomes machine

module _ (laws : KeptLaws) (old new : Machine) (k : InvariantHolds old) (bounds : new.bounds ≡ old.bounds) (wide : length new.opened ≡ length old.opened) where
  has_still : has_outcomes new ≡ true → has_outcomes old ≡ true
  has_still has = ap (λ (b : StoreBounds). nat_lt b.hives (length old.opened)) (sym bounds) ∙ ap (nat_lt new.bounds.hives) (sym wide) ∙ has

  -- the history stays
  stays : new.opened ≡ old.opened → new.before ≡ old.before → AcceptsNothing old new → Keeps new
  stays opened before nothing has =
      let keeps = k.outcomes (has_still has) in
      subst KeepsOutcomes (same_history opened before nothing) (record {
        before = keeps.before;
        opened = keeps.opened;
        up_to = keeps.up_to;
        now = keeps.now;
        numbers = keeps.numbers;
        since = keeps.since;
        each = keeps.each;
      })
    where
      same_history : new.opened ≡ old.opened → new.before ≡ old.before → AcceptsNothing old new →
          record new { opened = old.opened; before = old.before; accepted = old.accepted; commits = old.commits; bounds = old.bounds } ≡ new
      same_history opened before nothing =
          ap (λ x. let m : Machine = record new { opened = x; before = old.before; accepted = old.accepted; commits = old.commits; bounds = old.bounds } in m) (sym opened)
          ∙ ap (λ x. let m : Machine = record new { before = x; accepted = old.accepted; commits = old.commits; bounds = old.bounds } in m) (sym before)
          ∙ ap (λ x. let m : Machine = record new { accepted = x; commits = old.commits; bounds = old.bounds } in m) (sym nothing.0)
          ∙ ap (λ x. let m : Machine = record new { commits = x; bounds = old.bounds } in m) (sym nothing.1)
          ∙ ap (λ x. let m : Machine = record new { bounds = x } in m) (sym bounds)

  nothing : new ≡ old → Keeps new
  nothing e = stays (ap (λ (m : Machine). m.opened) e) (ap (λ (m : Machine). m.before) e) (ap (λ (m : Machine). m.accepted) e, ap (λ (m : Machine). m.commits) e)

  -- it was so after each change, with one change more
  each_more : (keeps : KeepsOutcomes old) (element : Element) (commits : List Commit) → ((number : ℕ) → number ≤ last_number old → commits_to number commits ≡ commits_to number old.commits) →
      AreUpTo (last_number old + 1) commits → HasCommits (kept (keeps.before ++ commits)) (outcome_tree old.bounds (after_elements old.opened (old.accepted ++ element ∷ []))) →
      (number : ℕ) → old.before ≤ number → number ≤ old.before + length (old.accepted ++ element ∷ []) →
      HasCommits (kept (keeps.before ++ commits_to number commits)) (outcome_tree old.bounds (after_elements old.opened (take (number - old.before) (old.accepted ++ element ∷ []))))
  each_more keeps element commits alike since now number low high = by_case (nat_le number (last_number old)) refl
    where
      by_case : (t : Bool) → nat_le number (last_number old) ≡ t →
          HasCommits (kept (keeps.before ++ commits_to number commits)) (outcome_tree old.bounds (after_elements old.opened (take (number - old.before) (old.accepted ++ element ∷ []))))
      by_case true e =
          let le : number ≤ last_number old = grind (arith, nat_tests) in
          let fewer : take (number - old.before) (old.accepted ++ element ∷ []) ≡ take (number - old.before) old.accepted = take-append-le (number - old.before) old.accepted (element ∷ []) (omega (arith, le)) in
          subst (λ cs. HasCommits (kept (keeps.before ++ cs)) (outcome_tree old.bounds (after_elements old.opened (take (number - old.before) (old.accepted ++ element ∷ []))))) (sym (alike number le))
          (subst (λ es. HasCommits (kept (keeps.before ++ commits_to number old.commits)) (outcome_tree old.bounds (after_elements old.opened es))) (sym fewer) (keeps.each number low le))
      by_case false e =
          let more : last_number old < number = grind (arith, nat_tests) in
          let long = length-append old.accepted (element ∷ []) in
          let last : number ≡ last_number old + 1 = omega (arith, more, high, long) in
          let all : take (number - old.before) (old.accepted ++ element ∷ []) ≡ old.accepted ++ element ∷ [] = take_all (number - old.before) (old.accepted ++ element ∷ []) (omega (arith, last, long)) in
          let whole : commits_to number commits ≡ commits = to_all number commits (subst (λ n. AreUpTo n commits) (sym last) since) in
          subst (λ cs. HasCommits (kept (keeps.before ++ cs)) (outcome_tree old.bounds (after_elements old.opened (take (number - old.before) (old.accepted ++ element ∷ []))))) (sym whole)
          (subst (λ es. HasCommits (kept (keeps.before ++ commits)) (outcome_tree old.bounds (after_elements old.opened es))) (sym all) now)

  -- a write by itself is on a hive that calls may name
  writes : (session moment : ℕ) (op : Op) (levels : Option ℕ) (number : ℕ) → AcceptsWrite old session moment op levels number new → Keeps new
  writes session moment op levels number a has = subst KeepsOutcomes (sym a.next) (record {
    before = keeps.before;
    opened = keeps.opened;
    up_to = keeps.up_to;
    now = now;
    numbers = up_to_more (last_number old) (old.before + length (old.accepted ++ change moment op ∷ [])) (kept (keeps.before ++ old.commits)) (omega (arith, long)) keeps.numbers;
    since = up_to_more (last_number old) (old.before + length (old.accepted ++ change moment op ∷ [])) old.commits (omega (arith, long)) keeps.since;
    each = each_more keeps (change moment op) old.commits (λ number le. refl) (up_to_more (last_number old) (last_number old + 1) old.commits (omega arith) keeps.since) now;
  })
    where
      keeps : KeepsOutcomes old
      keeps = k.outcomes (has_still has)

      below : hive_of op < old.bounds.hives
      below =
          let f = none_first (fault old) _ a.free in
          let g = none_first (call_refusal old session (hive_of op)) _ f.1 in
          let h = none_first (closed_refusal old session) (unnamed_refusal old (hive_of op)) g.0 in
          named_hive old (hive_of op) (ap (λ o. first_of o (unnamed_refusal old (hive_of op))) f.0 ∙ h.1)

      on_hive : HivesAreNamable old.bounds.hives (op ∷ [])
      on_hive = All-cons (λ op. hive_of op < old.bounds.hives) op [] below (All-nil (λ op. hive_of op < old.bounds.hives))

      same_now : outcome_tree old.bounds (after_elements old.opened (old.accepted ++ change moment op ∷ [])) ≡ outcome_tree old.bounds (trees_now old)
      same_now = ap (outcome_tree old.bounds) (after_one_more old.opened old.accepted (change moment op))
          ∙ same_place (applied (trees_now old) (op ∷ []) moment) (trees_now old) old.bounds.hives fresh_tree (tree_stays (trees_now old) (op ∷ []) moment old.bounds.hives on_hive)

      long : length (old.accepted ++ change moment op ∷ []) ≡ length old.accepted + length (change moment op ∷ [])
      long = length-append old.accepted (change moment op ∷ [])

      now : HasCommits (kept (keeps.before ++ old.commits)) (outcome_tree old.bounds (after_elements old.opened (old.accepted ++ change moment op ∷ [])))
      now = subst (HasCommits (kept (keeps.before ++ old.commits))) (sym same_now) keeps.now

  -- a commit is the last of those that are kept
  grows : (slot moment : ℕ) (one : Transaction) → IsActiveAt old.tx_slots slot one → has_outcomes old ≡ true → KeepsOutcomes (with_commit old moment one)
  grows slot moment one a has = record {
    before = keeps.before;
    opened = keeps.opened;
    up_to = keeps.up_to;
    now = now;
    numbers = kept_up_to last (keeps.before ++ all) (on_up_to last keeps.before all (up_to_more old.before last keeps.before (omega (arith, long)) keeps.up_to) since);
    since = since;
    each = each_more keeps element all (λ number le. to_less number old.commits (next_commit old one) (omega (arith, le))) (subst (λ n. AreUpTo n all) (let same : last ≡ last_number old + 1 = omega (arith, long) in same) since) now;
  }
    where
      ready : IsReady old
      ready = is_ready old k has

      keeps : KeepsOutcomes old
      keeps = ready.keeps

      element : Element
      element = commit_change old moment one

      all : List Commit
      all = old.commits ++ next_commit old one ∷ []

      last : ℕ
      last = old.before + length (old.accepted ++ element ∷ [])

      tree : TreeMap
      tree = outcome_tree old.bounds (trees_now old)

      ops : List Op
      ops = outcome_ops old.bounds.hives tree (next_commit old one)

      -- after the transaction's operations
      mid : List TreeMap
      mid = applied (trees_now old) one.ops moment

      after : trees_now (with_commit old moment one) ≡ applied mid ops moment
      after = after_one_more old.opened old.accepted element ∙ applied_on (trees_now old) one.ops (commit_ops old one) moment
          ∙ ap (λ t. applied mid (cond t ops []) moment) has

      wide_now : old.bounds.hives < length (trees_now (with_commit old moment one))
      wide_now = omega (arith, hives_fewer old has, all_long old.opened (old.accepted ++ element ∷ []))

      there : slice_get (applied mid ops moment) old.bounds.hives ≡ Some (outcome_tree old.bounds (trees_now (with_commit old moment one)))
      there = ap (λ ts. slice_get ts old.bounds.hives) (sym after) ∙ tree_there old.bounds (trees_now (with_commit old moment one)) wide_now

      made : HasCommits (kept (kept (keeps.before ++ old.commits) ++ next_commit old one ∷ [])) (outcome_tree old.bounds (trees_now (with_commit old moment one)))
      made =
          (laws.has mid old.bounds.hives tree (outcome_tree old.bounds (trees_now (with_commit old moment one))) (kept (keeps.before ++ old.commits)) (next_commit old one) moment
          (tree_stays (trees_now old) one.ops moment old.bounds.hives (k.named slot one a) ∙ ready.tree) keeps.now (laws.at_commit.named one.id) ready.before (omega arith) ready.fits there).0

      kept_more : kept (kept (keeps.before ++ old.commits) ++ next_commit old one ∷ []) ≡ kept (keeps.before ++ all)
      kept_more = laws.in_turn (keeps.before ++ old.commits) (next_commit old one) ∙ ap kept (append_assoc keeps.before old.commits (next_commit old one ∷ []))

      now : HasCommits (kept (keeps.before ++ all)) (outcome_tree old.bounds (trees_now (with_commit old moment one)))
      now = subst (λ cs. HasCommits cs (outcome_tree old.bounds (trees_now (with_commit old moment one)))) kept_more made

      long : length (old.accepted ++ element ∷ []) ≡ length old.accepted + length (element ∷ [])
      long = length-append old.accepted (element ∷ [])

      since : AreUpTo last all
      since = on_up_to last old.commits (next_commit old one ∷ []) (up_to_more (last_number old) last old.commits (omega (arith, long)) keeps.since) (omega (arith, long), tt)

  commits : (session : ℕ) (tx : Tx) (moment number : ℕ) → CommitsTx old session tx moment number new → Keeps new
  commits session tx moment number c has = by_case (length c.one.ops == 0) c.next
    where
      active : IsActiveAt old.tx_slots tx.slot c.one
      active =
          let f = none_first (fault old) (commit_refusal_if old moment (Some c.one)) c.free in
          record { there = (found_at old session tx c.one c.found).0; active = active_of c.one (none_first (inactive_refusal (Some c.one)) (commit_refusal old moment c.one) f.1).0 }

      by_case : (t : Bool) → new ≡ record (cond t old (with_commit old moment c.one)) { tx_slots = new.tx_slots } → KeepsOutcomes new
      by_case true e = stays (ap (λ (m : Machine). m.opened) e) (ap (λ (m : Machine). m.before) e) (ap (λ (m : Machine). m.accepted) e, ap (λ (m : Machine). m.commits) e) has
      by_case false e =
          let grown = grows tx.slot moment c.one active (has_still has) in
          subst KeepsOutcomes (sym e) (record { before = grown.before; opened = grown.opened; up_to = grown.up_to; now = grown.now; numbers = grown.numbers; since = grown.since; each = grown.each })

  -- the trees of now are those of the opening
  folds : (number : ℕ) → Folds old number new → Keeps new
  folds number f has = subst KeepsOutcomes (sym f.next) (record {
    before = kept (keeps.before ++ old.commits);
    opened = keeps.now;
    up_to = keeps.numbers;
    now = subst (λ cs. HasCommits cs (outcome_tree old.bounds (trees_now old))) (sym all) keeps.now;
    numbers = subst (AreUpTo (last_number old + 0)) (sym all) (up_to_more (last_number old) (last_number old + 0) (kept (keeps.before ++ old.commits)) (omega arith) keeps.numbers);
    since = tt;
    each = λ at low high. subst (λ cs. HasCommits cs (outcome_tree old.bounds (after_elements (trees_now old) (take (at - last_number old) [])))) (sym all)
        (subst (λ es. HasCommits (kept (keeps.before ++ old.commits)) (outcome_tree old.bounds (after_elements (trees_now old) es))) (sym (take_none (at - last_number old))) keeps.now);
  })
    where
      keeps : KeepsOutcomes old
      keeps = k.outcomes (has_still has)

      all : kept (kept (keeps.before ++ old.commits) ++ []) ≡ kept (keeps.before ++ old.commits)
      all = kept_alone (kept (keeps.before ++ old.commits)) keeps.now.are

  kept_by : (e : Event) (r : Reply) → Step old e r new → Keeps new
  kept_by (event.Write session moment op) r s = accepted_or (λ r. Keeps new) _ _ _ r s (λ l n d. writes session moment op l n d) (λ d. nothing d.next) (λ why f. nothing f.1)
  kept_by (event.CommitAccept session tx moment) r s = awaits_or (λ r. Keeps new) _ _ r s (λ n d. commits session tx moment n d) (λ why f. nothing f.1)
  kept_by event.Fold r s = folded_or (λ r. Keeps new) _ _ _ r s (λ n d. folds n d) (λ d. nothing d.2) (λ why f. nothing f.1)
  kept_by e r s = let opening = openings_stay old new e r refl s in stays opening.0 opening.1 (others_accept_nothing old new e r refl refl s)

pub outcomes_after : KeptLaws → (old new : Machine) (e : Event) (r : Reply) → InvariantHolds old → Step old e r new → has_outcomes new ≡ true → KeepsOutcomes new
outcomes_after laws old new e r k s =
    let stay = bounds_stay old new e r s in
    kept_by laws old new k stay.0 stay.1 e r s

-- the trees of a new store may be opened: none of them has a commit
pub fresh_fits : HasCommits [] fresh_tree → (bounds : StoreBounds) → OutcomesFit bounds (replicate (bounds.hives + 1) fresh_tree) 0
fresh_fits none bounds wide = ([], subst (HasCommits []) (sym (get_or-replicate (bounds.hives + 1) bounds.hives fresh_tree fresh_tree (omega arith))) none, tt)

-- The commits of the opening's tree

abbrev pub OnlyCommits : Type 0
OnlyCommits = (tree : TreeMap) (one two : List Commit) → HasCommits one tree → HasCommits two tree → AreUpTo (2 ^ 64 - 1) one → AreUpTo (2 ^ 64 - 1) two → one ≡ two

abbrev pub LookedUp : Type 0
LookedUp = (tree : TreeMap) (commits : List Commit) (id : List ℕ) (number : ℕ) → HasCommits commits tree → AreUpTo (2 ^ 64 - 1) commits → (number_in tree id ≡ Some number) ↔ Contains commits (number, unit_name id)

module _ (only : OnlyCommits) (machine : Machine) (before : List Commit) (k : InvariantHolds machine) (has : has_outcomes machine ≡ true)
    (opened : HasCommits before (outcome_tree machine.bounds machine.opened)) (up : AreUpTo machine.before before) where
  keeps : KeepsOutcomes machine
  keeps = k.outcomes has

  few : last_number machine ≤ 2 ^ 64 - 1
  few = omega (arith, k.within.numbers)

  same_before : keeps.before ≡ before
  same_before = only (outcome_tree machine.bounds machine.opened) keeps.before before keeps.opened opened
      (up_to_more machine.before (2 ^ 64 - 1) keeps.before (omega (arith, few)) keeps.up_to) (up_to_more machine.before (2 ^ 64 - 1) before (omega (arith, few)) up)

  pub kept_now : HasCommits (kept (before ++ machine.commits)) (outcome_tree machine.bounds (trees_now machine))
  kept_now = subst (λ cs. HasCommits (kept (cs ++ machine.commits)) (outcome_tree machine.bounds (trees_now machine))) same_before keeps.now

  pub kept_each : (number : ℕ) → machine.before ≤ number → number ≤ last_number machine → HasCommits (kept (before ++ commits_to number machine.commits)) (outcome_tree machine.bounds (trees_at machine number))
  kept_each number low high = subst (λ cs. HasCommits (kept (cs ++ commits_to number machine.commits)) (outcome_tree machine.bounds (trees_at machine number))) same_before (keeps.each number low high)

  pub kept_told : LookedUp → (id : List ℕ) (number : ℕ) → (outcome_of machine id ≡ Some number) ↔ Contains (kept (before ++ machine.commits)) (number, unit_name id)
  kept_told look id number = look (outcome_tree machine.bounds (trees_now machine)) (kept (before ++ machine.commits)) id number kept_now
      (subst (λ cs. AreUpTo (2 ^ 64 - 1) (kept (cs ++ machine.commits))) same_before (up_to_more (last_number machine) (2 ^ 64 - 1) (kept (keeps.before ++ machine.commits)) few keeps.numbers))

-- the trees after each change since the opening may be opened
pub each_fits : (machine : Machine) (number : ℕ) → InvariantHolds machine → machine.before ≤ number → number ≤ last_number machine → OutcomesFit machine.bounds (trees_at machine number) number
each_fits machine number k low high wide =
    let has : has_outcomes machine ≡ true = ap (nat_lt machine.bounds.hives) (sym (all_long machine.opened (take (number - machine.before) machine.accepted))) ∙ wide in
    let keeps = k.outcomes has in
    let commits = keeps.before ++ commits_to number machine.commits in (
      kept commits,
      keeps.each number low high,
      kept_up_to number commits (on_up_to number keeps.before (commits_to number machine.commits) (up_to_more machine.before number keeps.before low keeps.up_to) (to_up_to number machine.commits)),
    )
