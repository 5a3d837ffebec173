-- The outcomes of commits that an engine keeps.
use Rattle.std.specs.Prelude.{◌≡◌, ◌++◌, true, List}
use Rattle.commit_outcomes.specs.Commits.{Commit, AreUpTo, kept}
use Rattle.commit_outcomes.specs.Trees.{HasCommits}
use Rattle.store_model.specs.Machine.{Machine, has_outcomes, outcome_tree, trees_now}

-- If a store keeps outcomes, its tree of outcomes has the commits that are kept of those that it had at the opening and
-- those of the history. A fold of the history counts as an opening.
abbrev pub OutcomesAreKept : Machine → Type 0
OutcomesAreKept machine = has_outcomes machine ≡ true → (before : List Commit) → HasCommits before (outcome_tree machine.bounds machine.opened) → AreUpTo machine.before before
    → HasCommits (kept (before ++ machine.commits)) (outcome_tree machine.bounds (trees_now machine))
