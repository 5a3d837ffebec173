-- What is told of the outcome of a unit of work.
use Rattle.std.specs.Prelude.{◌≡◌, ◌⊎◌, ℕ, ◌<◌, ◌≤◌, List, length, Some, None}
use Rattle.refusals.specs.declared.refusal.Refusal.{Refusal}
use Rattle.refusals.specs.declared.refusal.Refusal.TheVariants.{NotFound, Unsupported}
use Rattle.reg_tree.specs.Maps.{TreeMap}
use Rattle.commit_outcomes.specs.Commits.{Commit}
use Rattle.commit_outcomes.specs.Trees.{HasCommits, number_in}
use Rattle.store_model.specs.Machine.{bounds_for, outcome_tree}

-- In a store whose calls may name `hives` hives the tree after theirs is one of outcomes.
abbrev pub KeepsOutcomes : ℕ → List TreeMap → Type 0
KeepsOutcomes hives trees = (commits : List Commit) × HasCommits commits (outcome_tree (bounds_for hives) trees)

-- The tree of outcomes, which is there, has a commit of the unit with this number.
abbrev pub HasOutcome : ℕ → List TreeMap → List ℕ → ℕ → Type 0
HasOutcome hives trees unit number = (hives < length trees) × (KeepsOutcomes hives trees → number_in (outcome_tree (bounds_for hives) trees) unit ≡ Some number)

-- There is no tree of outcomes; or it is there, and has no commit of the unit.
abbrev pub HasNoOutcome : ℕ → List TreeMap → List ℕ → Refusal → Type 0
HasNoOutcome hives trees unit why = ((why ≡ Unsupported) × (length trees ≤ hives))
    ⊎ ((why ≡ NotFound) × ((hives < length trees) × (KeepsOutcomes hives trees → number_in (outcome_tree (bounds_for hives) trees) unit ≡ None)))
