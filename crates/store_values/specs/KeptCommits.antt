-- What is told of the commit of a unit of work.
use Rattle.std.specs.Prelude.{◌⊎◌, ℕ, List, Option, Some, None, Result, Ok, Err}
use Rattle.refusals.specs.declared.refusal.Refusal.{Refusal}
use Rattle.refusals.specs.declared.refusal.Refusal.TheVariants.{NotFound}
use Rattle.reg_tree.specs.Maps.{TreeMap}
use Rattle.commit_outcomes.specs.Trees.{number_in}
use Rattle.hive_files.specs.Frames.{RefusalHasCause}
use Rattle.commit_journal.specs.Store.{Store}
use Rattle.store_hive.specs.RecoveredHives.{RecoversHive}
use Rattle.store_hive.specs.RefusedHives.{RecoversNoOutcomes}
use Rattle.store_values.specs.declared.change_result.ChangeResult.{ChangeResult}
use Rattle.store_values.specs.Outcomes.{PrintsOutcome}

-- a number that may not be there
abbrev pub number_or : Option ℕ → Result ℕ Refusal
number_or None = Err NotFound
number_or (Some number) = Ok number

-- the number of the last commit of a unit of work that a tree of outcomes has
abbrev pub commit_answer : TreeMap → List ℕ → Result ℕ Refusal
commit_answer tree id = number_or (number_in tree id)

-- The files recover the tree of a store's outcomes, which is that of the hive after those that calls name, if the disk is
-- faithful, and its answer is printed; or they recover none, and a refusal that says why is.
abbrev pub ReportsCommit : Type 0 → Type 0 → (ℕ → List ℕ) → List ℕ → Option (List ℕ) → Option (List ℕ) → ChangeResult → Type 0
ReportsCommit failed faithful files id before after told =
    ((store : Store) × (tree : TreeMap) × (faithful → RecoversHive files store store.hives tree) × PrintsOutcome before after (commit_answer tree id) None told)
    ⊎ ((why : Refusal) × RefusalHasCause failed (RecoversNoOutcomes faithful files) why × PrintsOutcome before after (Err why) None told)
