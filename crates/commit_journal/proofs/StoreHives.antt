-- How many hives a store has.
use Rattle.std.proofs.Common.{ℕ, ◌+◌, ◌≤◌, arith}
use Rattle.commit_journal.specs.Store.{hives_in}
use Rattle.commit_journal.specs.declared.store_layout.Layout.{Layout}
use Rattle.commit_journal.specs.declared.store_layout.Layout.TheVariants.{HivesAlone, WithOutcomes}

-- at most one more than calls name
pub most_hives : (layout : Layout) (hives : ℕ) → hives_in layout hives ≤ hives + 1
most_hives HivesAlone hives = omega arith
most_hives WithOutcomes hives = omega arith

-- and no fewer
pub least_hives : (layout : Layout) (hives : ℕ) → hives ≤ hives_in layout hives
least_hives HivesAlone hives = omega arith
least_hives WithOutcomes hives = omega arith
