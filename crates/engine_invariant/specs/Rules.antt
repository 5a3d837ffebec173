-- Which trees a store may have.
use Rattle.std.specs.Prelude.{ℕ, nat_lt, ◌||◌}
use Rattle.reg_tree.specs.Maps.{TreeMap}
use Rattle.crash_model.specs.Changes as law
use Rattle.change_codec.specs.ModelChanges.{TimedOp, tree_rules}
use Rattle.commit_outcomes.specs.Trees.{are_outcomes}

-- The trees and operations of a store whose calls name this many hives, as the crash model takes them. A hive that calls
-- name may have any tree. Any other has outcomes of commits up to the number of the change.
unfoldable pub rules : ℕ → law.Rules TreeMap TimedOp
rules named = record tree_rules { allows = λ i n t. nat_lt i named || are_outcomes n t }
