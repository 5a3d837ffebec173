-- What an opening finds, and hands to an engine.
use Rattle.std.specs.Prelude.{◌≡◌, ℕ, List, length, slice_get, Option, Some, None}
use Rattle.std.specs.List.{AllByRecursion}
use Rattle.refusals.specs.declared.limits.TheConstants.{GREATEST_NUMBER}
use Rattle.reg_tree.specs.Maps.{TreeMap}
use Rattle.reg_tree.specs.Fresh.{fresh_tree}
use Rattle.reg_tree.specs.Sequences.{AreTrees}
use Rattle.reg_tree.specs.declared.element.Element.{Element}
use Rattle.crash_model.specs.Promises.{Choice, Content, settled, floor}
use Rattle.crash_model.specs.Recovery.{Recovers}
use Rattle.crash_model.specs.Life.{NamesHive}
use Rattle.change_codec.specs.ModelChanges.{TimedOp, timed_elements}
use Rattle.engine_invariant.specs.Rules.{rules}
use Rattle.engine_invariant.specs.States.{HiveView, tree_of}

abbrev pub held_if : Option HiveView → TreeMap × ℕ
held_if None = (fresh_tree, 0)
held_if (Some hive) = hive.files.now

-- the tree and number in each hive's files
abbrev pub held_by : List HiveView → ℕ → TreeMap × ℕ
held_by hives i = held_if (slice_get hives i)

-- The trees, the number and the journal's changes are what the journal and the hives, which are settled, recover in a
-- store whose calls name `named` hives.
pub record OpeningRecovers (named : ℕ) (trees : List TreeMap) (number base : ℕ) (opened : List Element) (journal : Choice (Content TimedOp)) (hives : List HiveView) : Type 0 where
  pub below : ℕ
  pub journal_is : journal ≡ settled (record { below = below; elements = timed_elements opened })
  pub base_is : base ≡ floor number (record { below = below; elements = timed_elements opened })
  pub each : (i : ℕ) (hive : HiveView) → slice_get hives i ≡ Some hive → hive.files ≡ settled hive.memory
  pub all : length hives ≡ length trees
  pub recovers : Recovers (rules named) GREATEST_NUMBER (length trees) (record { below = below; elements = timed_elements opened }) (held_by hives) number (tree_of trees)
  pub changes : AllByRecursion (NamesHive (length trees)) (timed_elements opened)
  pub are_trees : AreTrees trees
