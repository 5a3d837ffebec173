-- When an export can be restored.
use Rattle.std.specs.Prelude.{◌≡◌, ℕ, ◌+◌, ◌≤◌, List, length, Some, IsSome, slice_get}
use Rattle.std.specs.List.{AllByRecursion}
use Rattle.refusals.specs.declared.limits.TheConstants.{MOST_ELEMENT_BYTES, MOST_NEW_LEVELS}
use Rattle.reg_tree.specs.Maps.{TreeMap, row}
use Rattle.reg_tree.specs.Fresh.{fresh_tree}
use Rattle.reg_tree.specs.Sequences.{AreTrees}
use Rattle.store_model.specs.Machine.{Machine, named_trees, outcome_bytes}
use Rattle.reg_prefixes.specs.declared.prefix.Prefix.{Prefix}
use Rattle.reg_prefixes.specs.Places.{shown_in}
use Rattle.change_plan.specs.Plans.{ops_len}
use Rattle.reg_round_trip.specs.Operations.{new_trees, trees_ops}
use Rattle.reg_round_trip.specs.Parts.{part_ops}
use Rattle.reg_round_trip.specs.NewTrees.{IsCallTree}
use Rattle.reg_round_trip.specs.Shown.{PrefixesAreApart, IsShowable, HavePrefixes}

-- prefixes that a line can show, of which none begins another
pub record ArePrefixes (prefixes : List Prefix) : Type 0 where
  pub showable : AllByRecursion IsShowable prefixes
  pub apart : PrefixesAreApart prefixes

-- All hives of an export can be restored in a store: each hive has a prefix, calls may make the trees, the operations fit
-- one change beside what its commit adds, and the store has as many hives, all of which are new.
pub record CanRestore (prefixes : List Prefix) (trees : List TreeMap) (old : Machine) : Type 0 where
  pub prefixes_are : ArePrefixes prefixes
  pub have : HavePrefixes prefixes (length trees)
  pub calls : AllByRecursion IsCallTree trees
  pub short : ops_len (trees_ops 0 trees) + outcome_bytes old ≤ MOST_ELEMENT_BYTES
  pub is_new : named_trees old ≡ new_trees trees

-- A key of a hive and all below it can be restored in a store: the hive has a prefix, calls may make its tree, the key is
-- there and has at most 32 names on its path, the operations fit one change beside what its commit adds, and the hive of
-- this number is new.
pub record CanRestorePart (prefixes : List Prefix) (hive : ℕ) (tree : TreeMap) (top : List (List ℕ)) (old : Machine) : Type 0 where
  pub prefixes_are : ArePrefixes prefixes
  pub has : IsSome (shown_in prefixes hive)
  pub call : IsCallTree tree
  pub there : IsSome (row tree top)
  pub near : length top ≤ MOST_NEW_LEVELS
  pub short : ops_len (part_ops hive tree top) + outcome_bytes old ≤ MOST_ELEMENT_BYTES
  pub are_trees : AreTrees (named_trees old)
  pub is_new : slice_get (named_trees old) hive ≡ Some fresh_tree
