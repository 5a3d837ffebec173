-- What is so of each list of commits in memory.
use Rattle.std.specs.Prelude.{◌≡◌, ℕ, ◌+◌, ◌≤◌, true, map, vec_capacity}
use Rattle.std.specs.FinMap as finite
use Rattle.std.specs.VecDeque.{deque_capacity}
use Rattle.std.specs.declared.collections.VecDeque.{VecDeque}
use Rattle.std.specs.declared.vec.Vec.{Vec}
use Rattle.std.specs.declared.alloc.Global.{Global}
use Rattle.commit_outcomes.specs.Commits.{AreKept}
use Rattle.commit_outcomes.specs.CommitLists.{named_commits, tell_commits}
use Rattle.commit_outcomes.specs.Trees.{commit_of}
use Rattle.reg_tree_parts.specs.Rows.{ValueMap}
use Rattle.commit_outcomes.specs.declared.kept_commit.KeptCommit.{KeptCommit}
use Rattle.commit_outcomes.specs.declared.commit_list.TheConstants.{MOST_COMMITS}

-- its commits may be kept, and there is room for one more
pub record ListFits (commits : VecDeque KeptCommit Global) : Type 0 where
  pub are : AreKept (named_commits commits.items)
  pub room : MOST_COMMITS + 1 ≤ deque_capacity commits

-- commits are those that values tell of, with room for one more
pub record TellsCommits (most : ℕ) (values : ValueMap) (commits : Vec KeptCommit Global) : Type 0 where
  pub tell : tell_commits most values ≡ true
  pub are : named_commits commits.items ≡ map commit_of (finite.values values)
  pub room : MOST_COMMITS + 1 ≤ vec_capacity commits
