use Rattle.std.proofs.Common.{◌≡◌, ◌+◌, ◌≤◌, true, map, take, vec_capacity}
use Rattle.std.specs.List.{list_all}
use Rattle.std.specs.FinMap as finite
use Rattle.commit_outcomes.specs.Trees.{commit_of, is_commit_value}
use Rattle.commit_outcomes.specs.CommitLists.{named_commits}
use Rattle.commit_outcomes.specs.declared.commit_list.TheConstants.{MOST_COMMITS}
use Rattle.commit_outcomes.proofs.commit_list.commits_in.Given as goal

-- the values before this place are those of commits, which are listed
abbrev pub invariant-loop-index : goal.invariant-loop-index
invariant-loop-index l = record {
  are : named_commits l.commits.items ≡ map commit_of (take l.index (finite.values l.values));
  each : list_all (is_commit_value l.most) (take l.index (finite.values l.values)) ≡ true;
  room : MOST_COMMITS + 1 ≤ vec_capacity l.commits;
}
