use Rattle.commit_outcomes.proofs.TreeCommits.{fresh, passes, only, looked_up}
use Rattle.commit_outcomes.proofs.ReadTrees.{found}
use Rattle.commit_outcomes.proofs.laws.trees_have_commits.Goals as goal

pub returns-clause-fresh : goal.returns-clause-fresh
returns-clause-fresh c = fresh

pub returns-clause-passes : goal.returns-clause-passes
returns-clause-passes c = passes

pub returns-clause-only : goal.returns-clause-only
returns-clause-only c = only

pub returns-clause-looked_up : goal.returns-clause-looked_up
returns-clause-looked_up c = looked_up

pub returns-clause-found : goal.returns-clause-found
returns-clause-found c = found
