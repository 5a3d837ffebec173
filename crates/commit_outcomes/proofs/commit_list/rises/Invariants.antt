use Rattle.std.proofs.Common.{ℕ, ◌+◌, ◌<◌, suc}
use Rattle.commit_outcomes.specs.declared.kept_commit.KeptCommit.{KeptCommit}
use Rattle.commit_outcomes.proofs.Places.{number_at}
use Rattle.commit_outcomes.proofs.commit_list.rises.Given as goal

-- the numbers before this place rise
abbrev pub invariant-loop-index : goal.invariant-loop-index
invariant-loop-index l = (k : ℕ) (d : KeptCommit) → k + 1 < l.index → number_at l.commits k d < number_at l.commits (suc k) d
