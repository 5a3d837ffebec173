use Rattle.std.proofs.Common.{sym, subst}
use Rattle.commit_outcomes.specs.Commits.{AreKept}
use Rattle.commit_outcomes.specs.CommitLists.{named_commits}
use Rattle.commit_outcomes.proofs.Lists.{none_kept}
use Rattle.commit_outcomes.proofs.commit_list.CommitList.new.Goals as goal

pub invariant_of-result : goal.invariant_of-result
invariant_of-result c = record {
  are = subst (λ xs. AreKept (named_commits xs)) (sym c.in_ok-commits.ensures.items) none_kept;
  room = c.in_ok-commits.ensures.capacity;
}
