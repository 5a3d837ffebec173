use Rattle.std.proofs.Common.{◌≡◌, ◌-◌, ◌<◌, Some, length, slice_get, sym, ◌∙◌, ap, subst, arith}
use Rattle.std.proofs.lemmas.Option.{slice_get_read}
use Rattle.commit_outcomes.specs.Commits.{AreUpTo}
use Rattle.commit_outcomes.specs.CommitLists.{last_number}
use Rattle.commit_outcomes.specs.declared.kept_commit.KeptCommit.{KeptCommit}
use Rattle.commit_outcomes.proofs.Lists.{last_number_is, up_to_last_number}
use Rattle.commit_outcomes.proofs.commit_list.CommitList.last_number.Goals as goal
use Rattle.commit_outcomes.proofs.commit_list.CommitList.last_number.Goals.{In-Some}

found : (c : In-Some) → slice_get c.self.inside.commits.items (length c.self.inside.commits.items - 1) ≡ Some c.in-Some.commit.now
found c =
    let ring = c.self.inside.commits in
    let some = c.in-Some.ensures.item.3.0 in
    let here : ring.len - 1 < ring.len = omega (arith, some, ring.ok.0) in
    ap (λ n. slice_get ring.items (n - 1)) (sym ring.ok.0) ∙ slice_get_read ring.items ring.len (ring.len - 1) c.in-Some.commit.now ring.ok.0 here c.in-Some.ensures.lookup

pub returns-in-Some-clause-last : goal.returns-in-Some-clause-last
returns-in-Some-clause-last c = sym (last_number_is c.self.inside.commits.items c.in-Some.commit.now (found c)) ∙ ap last_number c.self.view_is

pub returns-in-Some-clause-up_to : goal.returns-in-Some-clause-up_to
returns-in-Some-clause-up_to c =
    subst (AreUpTo c.in-Some.commit.now.number) c.self.view_is (up_to_last_number c.self.inside.commits.items c.in-Some.commit.now c.self.invariant.are.rise (found c))
