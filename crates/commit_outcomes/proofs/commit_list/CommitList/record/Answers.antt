use Rattle.std.proofs.Common.{◌≡◌, ◌↔◌, ℕ, ◌+◌, ◌<◌, ◌≤◌, List, [], ◌∷◌, ◌++◌, Some, length, Contains, sym, ◌∙◌, ap, subst}
use Rattle.std.specs.List.{AllByRecursion}
use Rattle.commit_outcomes.specs.Units.{unit_name}
use Rattle.commit_outcomes.specs.Commits.{Commit, AreKept, kept}
use Rattle.commit_outcomes.specs.CommitLists.{named_commits, last_commits}
use Rattle.commit_outcomes.specs.declared.commit_list.TheConstants.{MOST_COMMITS}
use Rattle.commit_outcomes.specs.declared.kept_commit.KeptCommit.{KeptCommit}
use Rattle.commit_outcomes.proofs.UnitNames.{named}
use Rattle.commit_outcomes.proofs.Written.{kept_stand}
use Rattle.commit_outcomes.proofs.Places.{named_rise, recorded, others_most}
use Rattle.commit_outcomes.proofs.commit_list.CommitList.record.Goals as goal
use Rattle.commit_outcomes.proofs.commit_list.CommitList.record.Goals.{After-push_last}

pub remove_earlier-requires : goal.remove_earlier-requires
remove_earlier-requires c = named_rise c.self.inside.commits.items c.self.invariant.are.rise

pub push_last-requires-clause-few : goal.push_last-requires-clause-few
push_last-requires-clause-few c =
    let few : length c.remove_earlier.new.commits.items ≤ MOST_COMMITS =
    subst (λ (xs : List KeptCommit). length xs ≤ MOST_COMMITS) (sym c.remove_earlier.ensures.items) (others_most c.self.inside.commits.items c.args.earlier c.self.invariant.are) in
    subst (λ n. n ≤ MOST_COMMITS) (sym c.remove_earlier.new.commits.ok.0) few

recorded_is : (c : After-push_last) → named_commits c.push_last.new.commits.items ≡ kept (named_commits c.self.inside.commits.items ++ (c.args.number, unit_name c.args.unit.now) ∷ [])
recorded_is c =
    recorded c.self.inside.commits.items c.push_last.new.commits.items (record { number = c.args.number; unit = c.args.unit.now }) c.args.earlier c.self.invariant.are
    (subst (λ (l : List Commit). (n : ℕ) → (c.args.earlier ≡ Some n) ↔ Contains l (n, unit_name c.args.unit.now)) (sym c.self.view_is) c.requires.earlier)
    (c.push_last.ensures.items ∙ ap (λ (xs : List KeptCommit). last_commits MOST_COMMITS (xs ++ record { number = c.args.number; unit = c.args.unit.now } ∷ [])) c.remove_earlier.ensures.items)

pub invariant_of-self : goal.invariant_of-self
invariant_of-self c = record {
  are = subst AreKept (sym (recorded_is c)) (kept_stand (named_commits c.self.inside.commits.items) (c.args.number, unit_name c.args.unit.now) c.self.invariant.are (named c.args.unit.now)
      (subst (AllByRecursion (λ (d : Commit). d.0 < c.args.number)) (sym c.self.view_is) c.requires.above) c.requires.from_one c.ranges.number.fits).0;
  room = subst (λ n. MOST_COMMITS + 1 ≤ n) (sym (c.push_last.ensures.capacity ∙ c.remove_earlier.ensures.capacity)) c.self.invariant.room;
}

pub returns : goal.returns
returns c = recorded_is c ∙ ap (λ (l : List Commit). kept (l ++ (c.args.number, unit_name c.args.unit.now) ∷ [])) c.self.view_is
