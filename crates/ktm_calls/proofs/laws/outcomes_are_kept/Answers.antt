use Rattle.std.proofs.Common.{◌≡◌, ◌∙◌, ◌+◌, ◌-◌, ◌<◌, ◌≤◌, ◌++◌, ℕ, true, List, length, length-append, take, ap, arith, subst, sym}
use Rattle.std.specs.Prelude.{nat_lt}
use Rattle.std.proofs.lemmas.Bool.Decides.{nat_tests}
use Rattle.std.proofs.Math.Seq.{take-append_seam}
use Rattle.reg_tree.specs.Maps.{TreeMap}
use Rattle.reg_tree.specs.Sequences.{after_elements}
use Rattle.reg_tree.specs.declared.element.Element.{Element}
use Rattle.commit_outcomes.specs.Commits.{Commit, kept}
use Rattle.commit_outcomes.specs.Trees.{HasCommits}
use Rattle.store_model.specs.Invariant.{InvariantHolds, KeepsOutcomes}
use Rattle.store_model.specs.Machine.{Machine, bounds_for, commits_to, has_outcomes, outcome_tree, trees_at}
use Rattle.histories.specs.Histories.{end_of}
use Rattle.histories.proofs.Chains.{run_of}
use Rattle.ktm_calls.proofs.laws.outcomes_are_kept.Goals as goal

fewer : (hives trees : ℕ) → hives < trees → nat_lt hives trees ≡ true
fewer hives trees less = grind (arith, nat_tests)

first_of : (seen accepted rest : List Element) → seen ++ rest ≡ accepted → take (length seen) accepted ≡ seen
first_of seen accepted rest e = rw (sym e) (take-append_seam seen rest)

pub returns : goal.returns
returns c = λ start history trees number hives seen holds run owner begins more.
    let last : Machine = (end_of start history).machine in
    let kept_then : InvariantHolds last = c.steps_keep_invariant.ensures.run start.machine last _ _ holds (run_of start history run) in
    let there : has_outcomes last ≡ true = rw (owner.hives, owner.opened) (fewer hives (length trees) more) in
    let k : KeepsOutcomes last = kept_then.outcomes there in
    let at : ℕ = last.before + length seen in
    let whole : length seen + length begins.0 ≡ length last.accepted = sym (length-append seen begins.0) ∙ ap (λ (l : List Element). length l) begins.1 in
    let away : at - last.before ≡ length seen = omega arith in
    let path : trees_at last at ≡ after_elements trees seen =
    ap (λ (n : ℕ). after_elements last.opened (take n last.accepted)) away
    ∙ (ap (λ (l : List Element). after_elements last.opened l) (first_of seen last.accepted begins.0 begins.1) ∙ ap (λ (t : List TreeMap). after_elements t seen) owner.opened) in
    let commits : List Commit = kept (k.before ++ commits_to at last.commits) in
    let then : HasCommits commits (outcome_tree last.bounds (trees_at last at)) = k.each at (omega arith) (omega (arith, whole)) in
    let here : HasCommits commits (outcome_tree last.bounds (after_elements trees seen)) = subst (λ (t : List TreeMap). HasCommits commits (outcome_tree last.bounds t)) path then in
    (commits, subst (λ (n : ℕ). HasCommits commits (outcome_tree (bounds_for n) (after_elements trees seen))) owner.hives here)
