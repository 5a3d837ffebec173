use Rattle.std.proofs.Common.{◌≡◌, ◌⊎◌, inl, inr, ℕ, suc, ◌+◌, ◌-◌, ◌<◌, List, length, sym, ◌∙◌, ap, subst, subst₂, arith}
use Rattle.std.proofs.lemmas.Bool.{cases_lt}
use Rattle.commit_outcomes.specs.declared.kept_commit.KeptCommit.{KeptCommit}
use Rattle.commit_outcomes.proofs.Places.{number_at, any_default, places_rise, rise_places, rise_named, named_rise}
use Rattle.commit_outcomes.proofs.commit_list.rises.Goals as goal

here_is : (commits : List KeptCommit) (k : ℕ) (x d : KeptCommit) → k < length commits → number_at commits k d ≡ number_at commits k x
here_is commits k x d lt = ap (λ (c : KeptCommit). c.number) (any_default commits k d x lt)

pub loop-index-init : goal.loop-index-init
loop-index-init c = λ k d lt. absurd (omega (arith, lt))

pub returns-then-commits-index-clause-not : goal.returns-then-commits-index-clause-not
returns-then-commits-index-clause-not c = λ _ rise.
    let commits = c.args.commits.now in
    let n = c.loop-index.index in
    let one = c.index-commits-index.result in
    let other = c.index-commits-index-in-loop-index.result in
    let within : n < length commits = c.loop-index-test.true in
    let up = places_rise commits (rise_named commits rise) (n - 1) n one (omega arith) within in
    let less : number_at commits (n - 1) one < number_at commits n other = subst (λ x. number_at commits (n - 1) one < x) (here_is commits n other one within) up in
    omega (arith, less, c.if-commits-index.true)

before : (k n : ℕ) → k + 1 < n + 1 → (k + 1 < n) ⊎ (suc k ≡ n)
before k n h = elim (cases_lt (k + 1) n) [ inl l ↦ inl l | inr g ↦ inr (omega (arith, h, g)) ]

pub loop-index-preserved : goal.loop-index-preserved
loop-index-preserved c = λ k d lt. elim (before k c.loop-index.index lt) [
  | inl less ↦ c.loop-index.invariant k d less
  | inr is ↦
      let commits = c.args.commits.now in
      let n = c.loop-index.index in
      let within : n < length commits = c.loop-index-test.true in
      let place : n - 1 ≡ k = omega (arith, is) in
      let first = here_is commits (n - 1) c.index-commits-index.result d (omega arith) in
      let next = here_is commits n c.index-commits-index-in-loop-index.result d within in
      let at : number_at commits k d ≡ number_at commits (n - 1) c.index-commits-index.result = ap (λ j. number_at commits j d) (sym place) ∙ first in
      let after : number_at commits (suc k) d ≡ number_at commits n c.index-commits-index-in-loop-index.result = ap (λ j. number_at commits j d) is ∙ next in
      subst₂ (λ x y. x < y) (sym at) (sym after) c.if-commits-index.false
]

pub returns-clause-rise : goal.returns-clause-rise
returns-clause-rise c = λ _. named_rise c.args.commits.now (rise_places c.args.commits.now (λ k d lt. c.loop-index.invariant k d (omega (arith, lt, c.loop-index-test.false))))
