use Rattle.store_model.specs.Machine.{committed, trees_now}
use Rattle.store_model.proofs.AtCommit.{OutcomeLaws, carried_commit, commit_short, commit_within, legal_but_for_weight, legal_in_order}
use Rattle.store_model.proofs.laws.commits_stay_legal.Goals as goal

laws : goal.After-commits_are_kept → OutcomeLaws
laws c = record {
  named = c.units_have_names.ensures.named;
  carried = c.commits_are_kept.ensures.carried;
  there = c.commits_are_kept.ensures.there;
}

pub returns-clause-but_for_weight : goal.returns-clause-but_for_weight
returns-clause-but_for_weight c = λ machine slot one k a moment.
    legal_but_for_weight c.but_for_weight.ensures (trees_now machine) (committed machine one) moment (carried_commit (laws c) machine one k slot a moment)

pub returns-clause-within : goal.returns-clause-within
returns-clause-within c = commit_within c.weight_alone_refuses.ensures (laws c)

pub returns-clause-in_order : goal.returns-clause-in_order
returns-clause-in_order c = λ machine slot one moment k a light.
    legal_in_order (trees_now machine) (committed machine one) moment (commit_within c.weight_alone_refuses.ensures (laws c) machine slot one moment k a light)

pub returns-clause-short : goal.returns-clause-short
returns-clause-short c = λ machine one moment k. commit_short (laws c) machine one k moment
