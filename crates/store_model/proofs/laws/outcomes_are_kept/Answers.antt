use Rattle.store_model.proofs.Outcomes.{each_fits, fresh_fits, kept_each, kept_now, kept_told}
use Rattle.store_model.proofs.laws.outcomes_are_kept.Goals as goal

pub returns-clause-now : goal.returns-clause-now
returns-clause-now c = kept_now c.trees_have_commits.ensures.only

pub returns-clause-told : goal.returns-clause-told
returns-clause-told c = λ machine before id number k has opened up. kept_told c.trees_have_commits.ensures.only machine before k has opened up c.trees_have_commits.ensures.looked_up id number

pub returns-clause-each : goal.returns-clause-each
returns-clause-each c = λ machine before number k has opened up. kept_each c.trees_have_commits.ensures.only machine before k has opened up number

pub returns-clause-fit : goal.returns-clause-fit
returns-clause-fit c = each_fits

pub returns-clause-fresh : goal.returns-clause-fresh
returns-clause-fresh c = fresh_fits c.trees_have_commits.ensures.fresh
