use Rattle.commit_outcomes.proofs.Outcome.{carried, has_kept, there}
use Rattle.commit_outcomes.proofs.laws.commits_are_kept.Goals as goal

pub returns-clause-carried : goal.returns-clause-carried
returns-clause-carried c = λ trees hive tree commits commit moment is has unit below fits. carried hive tree commits commit has unit below fits trees moment is

pub returns-clause-has : goal.returns-clause-has
returns-clause-has c = λ trees hive tree after commits commit moment is has unit below above fits got. has_kept hive tree commits commit has unit below fits trees moment is after above got

pub returns-clause-there : goal.returns-clause-there
returns-clause-there c = λ hive tree commits commit has unit below fits. there hive tree commits commit has unit below fits
