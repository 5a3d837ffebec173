use Rattle.hive_check.proofs.Whole.{none_found, whole_found}
use Rattle.hive_check.proofs.laws.whole_or_not.Goals as goal

pub returns-clause-whole : goal.returns-clause-whole
returns-clause-whole c = λ file report is clean. whole_found file report.finding is.1 clean

pub returns-clause-not : goal.returns-clause-not
returns-clause-not c = λ file report is refused memory tree holds.
    none_found c.one_or_none.ensures.none c.faults_exclude_trees.ensures.limits c.one_tree.ensures.one file report.finding is.1 refused memory tree holds
