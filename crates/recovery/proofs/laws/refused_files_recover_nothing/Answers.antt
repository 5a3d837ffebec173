use Rattle.recovery.proofs.Refused.{wrong_alike, wrong_files}
use Rattle.recovery.proofs.laws.refused_files_recover_nothing.Goals as goal

pub returns-clause-none : goal.returns-clause-none
returns-clause-none c = wrong_files c.one_store.ensures c.at_most_one_tree.ensures

pub returns-clause-hive : goal.returns-clause-hive
returns-clause-hive c = λ files others hive cause alike. wrong_alike files others hive alike cause
