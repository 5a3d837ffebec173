use Rattle.reg_tree.proofs.TreesStay.{changed_stays}
use Rattle.reg_tree.proofs.OthersStay.{trees_stay_all}
use Rattle.reg_tree.proofs.laws.trees_stay.Goals as goal

pub returns-clause-one : goal.returns-clause-one
returns-clause-one c = changed_stays

pub returns-clause-all : goal.returns-clause-all
returns-clause-all c = trees_stay_all
