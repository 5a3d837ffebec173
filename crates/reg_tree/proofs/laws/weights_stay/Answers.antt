use Rattle.reg_tree.proofs.OthersStay.{weight_stays_one, weights_stay_all}
use Rattle.reg_tree.proofs.laws.weights_stay.Goals as goal

pub returns-clause-one : goal.returns-clause-one
returns-clause-one c = weight_stays_one

pub returns-clause-all : goal.returns-clause-all
returns-clause-all c = weights_stay_all
