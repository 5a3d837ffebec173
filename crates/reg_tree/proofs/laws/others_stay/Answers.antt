use Rattle.reg_tree.proofs.OthersStay.{rows_stay, hives_stay}
use Rattle.reg_tree.proofs.laws.others_stay.Goals as goal

pub returns-clause-rows : goal.returns-clause-rows
returns-clause-rows c = rows_stay

pub returns-clause-hives : goal.returns-clause-hives
returns-clause-hives c = hives_stay
