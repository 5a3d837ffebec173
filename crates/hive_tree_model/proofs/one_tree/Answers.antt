use Rattle.hive_tree_model.proofs.Only.{one_tree}
use Rattle.hive_tree_model.proofs.ChainsAre.{chains, key_tree}
use Rattle.hive_tree_model.proofs.one_tree.Goals as goal

pub returns-clause-one : goal.returns-clause-one
returns-clause-one g c = λ reads root t u a b. one_tree reads root t u a b

pub returns-clause-chains : goal.returns-clause-chains
returns-clause-chains g c = λ reads root tree s path row. chains reads root tree s path row

pub returns-clause-is : goal.returns-clause-is
returns-clause-is g c = λ reads name_of by root tree s. key_tree reads name_of by root tree s
