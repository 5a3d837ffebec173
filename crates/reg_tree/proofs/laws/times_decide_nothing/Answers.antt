use Rattle.reg_tree.proofs.Times.{applied_same, legal_alike, any_outweighs_alike, levels_alike, value_alike, value_names_alike, subkeys_alike}
use Rattle.reg_tree.proofs.laws.times_decide_nothing.Goals as goal

pub returns-clause-kept : goal.returns-clause-kept
returns-clause-kept c = applied_same

pub returns-clause-legal : goal.returns-clause-legal
returns-clause-legal c = legal_alike

pub returns-clause-outweighs : goal.returns-clause-outweighs
returns-clause-outweighs c = any_outweighs_alike

pub returns-clause-levels : goal.returns-clause-levels
returns-clause-levels c = levels_alike

pub returns-clause-values : goal.returns-clause-values
returns-clause-values c = value_alike

pub returns-clause-value_names : goal.returns-clause-value_names
returns-clause-value_names c = value_names_alike

pub returns-clause-subkeys : goal.returns-clause-subkeys
returns-clause-subkeys c = subkeys_alike
