use Rattle.reg_tree.specs.Judgement.{applied}
use Rattle.reg_tree.proofs.Times.{moments_alike, legal_alike, levels_alike, value_alike, value_names_alike, subkeys_alike}
use Rattle.reg_tree.proofs.laws.moments_set_times_alone.Goals as goal

pub returns-clause-same : goal.returns-clause-same
returns-clause-same c = moments_alike

pub returns-clause-legal : goal.returns-clause-legal
returns-clause-legal c = λ trees ops op m n. legal_alike (applied trees ops m) (applied trees ops n) (moments_alike trees ops m n) op

pub returns-clause-levels : goal.returns-clause-levels
returns-clause-levels c = λ trees ops m n. levels_alike (applied trees ops m) (applied trees ops n) (moments_alike trees ops m n)

pub returns-clause-values : goal.returns-clause-values
returns-clause-values c = λ trees ops m n. value_alike (applied trees ops m) (applied trees ops n) (moments_alike trees ops m n)

pub returns-clause-value_names : goal.returns-clause-value_names
returns-clause-value_names c = λ trees ops m n. value_names_alike (applied trees ops m) (applied trees ops n) (moments_alike trees ops m n)

pub returns-clause-subkeys : goal.returns-clause-subkeys
returns-clause-subkeys c = λ trees ops m n. subkeys_alike (applied trees ops m) (applied trees ops n) (moments_alike trees ops m n)
