use Rattle.hive_file_reader.proofs.AnyWeight.{same_shallow_tree, none_held_as, holds_within}
use Rattle.hive_file_reader.proofs.laws.one_or_none_of_any_weight.Goals as goal

pub returns-clause-one : goal.returns-clause-one
returns-clause-one c = λ file tree other holds also. same_shallow_tree c.one_tree.ensures.one file tree other holds also

pub returns-clause-refused : goal.returns-clause-refused
returns-clause-refused c = λ hive file why refused some tree holds. none_held_as c.refusals_exclude_trees_of_any_weight.ensures hive file why refused some tree holds

pub returns-clause-within : goal.returns-clause-within
returns-clause-within c = λ file tree holds. holds_within file tree holds
