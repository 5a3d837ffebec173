use Rattle.hive_file_reader.proofs.Files.{same_tree, none_held, none_held_as, no_bins_as}
use Rattle.hive_file_reader.proofs.laws.one_or_none.Goals as goal

pub returns-clause-one : goal.returns-clause-one
returns-clause-one c = λ file tree other holds also. same_tree c.one_tree.ensures.one file tree other holds also

pub returns-clause-none : goal.returns-clause-none
returns-clause-none c = λ file why refused some tree holds. none_held c.refused_bins_exclude_trees.ensures file why refused some tree holds

pub returns-clause-refused : goal.returns-clause-refused
returns-clause-refused c = λ hive file why refused some tree holds. none_held_as c.refused_bins_exclude_trees.ensures hive file why refused some tree holds

pub returns-clause-bins : goal.returns-clause-bins
returns-clause-bins c = λ hive file why refused some tree holds. no_bins_as c.refused_bins_exclude_trees.ensures hive file why refused some tree holds
