use Rattle.reg_round_trip.proofs.TreeLists.{all_legal, all_same}
use Rattle.reg_round_trip.proofs.laws.operations_rebuild_trees.Goals as goal

pub returns-clause-legal : goal.returns-clause-legal
returns-clause-legal c = all_legal

pub returns-clause-same : goal.returns-clause-same
returns-clause-same c = all_same
