use Rattle.hive_edit_laws.proofs.RecordRooms.{node_named, value_named}
use Rattle.hive_edit_laws.proofs.key_search.record_names.Goals as goal

pub returns-clause-node : goal.returns-clause-node
returns-clause-node c = λ node bytes is. node_named node bytes is

pub returns-clause-value : goal.returns-clause-value
returns-clause-value c = λ value bytes is. value_named value bytes is
