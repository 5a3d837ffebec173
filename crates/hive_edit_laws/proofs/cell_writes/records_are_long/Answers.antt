use Rattle.hive_edit_laws.proofs.RecordRooms.{node_long, value_long, list_long}
use Rattle.hive_edit_laws.proofs.cell_writes.records_are_long.Goals as goal

pub returns-clause-node : goal.returns-clause-node
returns-clause-node c = λ bytes e. node_long bytes e

pub returns-clause-value : goal.returns-clause-value
returns-clause-value c = λ bytes e. value_long bytes e

pub returns-clause-list : goal.returns-clause-list
returns-clause-list c = λ bytes e. list_long bytes e
