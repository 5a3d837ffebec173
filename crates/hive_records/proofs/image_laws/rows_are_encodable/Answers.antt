use Rattle.hive_records.proofs.Spelled.{row_spelled, cells_bytes, tree_spelled}
use Rattle.hive_records.proofs.image_laws.rows_are_encodable.Goals as goal

pub returns-clause-row : goal.returns-clause-row
returns-clause-row c = row_spelled

pub returns-clause-cells : goal.returns-clause-cells
returns-clause-cells c = cells_bytes

pub returns-clause-tree : goal.returns-clause-tree
returns-clause-tree c = tree_spelled
