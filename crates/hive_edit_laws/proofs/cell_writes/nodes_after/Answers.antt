use Rattle.hive_edit_laws.proofs.CellWrites.{time_over, bounds_over, lists_over, lists_on}
use Rattle.hive_edit_laws.proofs.cell_writes.nodes_after.Goals as goal

pub returns-clause-time : goal.returns-clause-time
returns-clause-time c = λ old new source time o eight is. time_over old new source time o eight is

pub returns-clause-bounds : goal.returns-clause-bounds
returns-clause-bounds c = λ old mid new source time from t o low high. bounds_over old mid new source time from t o low high

pub returns-clause-lists : goal.returns-clause-lists
returns-clause-lists c = λ old new source from o within. lists_over old new source from o within

pub returns-clause-lists_on : goal.returns-clause-lists_on
returns-clause-lists_on c = λ old mid new a b. lists_on old mid new a b
