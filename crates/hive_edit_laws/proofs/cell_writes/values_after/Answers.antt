use Rattle.hive_edit_laws.proofs.CellWrites.{fields_over, small_over, begins_over}
use Rattle.hive_edit_laws.proofs.cell_writes.values_after.Goals as goal

pub returns-clause-fields : goal.returns-clause-fields
returns-clause-fields c = λ old new source o twelve. fields_over old new source o twelve

pub returns-clause-small : goal.returns-clause-small
returns-clause-small c = λ old new source its o twelve long few same. small_over old new source its o twelve long few same

pub returns-clause-begins : goal.returns-clause-begins
returns-clause-begins c = λ old new source o few. begins_over old new source o few
