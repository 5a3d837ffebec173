use Rattle.hive_edit_laws.proofs.DataCells.{none_outside, none_empty, one_cell, many_cells}
use Rattle.hive_edit_laws.proofs.value_edits.data_have_cells.Goals as goal

pub returns-clause-in_record : goal.returns-clause-in_record
returns-clause-in_record c = λ split bytes cells shows fields own lent value_bytes h big. none_outside split bytes cells shows fields own lent value_bytes h big

pub returns-clause-empty : goal.returns-clause-empty
returns-clause-empty c = λ split bytes cells shows fields own lent value_bytes h size. none_empty split bytes cells shows fields own lent value_bytes h size

pub returns-clause-cell : goal.returns-clause-cell
returns-clause-cell c = λ split bytes cells shows fields own lent value_bytes h more less few. one_cell split bytes cells shows fields own lent value_bytes h more less few

pub returns-clause-segments : goal.returns-clause-segments
returns-clause-segments c = λ split bytes cells shows fields own lent value_bytes h splitting many less. many_cells split bytes cells shows fields own lent value_bytes h splitting many less
