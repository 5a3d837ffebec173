use Rattle.hive_edit_laws.proofs.ValueRecords.{in_record, in_cell, no_data, in_segments}
use Rattle.hive_edit_laws.proofs.value_edits.data_are_read.Goals as goal

pub returns-clause-in_record : goal.returns-clause-in_record
returns-clause-in_record c = λ split cells fields value_bytes size few its. in_record split cells fields value_bytes size few its

pub returns-clause-in_cell : goal.returns-clause-in_cell
returns-clause-in_cell c = λ split cells fields value_bytes more to size offset some few one here. in_cell split cells fields value_bytes more to size offset some few one here

pub returns-clause-none : goal.returns-clause-none
returns-clause-none c = λ split cells fields size. no_data split cells fields size

pub returns-clause-segments : goal.returns-clause-segments
returns-clause-segments c = λ cells fields own value_bytes size many less big. in_segments cells fields own value_bytes size many less big
