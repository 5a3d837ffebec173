use Rattle.hive_edit_laws.proofs.CellWrites.{room_written, room_allocated, room_freed, room_new, room_of}
use Rattle.hive_edit_laws.proofs.cell_writes.rooms_after.Goals as goal

pub returns-clause-written : goal.returns-clause-written
returns-clause-written c = λ old new at from to cell len w has. room_written old new at from to cell len w has

pub returns-clause-allocated : goal.returns-clause-allocated
returns-clause-allocated c = λ old new size offset cell len a has. room_allocated old new size offset cell len a has

pub returns-clause-freed : goal.returns-clause-freed
returns-clause-freed c = λ old new offset from cell len f apart has. room_freed old new offset from cell len f apart has

pub returns-clause-new : goal.returns-clause-new
returns-clause-new c = λ old new len offset a. room_new old new len offset a

pub returns-clause-by_data : goal.returns-clause-by_data
returns-clause-by_data c = λ bytes at len tiles is long. room_of bytes at len tiles is long
