use Rattle.hive_records.proofs.Images.{same_at}
use Rattle.hive_edit_laws.proofs.CellWrites.{after_write, after_alloc, after_free, data_long}
use Rattle.hive_edit_laws.proofs.cell_writes.cells_after.Goals as goal

pub returns-clause-stay : goal.returns-clause-stay
returns-clause-stay c = λ old new before after shows shown at stays. same_at old new before after shows shown at stays

pub returns-clause-written : goal.returns-clause-written
returns-clause-written c = λ old new before after shows shown at from source tiles has writes is. after_write old new before after shows shown at from source tiles has writes is

pub returns-clause-allocated : goal.returns-clause-allocated
returns-clause-allocated c = λ old new before after shows shown len offset a. after_alloc old new before after shows shown len offset a

pub returns-clause-freed : goal.returns-clause-freed
returns-clause-freed c = λ old new before after shows shown offset from f. after_free old new before after shows shown offset from f

pub returns-clause-long : goal.returns-clause-long
returns-clause-long c = λ bytes at tiles found. data_long bytes at tiles found
