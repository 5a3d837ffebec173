use Rattle.std.proofs.Common.{ap, Ok}
use Rattle.hive_edit.proofs.KeyFrees.{values_freed}
use Rattle.hive_edit.proofs.key_frees.free_values.Goals as goal

pub returns-in-Done-clause-freed : goal.returns-in-Done-clause-freed
returns-in-Done-clause-freed c = λ is root tree path found. values_freed c.args.image.now.bytes root tree path c.args.key found c.in-Some.list c.in-Some.ensures c.if-list-eq0.false c.free_records.new.image.bytes c.free_cells.new.image.bytes
    (c.in_ok-free_records.ensures.freed (ap Ok c.in-Done.is) root tree path found) (c.free_cells.ensures.freed is)
