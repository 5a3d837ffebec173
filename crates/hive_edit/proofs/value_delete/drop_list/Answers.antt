use Rattle.hive_edit.proofs.ListShifts.{dropped}
use Rattle.hive_edit.proofs.value_delete.drop_list.Goals as goal

pub returns-clause-less : goal.returns-clause-less
returns-clause-less c = λ is. dropped c.args.image.now.bytes c.put_values.new.image.bytes c.free_cells.new.image.bytes c.args.key _ c.args.moment c.args.list.now c.requires.there c.requires.one c.in_ok-put_values.ensures.put (c.free_cells.ensures.freed is)
