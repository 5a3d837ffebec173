use Rattle.std.proofs.Common.{ap, Ok}
use Rattle.hive_edit.proofs.ValueDeletes.{deleted_stands}
use Rattle.hive_edit.proofs.value_delete.delete_at.Goals as goal

pub returns-in_ok-freed-in-Done-clause-done : goal.returns-in_ok-freed-in-Done-clause-done
returns-in_ok-freed-in-Done-clause-done c = λ is root hive tree path name found.
    deleted_stands c.args.image.now.bytes c.take_from_list.new.image.bytes c.free_record.new.image.bytes root hive tree path name c.args.place.now.key c.args.place.now.index c.args.place.now.value c.in-Some.data c.args.moment
    c.tiles.ensures.tiles c.tiles-in-Done.ensures.tiles c.in-Some.ensures.place (c.in_ok-take_from_list.ensures.less (ap Ok c.in-Done.is)) (c.in_ok-freed-in-Done.ensures.freed is) found
