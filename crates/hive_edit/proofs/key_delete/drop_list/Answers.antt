use Rattle.std.proofs.Common.{ap, Ok}
use Rattle.hive_edit.proofs.KeyDeletions.{emptied}
use Rattle.hive_edit.proofs.key_delete.drop_list.Goals as goal

pub returns-in_ok-freed-in-Done-clause-done : goal.returns-in_ok-freed-in-Done-clause-done
returns-in_ok-freed-in-Done-clause-done c = λ is root hive tree front name found named.
    emptied c.args.image.now.bytes root tree hive front name c.args.home found c.tiles.ensures.tiles c.args.list c.requires.list c.args.slot.now c.requires.slot named c.requires.leaf c.args.moment c.requires.alone
    0xffff_ffff c.put_list.new.image.bytes c.free_lists.new.image.bytes c.free_key.new.image.bytes c.tiles-in-Done.ensures.tiles c.in_ok-put_list.ensures.put (c.in_ok-free_lists.ensures.freed (ap Ok c.in-Done.is)) (c.in_ok-freed-in-Done.ensures.freed is)
