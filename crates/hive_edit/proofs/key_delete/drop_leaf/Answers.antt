use Rattle.std.proofs.Common.{ap, Ok, arith}
use Rattle.hive_edit.proofs.KeyDeletions.{leaf_taken}
use Rattle.hive_edit.proofs.key_delete.drop_leaf.Goals as goal

pub put_list-requires : goal.put_list-requires
put_list-requires c = record { node = c.in_ok-shorten_leaf.ensures.put.sizes c.args.home 76 c.requires.list.long }

pub returns-in_ok-freed-in-Done-clause-done : goal.returns-in_ok-freed-in-Done-clause-done
returns-in_ok-freed-in-Done-clause-done c = λ is root hive tree front name found named.
    leaf_taken c.args.image.now.bytes root tree hive front name c.args.home found c.tiles.ensures.tiles c.args.list c.requires.list c.args.slot.now c.requires.slot named c.requires.leaf c.args.moment
    c.in-Some.index c.in-Some.is c.requires.single c.requires.more c.in-Some-leaf_shape.lists c.in-Some-leaf_shape.ensures (let l = c.if-lists-index.false in omega (arith, l)) c.shorten_leaf.new.image.bytes c.put_list.new.image.bytes c.free_cells.new.image.bytes c.free_key.new.image.bytes c.tiles-in-Done.ensures.tiles
    c.in_ok-shorten_leaf.ensures.put c.in_ok-put_list.ensures.put (c.in_ok-free_cells.ensures.freed (ap Ok c.in-Done.is)) (c.in_ok-freed-in-Done.ensures.freed is)
