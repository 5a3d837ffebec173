use Rattle.std.proofs.Common.{arith}
use Rattle.hive_edit.proofs.KeyDeletions.{shortened}
use Rattle.hive_edit.proofs.key_delete.take_key.Goals as goal

pub put_list-requires : goal.put_list-requires
put_list-requires c = record { node = c.in_ok-shorten_leaf.ensures.put.sizes c.args.home 76 c.requires.list.long }

pub returns-clause-done : goal.returns-clause-done
returns-clause-done c = λ is root hive tree front name found named.
    shortened c.args.image.now.bytes root tree hive front name c.args.home found c.tiles.ensures.tiles c.args.list c.requires.list c.args.slot.now c.requires.slot named (c.has_no_subkeys.ensures c.if-not-has_no_subkeys.false) c.args.moment
    c.in-Some.shape c.in-Some.ensures (let l = c.if-shape-slot.false in omega (arith, l)) (let l = c.if-list-eq0.false in let m = c.if-list-eq1.false in omega (arith, l, m)) c.shorten_leaf.new.image.bytes c.put_list.new.image.bytes c.free_key.new.image.bytes c.tiles-2.ensures.tiles c.in_ok-shorten_leaf.ensures.put c.in_ok-put_list.ensures.put (c.in_ok-freed.ensures.freed is)
