use Rattle.std.proofs.Common.{◌+◌, ◌*◌}
use Rattle.hive_savepoint.specs.Puts.{HasData}
use Rattle.hive_edit.specs.ValueLists.{GivesRoom}
use Rattle.hive_edit.proofs.CellChanges.{some_says}
use Rattle.hive_edit.proofs.ListInserts.{added_to_list}
use Rattle.hive_edit.proofs.list_room.add_to_list.Goals as goal

pub put_more_values-requires : goal.put_more_values-requires
put_more_values-requires c = record { node = c.in_ok-put_word.ensures.put.sizes c.args.key 76 (c.in_ok-at.ensures.sizes c.args.key 76 c.requires.there.node) }

pub returns-clause-more : goal.returns-clause-more
returns-clause-more c = λ is.
    let old = c.args.image.now.bytes in
    let first = c.make_room.new.image.bytes in
    let list = c.args.list.now in
    let at = c.in-Some.at in
    added_to_list old first c.put_word.new.image.bytes c.put_more_values.new.image.bytes c.free_list.new.image.bytes c.args.key c.args.index c.args.word c.args.moment list at c.tiles.ensures.tiles c.requires.there c.requires.here
    (some_says c.in_ok-at.field-0 at (GivesRoom old first list) c.in-Some.is c.in_ok-at.ensures.given)
    (some_says c.in_ok-at.field-0 at (λ at. HasData first at (4 * (list.count + 1))) c.in-Some.is c.in_ok-at.ensures.room)
    c.in_ok-put_word.ensures.put c.in_ok-put_more_values.ensures.put (c.free_list.ensures.freed is)
