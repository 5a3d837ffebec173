use Rattle.std.proofs.Common.{◌-◌, arith}
use Rattle.hive_savepoint.specs.Puts.{ChangesCell}
use Rattle.hive_edit.specs.ValueLists.{ValuesArePut, TakesFromList}
use Rattle.hive_edit.proofs.CellChanges.{on_ok}
use Rattle.hive_edit.proofs.ListShifts.{shortened}
use Rattle.hive_edit.proofs.value_delete.shorten_list.Goals as goal

pub put_values-requires : goal.put_values-requires
put_values-requires c = record { node = c.in_ok-shift.ensures.moved.sizes c.args.key 76 c.requires.there.node }

pub returns-clause-less : goal.returns-clause-less
returns-clause-less c =
    let n = c.args.list.now.count - 1 in
    on_ok c.put_values.result (ChangesCell c.shift.new.self.bytes c.put_values.new.image.bytes c.args.key (ValuesArePut n c.args.list.now.at c.args.moment)) (TakesFromList c.args.image.now.bytes c.put_values.new.image.bytes c.args.key c.args.index c.args.moment)
    (shortened c.args.image.now.bytes c.shift.new.self.bytes c.put_values.new.image.bytes c.args.key c.args.index n c.args.moment c.args.list.now c.tiles.ensures.tiles c.requires.there (let h = c.requires.here in omega (arith, h)) (let h = c.requires.here in omega (arith, h)) c.in_ok-shift.ensures.moved)
    c.put_values.ensures.put
