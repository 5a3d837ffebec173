use Rattle.hive_edit.specs.DataPlaces.{PutsData, place_cells}
use Rattle.hive_edit.proofs.CellChanges.{some_says}
use Rattle.hive_edit.proofs.ValueSets.{set_stands}
use Rattle.hive_edit.proofs.value_edit.set_at.Goals as goal

pub put_fields-requires : goal.put_fields-requires
put_fields-requires c = record { node = c.in_ok-new.ensures.sizes c.args.place.now.key 76 c.requires.node; value = c.in_ok-new.ensures.sizes c.args.place.now.value 20 c.requires.value }

pub returns-clause-done : goal.returns-clause-done
returns-clause-done c = λ is root hive tree path name found.
    set_stands c.args.image.now.bytes c.put_data.new.image.bytes c.put_fields.new.image.bytes c.free_data.new.image.bytes root hive tree path name c.args.place.now.key c.args.place.now.index c.args.place.now.value c.in-Some.old c.in-Some-2.new c.args.data.now c.args.kind c.args.moment
    c.tiles.ensures.tiles c.tiles-2.ensures.tiles c.requires.value c.in-Some.ensures.place (some_says c.in_ok-new.field-0 c.in-Some-2.new (PutsData c.args.image.now.bytes c.put_data.new.image.bytes (place_cells c.args.image.now.bytes c.in-Some.old) c.args.data.now) c.in-Some-2.is c.in_ok-new.ensures.put) c.in_ok-put_fields.ensures.put (c.in_ok-freed.ensures.freed is) found
