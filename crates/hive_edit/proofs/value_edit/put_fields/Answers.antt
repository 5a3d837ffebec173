use Rattle.std.proofs.Common.{ℕ}
use Rattle.hive_edit_laws.specs.RecordEdits.{NodeTimeChanges}
use Rattle.hive_savepoint.specs.Puts.{HasData, ChangesCell}
use Rattle.hive_edit.specs.DataPlaces.{PutsFields}
use Rattle.hive_edit.proofs.CellChanges.{on_ok}
use Rattle.hive_edit.proofs.FieldPuts.{fields_put}
use Rattle.hive_edit.proofs.value_edit.put_fields.Goals as goal

pub put_time-requires : goal.put_time-requires
put_time-requires c = record { node = c.in_ok-put_record.ensures.put.sizes c.args.place.now.key 76 c.requires.node }

pub returns-clause-put : goal.returns-clause-put
returns-clause-put c = on_ok c.put_time.result (ChangesCell c.put_record.new.image.bytes c.put_time.new.image.bytes c.args.place.now.key (λ its now. NodeTimeChanges its now c.args.moment))
    (PutsFields c.args.image.now.bytes c.put_time.new.image.bytes c.args.place.now.key c.args.place.now.value c.args.new.now c.args.kind c.args.moment)
    (fields_put c.args.image.now.bytes c.put_record.new.image.bytes c.put_time.new.image.bytes c.args.place.now.key c.args.place.now.value c.args.new.now c.args.kind c.args.moment c.in_ok-put_record.ensures.put) c.put_time.ensures.put

pub returns-clause-sizes : goal.returns-clause-sizes
returns-clause-sizes c = on_ok c.put_time.result (ChangesCell c.put_record.new.image.bytes c.put_time.new.image.bytes c.args.place.now.key (λ its now. NodeTimeChanges its now c.args.moment))
    ((cell len : ℕ) → HasData c.args.image.now.bytes cell len → HasData c.put_time.new.image.bytes cell len)
    (λ h cell len has. h.sizes cell len (c.in_ok-put_record.ensures.put.sizes cell len has)) c.put_time.ensures.put
