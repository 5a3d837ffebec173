use Rattle.hive_edit.specs.ValueRecords.{AddsRecord}
use Rattle.hive_edit.proofs.CellChanges.{some_says}
use Rattle.hive_edit.proofs.ValueAdds.{added_stands}
use Rattle.hive_edit.proofs.value_add.add_to_key.Goals as goal

pub returns-clause-done : goal.returns-clause-done
returns-clause-done c = λ is root hive tree path found absent.
    let value = c.args.value.now in
    let old = c.args.image.now.bytes in
    let mid = c.insert_value.new.image.bytes in
    let at = c.in-Some.at in
    added_stands old mid c.add_to_list.new.image.bytes root hive tree path value.name.now c.args.key _ at value.kind value.«data».now c.args.moment c.tiles.ensures.tiles found absent
    (some_says c.in_ok-at.field-0 at (AddsRecord old mid (record { name = value.name.now; kind = value.kind; «data» = value.«data».now })) c.in-Some.is c.in_ok-at.ensures.added)
    (c.in_ok-done.ensures.more is)
