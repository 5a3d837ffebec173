use Rattle.hive_edit.proofs.DataPuts.{put_nowhere}
use Rattle.hive_edit.specs.DataPlaces.{place_cells}
use Rattle.hive_edit.proofs.value_data.put_data.Goals as goal

pub returns-then-data-le-MOST_IN_RECORD-clause-put : goal.returns-then-data-le-MOST_IN_RECORD-clause-put
returns-then-data-le-MOST_IN_RECORD-clause-put c = put_nowhere c.args.image.now.bytes (place_cells c.args.image.now.bytes c.args.old.now) c.args.data.now c.in_record.result c.in_record.ensures
