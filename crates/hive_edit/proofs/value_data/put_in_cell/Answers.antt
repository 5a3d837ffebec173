use Rattle.hive_edit.proofs.DataPuts.{put_here}
use Rattle.hive_edit.proofs.value_data.put_in_cell.Goals as goal

pub returns-clause-put : goal.returns-clause-put
returns-clause-put c = put_here c.args.image.now.bytes c.write.new.self.bytes c.args.at c.args.data.now c.at_offset.result c.tiles.ensures.tiles c.requires.room c.in_ok-write.ensures.written c.at_offset.ensures.is c.at_offset.ensures.place c.requires.some c.requires.few
