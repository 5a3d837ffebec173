use Rattle.hive_emit.proofs.Datas.{one_cell}
use Rattle.std.proofs.Common.{length}
use Rattle.hive_emit.specs.CellWrites.{cell_cost}
use Rattle.hive_emit.specs.CellCosts.{apart_cost}
use Rattle.hive_emit.proofs.NewCells.{uses_more, lands_used, stops_more}
use Rattle.hive_emit.proofs.Sums.{one_cell_cost}
use Rattle.hive_emit.proofs.data.put_data.Goals as goal

pub returns-in-Ok-clause-made : goal.returns-in-Ok-clause-made
returns-in-Ok-clause-made c = one_cell c.args.image.now.bytes c.put_cell.new.image.bytes c.in-Ok.to c.args.content.now c.if-content-gt-SEGMENT_BYTES.false c.in-Ok.ensures.0

pub returns-in-Ok-clause-uses : goal.returns-in-Ok-clause-uses
returns-in-Ok-clause-uses c = uses_more c.args.image.now.bytes c.put_cell.new.image.bytes (cell_cost (length c.args.content.now)) (apart_cost (length c.args.content.now)) (one_cell_cost (length c.args.content.now)) (lands_used c.args.image.now.bytes c.put_cell.new.image.bytes c.in-Ok.to (cell_cost (length c.args.content.now)) c.in-Ok.ensures.1)

pub returns-in-Err-clause-stops : goal.returns-in-Err-clause-stops
returns-in-Err-clause-stops c = stops_more c.args.image.now.bytes (cell_cost (length c.args.content.now)) (apart_cost (length c.args.content.now)) c.in-Err.why (one_cell_cost (length c.args.content.now)) c.in-Err.ensures
