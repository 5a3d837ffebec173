use Rattle.std.proofs.Common.{length, ◌<◌, arith}
use Rattle.hive_emit.proofs.Leaves.{is_zero, not_zero}
use Rattle.hive_emit.proofs.Owns.{class_none, class_put}
use Rattle.hive_emit.specs.CellWrites.{cell_cost}
use Rattle.hive_emit.proofs.NewCells.{none_used, uses_more, lands_used, stops_more}
use Rattle.hive_emit.specs.KeyCosts.{class_cost}
use Rattle.hive_emit.proofs.keys.put_class.Goals as goal

pub returns-then-is_empty-clause-made : goal.returns-then-is_empty-clause-made
returns-then-is_empty-clause-made c = class_none c.args.image.now.bytes c.args.class.now (is_zero (length c.args.class.now) c.if-is_empty.ensures)

pub returns-in-Ok-clause-made : goal.returns-in-Ok-clause-made
returns-in-Ok-clause-made c = class_put c.args.image.now.bytes c.put_cell.new.image.bytes c.in-Ok.at c.args.class.now (not_zero (length c.args.class.now) c.if-is_empty.ensures) c.in-Ok.ensures.0

pub returns-then-is_empty-clause-uses : goal.returns-then-is_empty-clause-uses
returns-then-is_empty-clause-uses c = uses_more c.args.image.now.bytes c.args.image.now.bytes 0 (class_cost (length c.args.class.now)) (omega arith) (none_used c.args.image.now.bytes)

pub returns-in-Ok-clause-uses : goal.returns-in-Ok-clause-uses
returns-in-Ok-clause-uses c =
    let some : 0 < length c.args.class.now = not_zero (length c.args.class.now) c.if-is_empty.ensures in
    uses_more c.args.image.now.bytes c.put_cell.new.image.bytes (cell_cost (length c.args.class.now)) (class_cost (length c.args.class.now)) (omega (arith, some)) (lands_used c.args.image.now.bytes c.put_cell.new.image.bytes c.in-Ok.at (cell_cost (length c.args.class.now)) c.in-Ok.ensures.1)

pub returns-in-Err-clause-stops : goal.returns-in-Err-clause-stops
returns-in-Err-clause-stops c =
    let some : 0 < length c.args.class.now = not_zero (length c.args.class.now) c.if-is_empty.ensures in
    stops_more c.args.image.now.bytes (cell_cost (length c.args.class.now)) (class_cost (length c.args.class.now)) c.in-Err.why (omega (arith, some)) c.in-Err.ensures
