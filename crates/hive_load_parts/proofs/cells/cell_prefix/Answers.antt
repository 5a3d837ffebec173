use Rattle.std.proofs.Common.{length}
use Rattle.hive_load_parts.proofs.Kit.{piece_refused, piece_short, piece_read, err_as, not_least, least}
use Rattle.hive_records.specs.Values.{cell_prefix}
use Rattle.hive_load_parts.specs.CellReads.{marks_of}
use Rattle.hive_load_parts.proofs.cells.cell_prefix.Goals as goal

pub returns-in-Err-clause-reads : goal.returns-in-Err-clause-reads
returns-in-Err-clause-reads c = λ cells shows. piece_refused c.args.size c.args.at cells (marks_of c.args.seen.now) (marks_of c.look_once.new.seen) c.in-Err.refusal (c.in-Err.ensures.reads cells shows)

pub returns-then-bytes-size-clause-reads : goal.returns-then-bytes-size-clause-reads
returns-then-bytes-size-clause-reads c = λ cells shows. err_as (cell_prefix c.args.size c.args.at) cells (marks_of c.args.seen.now) (marks_of c.look_once.new.seen) c.from.result _ c.from.ensures (piece_short c.args.size c.args.at cells (marks_of c.args.seen.now) (marks_of c.look_once.new.seen) c.in-Ok.bytes.now (not_least c.args.size (length c.in-Ok.bytes.now) c.if-bytes-size.true) (c.in-Ok.ensures.reads cells shows))

pub returns-clause-reads : goal.returns-clause-reads
returns-clause-reads c = λ cells shows. piece_read c.args.size c.args.at cells (marks_of c.args.seen.now) (marks_of c.look_once.new.seen) c.in-Ok.bytes.now (least c.args.size (length c.in-Ok.bytes.now) c.if-bytes-size.false) (c.in-Ok.ensures.reads cells shows)
