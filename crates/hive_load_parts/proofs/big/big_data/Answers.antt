use Rattle.std.proofs.Common.{length, ◌*◌, ◌<◌, ◌≤◌, subst}
use Rattle.hive_records.specs.Values.{segments_of}
use Rattle.hive_load_parts.specs.CellReads.{marks_of}
use Rattle.hive_load_parts.proofs.Kit.{not_least, least}
use Rattle.hive_load_parts.proofs.BigSteps.{big_unseen, big_refused, big_listless, big_short, big_gives}
use Rattle.hive_load_parts.proofs.big.big_data.Goals as goal

pub returns-in-Err-clause-reads : goal.returns-in-Err-clause-reads
returns-in-Err-clause-reads c = λ cells shows. big_unseen c.args.size c.args.at cells (marks_of c.args.seen.now) (marks_of c.look_once.new.seen) c.in-Err.refusal (c.in-Err.ensures.reads cells shows)

pub returns-in-Err-read-clause-reads : goal.returns-in-Err-read-clause-reads
returns-in-Err-read-clause-reads c = λ cells shows. big_refused c.args.size c.args.at cells (marks_of c.args.seen.now) (marks_of c.look_once.new.seen) c.in-Ok.cell.now (c.in-Ok.ensures.reads cells shows) (marks_of c.look_once.new.seen) c.in-Err-read.refusal c.in-Err-read.ensures

pub returns-in-Err-look_once-clause-reads : goal.returns-in-Err-look_once-clause-reads
returns-in-Err-look_once-clause-reads c = λ cells shows. big_listless c.args.size c.args.at cells (marks_of c.args.seen.now) (marks_of c.look_once.new.seen) c.in-Ok.cell.now (c.in-Ok.ensures.reads cells shows) c.in-Ok-read.big c.in-Ok-read.ensures (marks_of c.look_once-2.new.seen) c.in-Err-look_once.refusal (c.in-Err-look_once.ensures.reads cells shows)

pub returns-then-list-segment_count-clause-reads : goal.returns-then-list-segment_count-clause-reads
returns-then-list-segment_count-clause-reads c = λ cells shows. big_short c.args.size c.args.at cells (marks_of c.args.seen.now) (marks_of c.look_once.new.seen) c.in-Ok.cell.now (c.in-Ok.ensures.reads cells shows) c.in-Ok-read.big c.in-Ok-read.ensures (marks_of c.look_once-2.new.seen) c.in-Ok-look_once.list.now c.from.result (c.in-Ok-look_once.ensures.reads cells shows)
    (not_least (4 * segments_of c.args.size) (length c.in-Ok-look_once.list.now) (subst (λ z. length c.in-Ok-look_once.list.now < 4 * z) c.segment_count.ensures c.if-list-segment_count.true)) c.from.ensures

pub returns-clause-reads : goal.returns-clause-reads
returns-clause-reads c = λ cells shows. big_gives c.args.size c.args.at cells (marks_of c.args.seen.now) (marks_of c.look_once.new.seen) c.in-Ok.cell.now (c.in-Ok.ensures.reads cells shows) c.in-Ok-read.big c.in-Ok-read.ensures (λ bytes. bytes.items) (marks_of c.look_once-2.new.seen) (marks_of c.segments.new.seen) c.in-Ok-look_once.list.now c.segments.result (c.in-Ok-look_once.ensures.reads cells shows)
    (least (4 * segments_of c.args.size) (length c.in-Ok-look_once.list.now) (subst (λ z. 4 * z ≤ length c.in-Ok-look_once.list.now) c.segment_count.ensures c.if-list-segment_count.false)) (c.segments.ensures.reads cells shows)
