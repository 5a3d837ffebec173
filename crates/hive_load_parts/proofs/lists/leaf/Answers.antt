use Rattle.hive_load_parts.specs.CellReads.{marks_of}
use Rattle.hive_load_parts.proofs.ListSteps.{leaf_unseen, leaf_refused, leaf_of_lists, leaf_read}
use Rattle.hive_load_parts.proofs.lists.leaf.Goals as goal

pub returns-in-Err-clause-reads : goal.returns-in-Err-clause-reads
returns-in-Err-clause-reads c = λ cells shows. leaf_unseen c.args.at cells (marks_of c.args.seen.now) (marks_of c.look_once.new.seen) c.in-Err.refusal (c.in-Err.ensures.reads cells shows)

pub returns-in-Err-read-clause-reads : goal.returns-in-Err-read-clause-reads
returns-in-Err-read-clause-reads c = λ cells shows. leaf_refused c.args.at cells (marks_of c.args.seen.now) (marks_of c.look_once.new.seen) c.in-Ok.cell.now (c.in-Ok.ensures.reads cells shows) c.in-Err-read.refusal c.in-Err-read.ensures

pub returns-then-list-clause-reads : goal.returns-then-list-clause-reads
returns-then-list-clause-reads c = λ cells shows. leaf_of_lists c.args.at cells (marks_of c.args.seen.now) (marks_of c.look_once.new.seen) c.in-Ok.cell.now (c.in-Ok.ensures.reads cells shows) c.in-Ok-read.list c.in-Ok-read.ensures c.from.result c.if-list.true c.from.ensures

pub returns-clause-reads : goal.returns-clause-reads
returns-clause-reads c = λ cells shows. leaf_read c.args.at cells (marks_of c.args.seen.now) (marks_of c.look_once.new.seen) c.in-Ok.cell.now (c.in-Ok.ensures.reads cells shows) c.in-Ok-read.list c.in-Ok-read.ensures c.in_ok-elements.field-0.items c.if-list.false c.in_ok-elements.ensures
