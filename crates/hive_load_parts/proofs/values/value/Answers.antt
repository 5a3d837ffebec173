use Rattle.hive_load_parts.specs.CellReads.{marks_of}
use Rattle.hive_load_parts.proofs.ValueSteps.{value_unseen, value_refused, value_dataless, value_read}
use Rattle.hive_load_parts.proofs.values.value.Goals as goal

pub returns-in-Err-clause-reads : goal.returns-in-Err-clause-reads
returns-in-Err-clause-reads c = λ cells shows. value_unseen c.args.split c.args.at cells (marks_of c.args.seen.now) (marks_of c.args.seen.now) (marks_of c.look_once.new.seen) c.in-Err.refusal (c.in-Err.ensures.reads cells shows)

pub returns-in-Err-read-clause-reads : goal.returns-in-Err-read-clause-reads
returns-in-Err-read-clause-reads c = λ cells shows. value_refused c.args.split c.args.at cells (marks_of c.args.seen.now) (marks_of c.look_once.new.seen) (marks_of c.look_once.new.seen) c.in-Ok.cell.now (c.in-Ok.ensures.reads cells shows) c.in-Err-read.refusal c.in-Err-read.ensures

pub returns-in-Err-data_of-clause-reads : goal.returns-in-Err-data_of-clause-reads
returns-in-Err-data_of-clause-reads c = λ cells shows. value_dataless c.args.split c.args.at cells (marks_of c.args.seen.now) (marks_of c.look_once.new.seen) (marks_of c.data_of.new.seen) c.in-Ok.cell.now (c.in-Ok.ensures.reads cells shows) c.in-Ok-read.record c.in-Ok-read.ensures c.in-Err-data_of.refusal (c.in-Err-data_of.ensures.reads cells shows)

pub returns-clause-reads : goal.returns-clause-reads
returns-clause-reads c = λ cells shows. value_read c.args.split c.args.at cells (marks_of c.args.seen.now) (marks_of c.look_once.new.seen) (marks_of c.data_of.new.seen) c.in-Ok.cell.now (c.in-Ok.ensures.reads cells shows) c.in-Ok-read.record c.in-Ok-read.ensures c.in-Ok-data_of.data c.in_ok-name.name c.in_ok-name.ensures (c.in-Ok-data_of.ensures.reads cells shows)
