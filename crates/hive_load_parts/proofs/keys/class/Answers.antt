use Rattle.std.proofs.Common.{rules, Ok, Err}
use Rattle.hive_records.specs.Values.{cell_prefix}
use Rattle.hive_load_parts.specs.CellReads.{marks_of}
use Rattle.hive_load_parts.proofs.Kit.{ok_as}
use Rattle.hive_load_parts.proofs.KeySteps.{no_class, some_class}
use Rattle.hive_load_parts.proofs.keys.class.Goals as goal

pub returns-then-len-eq0-clause-reads : goal.returns-then-len-eq0-clause-reads
returns-then-len-eq0-clause-reads c = λ cells shows. no_class c.args.len c.args.at cells (marks_of c.args.seen.now) c.in_ok-new.field-0 (search (rules, c.if-len-eq0.true)) c.in_ok-new.ensures

pub returns-in-Err-clause-reads : goal.returns-in-Err-clause-reads
returns-in-Err-clause-reads c = λ cells shows. some_class c.args.len c.args.at cells (marks_of c.args.seen.now) (marks_of c.cell_prefix.new.seen) (Err c.in-Err.refusal) (search (rules, c.if-len-eq0.false)) (c.in-Err.ensures.reads cells shows)

pub returns-clause-reads : goal.returns-clause-reads
returns-clause-reads c = λ cells shows. some_class c.args.len c.args.at cells (marks_of c.args.seen.now) (marks_of c.cell_prefix.new.seen) (Ok c.in_ok-new-2.field-0) (search (rules, c.if-len-eq0.false))
    (ok_as (cell_prefix c.args.len c.args.at) cells (marks_of c.args.seen.now) (marks_of c.cell_prefix.new.seen) c.in_ok-new-2.field-0 c.in-Ok.bytes.now c.in_ok-new-2.ensures (c.in-Ok.ensures.reads cells shows))
