use Rattle.std.proofs.Common.{◌*◌, length, rules}
use Rattle.hive_load_parts.specs.CellReads.{marks_of}
use Rattle.hive_load_parts.proofs.Kit.{not_least, least, ok_as}
use Rattle.hive_records.specs.Readers.{each}
use Rattle.hive_records.specs.Numbers.{words_from}
use Rattle.hive_records.specs.Values.{value_at}
use Rattle.hive_load_parts.proofs.AllValues.{no_values, values_unlisted, values_short, values_out, values_gives}
use Rattle.hive_load_parts.proofs.values.values.Goals as goal

pub returns-then-count-eq0-clause-reads : goal.returns-then-count-eq0-clause-reads
returns-then-count-eq0-clause-reads c = λ cells shows. no_values c.args.split c.args.count c.args.at cells (marks_of c.args.seen.now) c.new.result (search (rules, c.if-count-eq0.true)) c.new.ensures

pub returns-in-Err-clause-reads : goal.returns-in-Err-clause-reads
returns-in-Err-clause-reads c = λ cells shows. values_unlisted c.args.split c.args.count c.args.at cells (marks_of c.args.seen.now) (marks_of c.look_once.new.seen) (search (rules, c.if-count-eq0.false)) c.in-Err.refusal (c.in-Err.ensures.reads cells shows)

pub returns-then-list-count-clause-reads : goal.returns-then-list-count-clause-reads
returns-then-list-count-clause-reads c = λ cells shows. values_short c.args.split c.args.count c.args.at cells (marks_of c.args.seen.now) (marks_of c.look_once.new.seen) (search (rules, c.if-count-eq0.false)) c.in-Ok.list.now (c.in-Ok.ensures.reads cells shows) c.from.result (not_least (4 * c.args.count) (length c.in-Ok.list.now) c.if-list-count.true) c.from.ensures

pub returns-in-Err-listed-clause-reads : goal.returns-in-Err-listed-clause-reads
returns-in-Err-listed-clause-reads c = λ cells shows. values_out c.args.split c.args.count c.args.at cells (marks_of c.args.seen.now) (marks_of c.look_once.new.seen) (search (rules, c.if-count-eq0.false)) c.in-Ok.list.now (c.in-Ok.ensures.reads cells shows) (least (4 * c.args.count) (length c.in-Ok.list.now) c.if-list-count.false) (marks_of c.listed.new.seen) c.in-Err-listed.refusal (c.in-Err-listed.ensures.reads cells shows)

pub returns-clause-reads : goal.returns-clause-reads
returns-clause-reads c = λ cells shows. values_gives c.args.split c.args.count c.args.at cells (marks_of c.args.seen.now) (marks_of c.look_once.new.seen) (search (rules, c.if-count-eq0.false)) c.in-Ok.list.now (c.in-Ok.ensures.reads cells shows) (least (4 * c.args.count) (length c.in-Ok.list.now) c.if-list-count.false) (marks_of c.listed.new.seen) c.deref.result.now c.mapped.result
    (ok_as (each (value_at c.args.split) (words_from c.in-Ok.list.now 0 4 c.args.count)) cells (marks_of c.look_once.new.seen) (marks_of c.listed.new.seen) c.deref.result.now c.in-Ok-listed.found.items c.deref.ensures.value (c.in-Ok-listed.ensures.reads cells shows)) c.mapped.ensures
