use Rattle.std.proofs.Common.{rules, arith, length}
use Rattle.std.proofs.lemmas.Bool.{eq-eqb, ne_eqb}
use Rattle.hive_load_parts.specs.CellReads.{marks_of}
use Rattle.hive_load_parts.proofs.ListSteps.{no_subkeys, subkeys_unseen, subkeys_refused, subkeys_out_of, subkeys_uncounted, subkeys_read}
use Rattle.hive_load_parts.proofs.lists.subkey_list.Goals as goal

pub returns-then-count-eq0-clause-reads : goal.returns-then-count-eq0-clause-reads
returns-then-count-eq0-clause-reads c = λ cells shows. no_subkeys c.args.count c.args.at cells (marks_of c.args.seen.now) c.new.result.items (search (rules, c.if-count-eq0.true)) c.new.ensures.items

pub returns-in-Err-clause-reads : goal.returns-in-Err-clause-reads
returns-in-Err-clause-reads c = λ cells shows. subkeys_unseen c.args.count c.args.at cells (marks_of c.args.seen.now) (marks_of c.look_once.new.seen) (search (rules, c.if-count-eq0.false)) c.in-Err.refusal (c.in-Err.ensures.reads cells shows)

pub returns-in-Err-read-clause-reads : goal.returns-in-Err-read-clause-reads
returns-in-Err-read-clause-reads c = λ cells shows. subkeys_refused c.args.count c.args.at cells (marks_of c.args.seen.now) (marks_of c.look_once.new.seen) (search (rules, c.if-count-eq0.false)) c.in-Ok.cell.now (c.in-Ok.ensures.reads cells shows) c.in-Err-read.refusal c.in-Err-read.ensures

pub returns-in-Err-listed-clause-reads : goal.returns-in-Err-listed-clause-reads
returns-in-Err-listed-clause-reads c = λ cells shows. subkeys_out_of c.args.count c.args.at cells (marks_of c.args.seen.now) (marks_of c.look_once.new.seen) (search (rules, c.if-count-eq0.false)) c.in-Ok.cell.now (c.in-Ok.ensures.reads cells shows) c.in-Ok-read.list c.in-Ok-read.ensures (marks_of c.listed.new.seen) c.in-Err-listed.refusal (c.in-Err-listed.ensures.reads cells shows)

pub returns-then-len-count-clause-reads : goal.returns-then-len-count-clause-reads
returns-then-len-count-clause-reads c = λ cells shows. subkeys_uncounted c.args.count c.args.at cells (marks_of c.args.seen.now) (marks_of c.look_once.new.seen) (search (rules, c.if-count-eq0.false)) c.in-Ok.cell.now (c.in-Ok.ensures.reads cells shows) c.in-Ok-read.list c.in-Ok-read.ensures (marks_of c.listed.new.seen) c.in-Ok-listed.found.items (c.in-Ok-listed.ensures.reads cells shows) c.from.result (ne_eqb (length c.in-Ok-listed.found.items) c.args.count (λ e. c.if-len-count.true (omega (arith, e, c.len.ensures, c.in-Ok-listed.found.ok.0)))) c.from.ensures

pub returns-clause-reads : goal.returns-clause-reads
returns-clause-reads c = λ cells shows. subkeys_read c.args.count c.args.at cells (marks_of c.args.seen.now) (marks_of c.look_once.new.seen) (search (rules, c.if-count-eq0.false)) c.in-Ok.cell.now (c.in-Ok.ensures.reads cells shows) c.in-Ok-read.list c.in-Ok-read.ensures (marks_of c.listed.new.seen) c.in-Ok-listed.found.items (c.in-Ok-listed.ensures.reads cells shows) (eq-eqb (length c.in-Ok-listed.found.items) c.args.count (omega (arith, c.if-len-count.false, c.len.ensures, c.in-Ok-listed.found.ok.0)))
