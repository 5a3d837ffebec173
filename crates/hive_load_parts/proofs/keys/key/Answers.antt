use Rattle.std.proofs.Common.{arith}
use Rattle.hive_load_parts.specs.CellReads.{marks_of}
use Rattle.hive_load_parts.proofs.KeySteps.{key_unseen, key_refused, key_classless, key_undescribed, key_valueless, key_kidless, key_read}
use Rattle.hive_load_parts.proofs.Lending.{key_lent, keeps_as}
use Rattle.hive_load_parts.proofs.keys.key.Goals as goal

pub returns-in-Err-clause-reads : goal.returns-in-Err-clause-reads
returns-in-Err-clause-reads c = λ cells shows. key_unseen c.args.split c.args.at cells (marks_of c.args.seen.now) (marks_of c.look_once.new.seen) c.in-Err.refusal (c.in-Err.ensures.reads cells shows)

pub returns-in-Err-read-clause-reads : goal.returns-in-Err-read-clause-reads
returns-in-Err-read-clause-reads c = λ cells shows. key_refused c.args.split c.args.at cells (marks_of c.args.seen.now) (marks_of c.look_once.new.seen) c.in-Ok.cell.now (c.in-Ok.ensures.reads cells shows) c.in-Err-read.refusal c.in-Err-read.ensures

pub returns-in-Err-class-clause-reads : goal.returns-in-Err-class-clause-reads
returns-in-Err-class-clause-reads c = λ cells shows. key_classless c.args.split c.args.at cells (marks_of c.args.seen.now) (marks_of c.look_once.new.seen) c.in-Ok.cell.now (c.in-Ok.ensures.reads cells shows) c.in-Ok-read.node c.in-Ok-read.ensures (marks_of c.class.new.seen) c.in-Err-class.refusal (c.in-Err-class.ensures.reads cells shows)

pub returns-in-Err-descriptor-clause-reads : goal.returns-in-Err-descriptor-clause-reads
returns-in-Err-descriptor-clause-reads c = λ cells shows. key_undescribed c.args.split c.args.at cells (marks_of c.args.seen.now) (marks_of c.look_once.new.seen) c.in-Ok.cell.now (c.in-Ok.ensures.reads cells shows) c.in-Ok-read.node c.in-Ok-read.ensures (marks_of c.class.new.seen) c.in-Ok-class.class (c.in-Ok-class.ensures.reads cells shows) c.in-Err-descriptor.refusal (c.in-Err-descriptor.ensures.reads cells shows (marks_of c.class.new.seen))

pub returns-in-Err-values-clause-reads : goal.returns-in-Err-values-clause-reads
returns-in-Err-values-clause-reads c = λ cells shows. key_valueless c.args.split c.args.at cells (marks_of c.args.seen.now) (marks_of c.look_once.new.seen) c.in-Ok.cell.now (c.in-Ok.ensures.reads cells shows) c.in-Ok-read.node c.in-Ok-read.ensures (marks_of c.class.new.seen) c.in-Ok-class.class (c.in-Ok-class.ensures.reads cells shows) c.in-Ok-descriptor.descriptor (c.in-Ok-descriptor.ensures.reads cells shows (marks_of c.class.new.seen)) (marks_of c.values.new.seen) c.in-Err-values.refusal (c.in-Err-values.ensures.reads cells shows)

pub returns-in-Err-subkey_list-clause-reads : goal.returns-in-Err-subkey_list-clause-reads
returns-in-Err-subkey_list-clause-reads c = λ cells shows. key_kidless c.args.split c.args.at cells (marks_of c.args.seen.now) (marks_of c.look_once.new.seen) c.in-Ok.cell.now (c.in-Ok.ensures.reads cells shows) c.in-Ok-read.node c.in-Ok-read.ensures (marks_of c.class.new.seen) c.in-Ok-class.class (c.in-Ok-class.ensures.reads cells shows) c.in-Ok-descriptor.descriptor (c.in-Ok-descriptor.ensures.reads cells shows (marks_of c.class.new.seen)) (marks_of c.values.new.seen) c.in-Ok-values.values (c.in-Ok-values.ensures.reads cells shows) (marks_of c.subkey_list.new.seen) c.in-Err-subkey_list.refusal (c.in-Err-subkey_list.ensures.reads cells shows)

pub returns-clause-reads : goal.returns-clause-reads
returns-clause-reads c = λ cells shows. key_read c.args.split c.args.at cells (marks_of c.args.seen.now) (marks_of c.look_once.new.seen) c.in-Ok.cell.now (c.in-Ok.ensures.reads cells shows) c.in-Ok-read.node c.in-Ok-read.ensures (marks_of c.class.new.seen) c.in-Ok-class.class (c.in-Ok-class.ensures.reads cells shows) c.in-Ok-descriptor.descriptor (c.in-Ok-descriptor.ensures.reads cells shows (marks_of c.class.new.seen)) (marks_of c.values.new.seen) c.in-Ok-values.values (c.in-Ok-values.ensures.reads cells shows) (marks_of c.subkey_list.new.seen) c.in-Ok-subkey_list.subkey_list.items c.in_ok-name.name c.in_ok-key.key (c.in-Ok-subkey_list.ensures.reads cells shows) c.in_ok-name.ensures c.in_ok-key.ensures

pub returns-clause-keeps : goal.returns-clause-keeps
returns-clause-keeps c = λ cells shows. keeps_as c.args.known.now c.descriptor.new.known _ _
    (key_lent c.args.split c.args.at cells (marks_of c.args.seen.now) (marks_of c.look_once.new.seen) (marks_of c.class.new.seen) (marks_of c.values.new.seen) (marks_of c.subkey_list.new.seen) c.in-Ok.cell.now (c.in-Ok.ensures.reads cells shows) c.in-Ok-read.node c.in-Ok-read.ensures c.in-Ok-class.class (c.in-Ok-class.ensures.reads cells shows) c.in-Ok-descriptor.descriptor (c.in-Ok-descriptor.ensures.reads cells shows (marks_of c.class.new.seen)) c.in-Ok-values.values (c.in-Ok-values.ensures.reads cells shows) c.in-Ok-subkey_list.subkey_list.items (c.in-Ok-subkey_list.ensures.reads cells shows))
    (c.in-Ok-descriptor.ensures.keeps cells shows)

pub returns-clause-more : goal.returns-clause-more
returns-clause-more c = omega (arith, c.in-Ok.ensures.more, c.in-Ok-class.ensures.spreads.more, c.in-Ok-values.ensures.spreads.more, c.in-Ok-subkey_list.ensures.spreads.more)
