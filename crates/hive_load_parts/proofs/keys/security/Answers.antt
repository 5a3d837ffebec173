use Rattle.hive_load_parts.proofs.Looked.{found_if, missed_if}
use Rattle.hive_load_parts.proofs.Lending.{security_missing, security_refused, security_read}
use Rattle.hive_load_parts.proofs.keys.security.Goals as goal

pub returns-in-Err-clause-reads : goal.returns-in-Err-clause-reads
returns-in-Err-clause-reads c = λ cells shows. security_missing c.args.at cells c.requires c.in-Err.refusal
    (missed_if c.args.image.now.bytes c.args.at (cells c.args.at) (shows c.args.at) c.in-Err.ensures.found.1) c.in-Err.ensures.found.0

pub returns-in-Err-read-clause-reads : goal.returns-in-Err-read-clause-reads
returns-in-Err-read-clause-reads c = λ cells shows. security_refused c.args.at cells c.requires c.in-Ok.cell.now c.in-Err-read.refusal
    (found_if c.args.image.now.bytes c.args.at (cells c.args.at) (shows c.args.at) c.in-Ok.ensures.found.0 c.in-Ok.cell.now c.in-Ok.ensures.found.1) c.in-Err-read.ensures

pub returns-clause-reads : goal.returns-clause-reads
returns-clause-reads c = λ cells shows. security_read c.args.at cells c.requires c.in-Ok.cell.now c.in-Ok-read.security c.in_ok-new.field-0
    (found_if c.args.image.now.bytes c.args.at (cells c.args.at) (shows c.args.at) c.in-Ok.ensures.found.0 c.in-Ok.cell.now c.in-Ok.ensures.found.1) c.in-Ok-read.ensures c.in_ok-new.ensures
