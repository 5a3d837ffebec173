use Rattle.std.proofs.Common.{◌∙◌}
use Rattle.hive_load_parts.proofs.Looked.{found_if, missed_if}
use Rattle.hive_walk.proofs.NodeNames.{key_named, key_there, key_faultless}
use Rattle.hive_walk.proofs.fields.key_name.Goals as goal

pub returns-in-Err : goal.returns-in-Err
returns-in-Err c = λ cells shows split parts e.
    absurd (key_there split cells c.args.at parts (missed_if c.args.image.now.bytes c.args.at (cells c.args.at) (shows c.args.at) c.in-Err.ensures.found.1) e)

pub returns-in-Err-read : goal.returns-in-Err-read
returns-in-Err-read c = λ cells shows split parts e.
    let there = found_if c.args.image.now.bytes c.args.at (cells c.args.at) (shows c.args.at) c.in-Ok.ensures.found.0 c.in-Ok.cell.now c.in-Ok.ensures.found.1 in
    absurd (key_faultless split cells c.args.at parts c.in-Ok.cell.now c.in-Err-read.refusal there c.in-Err-read.ensures e)

pub returns : goal.returns
returns c = λ cells shows split parts e.
    let there = found_if c.args.image.now.bytes c.args.at (cells c.args.at) (shows c.args.at) c.in-Ok.ensures.found.0 c.in-Ok.cell.now c.in-Ok.ensures.found.1 in
    c.in_ok-name_of.ensures ∙ key_named split cells c.args.at c.in-Ok.cell.now c.in-Ok-read.node parts there c.in-Ok-read.ensures.0 c.in-Ok-read.ensures.1 e
