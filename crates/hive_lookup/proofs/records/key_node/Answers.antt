use Rattle.std.proofs.Common.{◌∙◌, ap}
use Rattle.hive_load_parts.proofs.Looked.{found_if}
use Rattle.hive_lookup.specs.declared.list_kind.ListKind.TheVariants.{Subkeys}
use Rattle.hive_lookup.specs.Records.{data_if, data_unless}
use Rattle.hive_lookup.proofs.records.key_node.Goals as goal

pub returns-in-Ok-read : goal.returns-in-Ok-read
returns-in-Ok-read c = λ cells shows.
    let there = found_if c.args.image.now.bytes c.args.at (cells c.args.at) (shows c.args.at) c.in-Ok.ensures.found.0 c.in-Ok.cell.now c.in-Ok.ensures.found.1 in
    (c.in-Ok.cell.now, ap (data_if Subkeys) there ∙ ap (data_unless c.in-Ok.cell.now) c.in-Ok-read.ensures.0, c.in-Ok-read.ensures.1)

pub returns-in-Err-read : goal.returns-in-Err-read
returns-in-Err-read c = λ cells shows.
    let there = found_if c.args.image.now.bytes c.args.at (cells c.args.at) (shows c.args.at) c.in-Ok.ensures.found.0 c.in-Ok.cell.now c.in-Ok.ensures.found.1 in
    ap (data_if Subkeys) there ∙ ap (data_unless c.in-Ok.cell.now) c.in-Err-read.ensures
