use Rattle.std.proofs.Common.{◌*◌, length, rules, ◌∙◌, ap, sym, inl, inr, Ok, Err}
use Rattle.hive_load_parts.proofs.Kit.{not_least, least}
use Rattle.hive_load_parts.proofs.Looked.{found_if, missed_if}
use Rattle.hive_lookup.proofs.Listed.{no_offsets, offsets_missing, offsets_short, offsets_read}
use Rattle.hive_lookup.proofs.lists.value_offsets.Goals as goal

pub returns-then-count-eq0 : goal.returns-then-count-eq0
returns-then-count-eq0 c = λ cells shows. no_offsets c.args.count c.args.at cells (search (rules, c.if-count-eq0.true)) ∙ ap Ok (sym c.new.ensures.items)

pub returns-in-Err : goal.returns-in-Err
returns-in-Err c = λ cells shows. inr (inl (offsets_missing c.args.count c.args.at cells (search (rules, c.if-count-eq0.false))
    (missed_if c.args.image.now.bytes c.args.at (cells c.args.at) (shows c.args.at) c.in-Err.ensures.found.1) ∙ ap Err (sym c.in-Err.ensures.found.0)))

pub returns-then-list-count : goal.returns-then-list-count
returns-then-list-count c = λ cells shows. inr (inl (offsets_short c.args.count c.args.at cells (search (rules, c.if-count-eq0.false)) c.in-Ok.list.now
    (found_if c.args.image.now.bytes c.args.at (cells c.args.at) (shows c.args.at) c.in-Ok.ensures.found.0 c.in-Ok.list.now c.in-Ok.ensures.found.1)
    (not_least (4 * c.args.count) (length c.in-Ok.list.now) c.if-list-count.true) ∙ ap Err (sym c.from.ensures)))

pub returns : goal.returns
returns c = λ cells shows. offsets_read c.args.count c.args.at cells (search (rules, c.if-count-eq0.false)) c.in-Ok.list.now
    (found_if c.args.image.now.bytes c.args.at (cells c.args.at) (shows c.args.at) c.in-Ok.ensures.found.0 c.in-Ok.list.now c.in-Ok.ensures.found.1)
    (least (4 * c.args.count) (length c.in-Ok.list.now) c.if-list-count.false) ∙ ap Ok (sym c.in_ok-offsets_in.ensures)
