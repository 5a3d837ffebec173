use Rattle.std.proofs.Common.{inl}
use Rattle.hive_load_parts.specs.CellReads.{marks_of}
use Rattle.hive_lookup.specs.declared.list_kind.ListKind.TheVariants.{Subkeys}
use Rattle.hive_salvage.proofs.Cells.{record_cell, first_look}
use Rattle.hive_salvage.proofs.walk.take_root.Goals as goal

pub returns-in-Ok-look_once-clause-root : goal.returns-in-Ok-look_once-clause-root
returns-in-Ok-look_once-clause-root c = λ cells shows. let its = c.in-Ok.ensures cells shows in (its.0, c.in-Ok-look_once.field-0.now, its.1, its.2, c.in-Ok-look_once.ensures.reads cells shows)

pub returns-in-Err-look_once-clause-root : goal.returns-in-Err-look_once-clause-root
returns-in-Err-look_once-clause-root c = λ cells shows.
    let its = c.in-Ok.ensures cells shows in
    let cell = record_cell Subkeys cells c.args.root its.0 its.1 in
    inl (first_look c.args.root cells (marks_of c.args.seen.now) (marks_of c.look_once.new.seen) cell.0 c.in-Err-look_once.why cell.1 c.requires.unset (c.in-Err-look_once.ensures.reads cells shows))
