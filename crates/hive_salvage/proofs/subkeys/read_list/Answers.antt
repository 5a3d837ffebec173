use Rattle.std.proofs.Common.{inl, inr, ℕ, List, Ok, subst}
use Rattle.hive_records.specs.Readers.{look}
use Rattle.hive_records.specs.Follows.{Follows}
use Rattle.hive_load_parts.specs.CellReads.{marks_of}
use Rattle.hive_load_parts.proofs.Looked.{found_if, no_cell}
use Rattle.hive_salvage.proofs.Cells.{same_look}
use Rattle.hive_salvage.proofs.subkeys.read_list.Goals as goal

pub returns-in-Err-clause-read : goal.returns-in-Err-clause-read
returns-in-Err-clause-read c = λ cells shows. elim (no_cell c.args.image.now.bytes cells shows c.args.at c.in-Err.why c.in-Err.ensures.found.0 c.in-Err.ensures.found.1 (marks_of c.args.seen.now) (marks_of c.args.seen.now)) [ inl e ↦ inl e | inr f ↦ inr (inl f) ]

pub returns-in-Ok-look_once-clause-read : goal.returns-in-Ok-look_once-clause-read
returns-in-Ok-look_once-clause-read c = λ cells shows.
    let there = found_if c.args.image.now.bytes c.args.at (cells c.args.at) (shows c.args.at) c.in-Ok.ensures.found.0 c.in-Ok.cell.now c.in-Ok.ensures.found.1 in
    let reads = c.in-Ok-look_once.ensures.reads cells shows in
    let same = same_look c.args.at cells c.in-Ok.cell.now c.in-Ok-look_once.field-0.now there reads.0 in (
      c.in-Ok.cell.now,
      subst (λ (d : List ℕ). Follows (look c.args.at) cells (marks_of c.args.seen.now) (marks_of c.look_once.new.seen) (Ok d)) same reads,
      c.in-Ok-read.ensures.0,
      c.in-Ok-read.ensures.1,
    )
