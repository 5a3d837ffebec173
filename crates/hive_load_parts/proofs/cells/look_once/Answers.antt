use Rattle.std.proofs.Common.{arith, ◌/◌, ◌∙◌, Bool, List, Ok, ap, sym, subst, true, slice_set}
use Rattle.hive_records.specs.Follows.{Follows}
use Rattle.hive_load_parts.proofs.Looked.{no_cell, met_again, marked_now, marked_only, slot_within}
use Rattle.hive_load_parts.proofs.Spread.{spreads_one}
use Rattle.hive_load_parts.proofs.Counted.{one_flag}
use Rattle.hive_load_parts.proofs.Kit.{err_as}
use Rattle.hive_records.specs.Readers.{look}
use Rattle.hive_load_parts.specs.CellReads.{marks_of, set_flags, Spreads}
use Rattle.hive_load_parts.proofs.cells.look_once.Goals as goal

pub returns-in-Err-clause-reads : goal.returns-in-Err-clause-reads
returns-in-Err-clause-reads c = λ cells shows. no_cell c.args.image.now.bytes cells shows c.args.at c.in-Err.refusal c.in-Err.ensures.found.0 c.in-Err.ensures.found.1 (marks_of c.args.seen.now) (marks_of c.args.seen.now)

pub returns-then-is_set-clause-reads : goal.returns-then-is_set-clause-reads
returns-then-is_set-clause-reads c = λ cells shows. err_as (look c.args.at) cells (marks_of c.args.seen.now) (marks_of c.args.seen.now) c.from.result _ c.from.ensures (met_again c.args.image.now.bytes cells shows c.args.at c.in-Ok.ensures.found.0 c.in-Ok.bytes.now c.in-Ok.ensures.found.1 c.args.seen.now c.in-Ok.ensures.eights (sym c.is_set.ensures ∙ c.if-is_set.true) (marks_of c.args.seen.now))

pub returns-clause-reads : goal.returns-clause-reads
returns-clause-reads c = λ cells shows. subst (λ (flags : List Bool). Follows (look c.args.at) cells (marks_of c.args.seen.now) (marks_of flags) (Ok c.in-Ok.bytes.now)) (sym c.set.ensures) (marked_now c.args.image.now.bytes cells shows c.args.at c.in-Ok.ensures.found.0 c.in-Ok.bytes.now c.in-Ok.ensures.found.1 c.args.seen.now c.in-Ok.ensures.eights
    (slot_within c.args.at _ _ (omega (arith, c.in-Ok.ensures.within, c.in-Ok.ensures.size)) c.requires.covers) (sym c.is_set.ensures ∙ c.if-is_set.false))

pub returns-clause-works : goal.returns-clause-works
returns-clause-works c = omega (arith, c.cell.ensures.look, ap set_flags c.set.ensures, one_flag c.args.seen.now (c.args.at / 8) (slot_within c.args.at _ _ (omega (arith, c.in-Ok.ensures.within, c.in-Ok.ensures.size)) c.requires.covers) (sym c.is_set.ensures ∙ c.if-is_set.false))

pub returns-clause-spreads : goal.returns-clause-spreads
returns-clause-spreads c = subst (λ (flags : List Bool). Spreads c.args.image.now.bytes c.args.seen.now flags) (sym c.set.ensures) (spreads_one c.args.image.now.bytes c.args.seen.now (slice_set c.args.seen.now (c.args.at / 8) true) c.args.at c.in-Ok.ensures.found.0 (λ cell h. marked_only c.args.seen.now c.args.at cell c.in-Ok.ensures.eights h)
    (one_flag c.args.seen.now (c.args.at / 8) (slot_within c.args.at _ _ (omega (arith, c.in-Ok.ensures.within, c.in-Ok.ensures.size)) c.requires.covers) (sym c.is_set.ensures ∙ c.if-is_set.false)))

pub returns-clause-more : goal.returns-clause-more
returns-clause-more c = omega (arith, ap set_flags c.set.ensures, one_flag c.args.seen.now (c.args.at / 8) (slot_within c.args.at _ _ (omega (arith, c.in-Ok.ensures.within, c.in-Ok.ensures.size)) c.requires.covers) (sym c.is_set.ensures ∙ c.if-is_set.false))
