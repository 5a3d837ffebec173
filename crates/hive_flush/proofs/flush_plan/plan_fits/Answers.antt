use Rattle.std.proofs.Common.{◌≡◌, ◌≤◌, ℕ, List, length, sym, ap, subst, ◌∙◌, arith}
use Rattle.base_block.specs.declared.fields.SequenceNumber.{SequenceNumber}
use Rattle.base_block.specs.Layout.{block_at, sector_of}
use Rattle.base_block.specs.Numbers.{number_after}
use Rattle.dirt_log.specs.LogEncoding.{log_block, pages_from}
use Rattle.dirt_log.specs.WholeLog.{IsLoggable, LogDecodesTo, block_as_read}
use Rattle.dirt_log.proofs.PageBytes.{length_log, few_dirty}
use Rattle.hive_flush_model.specs.Plans.{marked_block}
use Rattle.hive_writer.proofs.Moved.{raised_is}
use Rattle.hive_writer.specs.WriterSteps.{plan_of}
use Rattle.hive_flush.proofs.Readying.{raised_reads}
use Rattle.hive_flush.proofs.flush_plan.plan_fits.Goals as goal

pub returns-clause-short : goal.returns-clause-short
returns-clause-short c =
    let image = c.args.image.now in
    let pages = c.args.pages.now in
    let sector = sector_of (log_block c.args.writer.now.block) in
    let long : length sector ≡ 512 = subst (λ (s : List ℕ). length s ≡ 512) c.sector-3.ensures.encoding c.sector-3.ensures.long in
    omega (arith, length_log image pages sector c.requires.size long, few_dirty pages, c.requires.planned.size, c.requires.planned.own.0.within)

pub returns-clause-few : goal.returns-clause-few
returns-clause-few c =
    let sector = sector_of (log_block c.args.writer.now.block) in
    let long : length sector ≡ 512 = subst (λ (s : List ℕ). length s ≡ 512) c.sector-3.ensures.encoding c.sector-3.ensures.long in
    c.step_bounds.ensures.flush c.args.image.now sector c.args.pages.now c.requires.size long
    (subst (λ (n : ℕ). n ≤ 67108864) c.requires.planned.size c.requires.planned.own.0.within)

pub returns-clause-ready : goal.returns-clause-ready
returns-clause-ready c = λ stands memory tree number.
    let image = c.args.image.now in
    let pages = c.args.pages.now in
    let writer = c.args.writer.now in
    let own = c.requires.planned.own in
    let loggable : IsLoggable writer.block pages = record { usable = own.0; version = (own.1.0, c.requires.planned.version, own.1.3); equal = c.requires.planned.equal; size = c.requires.planned.size } in
    let next = c.next.ensures ∙ ap (λ (n : SequenceNumber). number_after n.0) c.bounded-number.ensures.same in
    let is : c.sector.result ≡ sector_of (marked_block writer.base) = raised_is writer.base c.next.result c.sector.result next c.sector.ensures.encoding in
    c.plans.ensures.flush stands memory image pages writer.base (plan_of writer image pages) c.requires.size loggable own.2 tree number c.bounded-number.ensures.fits
    (subst (λ (s : List ℕ). length s ≡ 512) is c.sector.ensures.long)
    (raised_reads writer.base c.next.result c.sector.result is next c.sector.ensures.again)
    (subst (λ (s : List ℕ). length s ≡ 512) c.sector-2.ensures.encoding c.sector-2.ensures.long)
    (ap block_at (sym c.sector-2.ensures.encoding) ∙ c.sector-2.ensures.again)
    (subst (λ (t : List ℕ). LogDecodesTo t (block_as_read writer.block) pages (pages_from image pages 0)) c.write_steps.ensures.encoding (c.write_steps.ensures.again loggable))
