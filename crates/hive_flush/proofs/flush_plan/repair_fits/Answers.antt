use Rattle.std.proofs.Common.{◌≡◌, ℕ, List, length, sym, ap, subst, ◌∙◌}
use Rattle.base_block.specs.declared.fields.SequenceNumber.{SequenceNumber}
use Rattle.base_block.specs.Layout.{block_at, sector_of}
use Rattle.base_block.specs.Numbers.{number_after}
use Rattle.hive_flush_model.specs.Plans.{marked_block}
use Rattle.hive_writer.proofs.Moved.{raised_is}
use Rattle.hive_flush.proofs.Readying.{raised_reads, right_sum}
use Rattle.hive_flush.proofs.flush_plan.repair_fits.Goals as goal

pub returns : goal.returns
unfolding right_sum
returns c = λ stands memory primary log is whole covered tree number.
    let block = c.args.block.now in
    let next = c.next.ensures ∙ ap (λ (n : SequenceNumber). number_after n.0) c.bounded-number.ensures.same in
    let raised : c.sector.result ≡ sector_of (marked_block block) = raised_is block c.next.result c.sector.result next c.sector.ensures.encoding in
    c.plans.ensures.repair stands memory block primary log (sector_of (marked_block block)) (sector_of block) whole covered tree number c.bounded-number.ensures.fits
    (subst (λ (s : List ℕ). length s ≡ 512) raised c.sector.ensures.long)
    (raised_reads block c.next.result c.sector.result raised next c.sector.ensures.again)
    (subst (λ (s : List ℕ). length s ≡ 512) c.sector-2.ensures.encoding c.sector-2.ensures.long)
    (ap block_at (sym c.sector-2.ensures.encoding) ∙ c.sector-2.ensures.again ∙ ap right_sum is)
