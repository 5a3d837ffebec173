use Rattle.std.proofs.Common.{◌≡◌, ◌<◌, ◌≤◌, ℕ, subst, ◌++◌, ◌∷◌, [], ◌∙◌, ap, sym, refl, arith}
use Rattle.hive_records.specs.Values.{cell_prefix, segments_of}
use Rattle.hive_load_parts.specs.CellReads.{marks_of, size_at}
use Rattle.hive_load_parts.proofs.Spread.{spreads_none, spreads_on}
use Rattle.hive_load_parts.proofs.BigSteps.{segment_out, segment_next, segments_all, flat_more}
use Rattle.hive_records.proofs.Each.{each_starts}
use Rattle.hive_load_parts.proofs.big.segments.Goals as goal

pub loop-index-init : goal.loop-index-init
loop-index-init c = record { covers = refl; works = omega arith; spreads = spreads_none c.args.image.now.bytes c.args.seen.now; reads = λ cells shows. ([], c.new-bytes.ensures.items, each_starts (λ s. cell_prefix s.0 s.1) cells (marks_of c.args.seen.now)) }

pub returns-in-Err-clause-reads : goal.returns-in-Err-clause-reads
returns-in-Err-clause-reads c = λ cells shows.
    let inv = c.loop-index.invariant.reads cells shows in
    segment_out c.args.size c.args.list.now cells (marks_of c.args.seen.now) (marks_of c.loop-index.seen) (marks_of c.cell_prefix.new.seen) c.loop-index.index c.size_at-len.result c.u32_at-at.result
    (subst (λ z. c.loop-index.index < z) c.segment_count-count.ensures c.loop-index-test.true)
    (c.size_at-len.ensures ∙ ap (λ z. size_at c.args.size z c.loop-index.index) c.segment_count-count.ensures) c.u32_at-at.ensures
    inv.0 inv.2 c.in-Err.refusal (c.in-Err.ensures.reads cells shows)

pub loop-index-preserved : goal.loop-index-preserved
loop-index-preserved c = record {
  covers = c.cell_prefix.ensures.covers ∙ c.loop-index.invariant.covers;
  works = omega (arith, c.in-Ok.ensures.works, c.loop-index.invariant.works);
  spreads = spreads_on c.loop-index.invariant.spreads c.in-Ok.ensures.spreads;
  reads = λ cells shows.
      let inv = c.loop-index.invariant.reads cells shows in (
        inv.0 ++ c.in-Ok.part.now ∷ [],
        c.in_ok-extend_from_slice.ensures.items ∙ ap (λ z. z ++ c.in-Ok.part.now) inv.1 ∙ sym (flat_more inv.0 c.in-Ok.part.now),
        segment_next c.args.size c.args.list.now cells (marks_of c.args.seen.now) (marks_of c.loop-index.seen) (marks_of c.cell_prefix.new.seen) c.loop-index.index c.size_at-len.result c.u32_at-at.result
            (subst (λ z. c.loop-index.index < z) c.segment_count-count.ensures c.loop-index-test.true)
            (c.size_at-len.ensures ∙ ap (λ z. size_at c.args.size z c.loop-index.index) c.segment_count-count.ensures) c.u32_at-at.ensures
            inv.0 inv.2 c.in-Ok.part.now (c.in-Ok.ensures.reads cells shows),
      );
}

same_end : (i n m : ℕ) → n ≡ m → n ≤ i → i ≤ n → i ≡ m
same_end i n m e h g = omega (arith, e, h, g)

pub returns-clause-reads : goal.returns-clause-reads
returns-clause-reads c = λ cells shows.
    let inv = c.loop-index.invariant.reads cells shows in
    segments_all c.args.size c.args.list.now cells (marks_of c.args.seen.now) (marks_of c.loop-index.seen) inv.0 c.loop-index.bytes.items c.loop-index.index (same_end c.loop-index.index c.segment_count-count.result (segments_of c.args.size) c.segment_count-count.ensures c.loop-index-test.false c.loop-index.auto.index-end) inv.1 inv.2
