use Rattle.std.proofs.Common.{List, ℕ, take, ap, ◌∙◌, sym, arith, ◌++◌}
use Rattle.dirt_log.proofs.PageBytes.{pages_next, pages_none, part_laid, all_laid, full_laid}
use Rattle.dirt_log.proofs.steps.put_pages.Goals as goal

pub returns-in-None-clause-bytes : goal.returns-in-None-clause-bytes
returns-in-None-clause-bytes c =
    all_laid c.loop-end.buffer _ _ c.loop-end.end c.loop-end.invariant.inside c.loop-end.invariant.room (pages_none c.args.image.now c.args.vector.now c.loop-end.page c.in-None.ensures) c.loop-end.invariant.bytes

pub loop-end-preserved : goal.loop-end-preserved
loop-end-preserved c =
    let next = c.in-Some.next in
    let found = c.in-Some.ensures in
    record {
      room = omega (arith, c.loop-end.invariant.room);
      inside = omega (arith, c.loop-end.invariant.inside, c.loop-end.invariant.whole);
      whole = omega (arith, c.loop-end.invariant.whole);
      bytes = part_laid c.loop-end.buffer c.put.new.buffer c.args.image.now c.page_bytes.result.now _ _ c.loop-end.end next c.page_bytes.ensures.value c.page_bytes.ensures.long c.put.ensures
          (ap (λ (xs : List ℕ). take c.loop-end.end c.loop-end.buffer ++ xs) (sym (pages_next c.args.image.now c.args.vector.now c.loop-end.page next found)) ∙ c.loop-end.invariant.bytes);
    }

pub returns-clause-bytes : goal.returns-clause-bytes
returns-clause-bytes c = full_laid c.loop-end.buffer _ _ c.loop-end.end (omega (arith, c.loop-end.invariant.inside, c.loop-end-test.false)) c.loop-end.invariant.room c.loop-end.invariant.bytes

pub put-requires : goal.put-requires
put-requires c = omega (arith, c.page_bytes.ensures.long, c.loop-end.invariant.room, c.loop-end.invariant.whole, c.loop-end.invariant.inside, c.loop-end-test.true)
