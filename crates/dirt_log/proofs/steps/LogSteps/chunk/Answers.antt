-- The first chunk begins with the head; a later one begins at the page with as many dirty pages
-- before it as the chunks before it have.
use Rattle.std.proofs.Common.{◌*◌, ◌-◌, ◌/◌, length, drop, ap, ◌∙◌, arith, refl}
use Rattle.dirt_log.specs.LogEncoding.{pages_at}
use Rattle.dirt_log.proofs.PageBytes.{chunk_count, first_chunk, skipped_pages, some_chunk, no_chunk}
use Rattle.dirt_log.proofs.steps.LogSteps.chunk.Goals as goal

pub returns-then-index-eq0-clause-bytes : goal.returns-then-index-eq0-clause-bytes
returns-then-index-eq0-clause-bytes c =
    let s = c.self.inside in
    first_chunk s.image.now s.vector.now s.sector c.args.self.now c.put_head.new.buffer c.put_pages.new.buffer c.args.index c.pages_start-head.result c.put_pages.result c.self.view_is c.if-index-eq0.true
    (c.pages_start-head.ensures ∙ ap pages_at c.bins_size.ensures.value) c.put_head.ensures c.put_pages.ensures.bytes

pub returns-then-index-eq0-clause-count : goal.returns-then-index-eq0-clause-count
returns-then-index-eq0-clause-count c =
    let s = c.self.inside in
    chunk_count c.put_pages.new.buffer (drop (65536 * c.args.index) c.args.self.now) c.put_pages.result (omega (arith, c.requires)) c.put_pages.ensures.within
    (first_chunk s.image.now s.vector.now s.sector c.args.self.now c.put_head.new.buffer c.put_pages.new.buffer c.args.index c.pages_start-head.result c.put_pages.result c.self.view_is c.if-index-eq0.true
    (c.pages_start-head.ensures ∙ ap pages_at c.bins_size.ensures.value) c.put_head.ensures c.put_pages.ensures.bytes)

pub returns-in-Some-clause-bytes : goal.returns-in-Some-clause-bytes
returns-in-Some-clause-bytes c =
    let s = c.self.inside in
    some_chunk s.image.now s.vector.now s.sector c.args.self.now c.put_pages-in-Some.new.buffer (65536 * c.args.index) ((65536 * c.args.index - c.pages_start-head.result) / 512) c.in-Some.page c.put_pages-in-Some.result
    c.self.view_is c.self.invariant.0 c.self.invariant.1
    (skipped_pages s.vector.now.bins_size c.args.index c.pages_start-head.result _ (omega (arith, c.bins_size.ensures.value, c.bins_size.ensures.most)) c.if-index-eq0.false (c.pages_start-head.ensures ∙ ap pages_at c.bins_size.ensures.value) refl)
    c.in-Some.ensures c.put_pages-in-Some.ensures.bytes

pub returns-in-Some-clause-count : goal.returns-in-Some-clause-count
returns-in-Some-clause-count c =
    let s = c.self.inside in
    chunk_count c.put_pages-in-Some.new.buffer (drop (65536 * c.args.index) c.args.self.now) c.put_pages-in-Some.result (omega (arith, c.requires)) c.put_pages-in-Some.ensures.within
    (some_chunk s.image.now s.vector.now s.sector c.args.self.now c.put_pages-in-Some.new.buffer (65536 * c.args.index) ((65536 * c.args.index - c.pages_start-head.result) / 512) c.in-Some.page c.put_pages-in-Some.result
    c.self.view_is c.self.invariant.0 c.self.invariant.1
    (skipped_pages s.vector.now.bins_size c.args.index c.pages_start-head.result _ (omega (arith, c.bins_size.ensures.value, c.bins_size.ensures.most)) c.if-index-eq0.false (c.pages_start-head.ensures ∙ ap pages_at c.bins_size.ensures.value) refl)
    c.in-Some.ensures c.put_pages-in-Some.ensures.bytes)

pub returns-in-None-clause-bytes : goal.returns-in-None-clause-bytes
returns-in-None-clause-bytes c =
    let s = c.self.inside in
    no_chunk s.image.now s.vector.now s.sector c.args.self.now (65536 * c.args.index) ((65536 * c.args.index - c.pages_start-head.result) / 512) c.self.view_is c.self.invariant.0 c.self.invariant.1
    (skipped_pages s.vector.now.bins_size c.args.index c.pages_start-head.result _ (omega (arith, c.bins_size.ensures.value, c.bins_size.ensures.most)) c.if-index-eq0.false (c.pages_start-head.ensures ∙ ap pages_at c.bins_size.ensures.value) refl)
    c.in-None.ensures

pub returns-in-None-clause-count : goal.returns-in-None-clause-count
returns-in-None-clause-count c =
    let s = c.self.inside in
    ap length (no_chunk s.image.now s.vector.now s.sector c.args.self.now (65536 * c.args.index) ((65536 * c.args.index - c.pages_start-head.result) / 512) c.self.view_is c.self.invariant.0 c.self.invariant.1
    (skipped_pages s.vector.now.bins_size c.args.index c.pages_start-head.result _ (omega (arith, c.bins_size.ensures.value, c.bins_size.ensures.most)) c.if-index-eq0.false (c.pages_start-head.ensures ∙ ap pages_at c.bins_size.ensures.value) refl)
    c.in-None.ensures)
