use Rattle.std.proofs.Common.{arith, rules}
use Rattle.dirt_log.proofs.PageBytes.{few_dirty}
use Rattle.dirt_log.proofs.Replaced.{count_next, replaced_none, replaced_more, replaced_all}
use Rattle.dirt_log.proofs.repair.put_logged.Goals as goal

pub page_bytes-requires : goal.page_bytes-requires
page_bytes-requires c = omega (arith, (count_next c.args.vector.now c.pages.page c.in-Some.next c.in-Some.ensures).2, c.pages.invariant.index, c.requires.enough)

pub overflow_add-index : goal.overflow_add-index
overflow_add-index c = omega (arith, (count_next c.args.vector.now c.pages.page c.in-Some.next c.in-Some.ensures).2, c.pages.invariant.index, few_dirty c.args.vector.now, c.in-Some.ensures.1, c.pages.invariant.size)

pub pages-init : goal.pages-init
pages-init c = record { size = c.requires.sizes; index = search rules; bytes = replaced_none c.args.image.now c.args.vector.now c.args.pages.now }

pub pages-preserved : goal.pages-preserved
pages-preserved c =
    let v = c.args.vector.now in
    let next = c.in-Some.next in
    let counts = count_next v c.pages.page next c.in-Some.ensures in
    record {
      size = omega (arith, c.pages.invariant.size);
      index = omega (arith, counts.1, c.pages.invariant.index);
      bytes = replaced_more c.args.image.now v c.args.pages.now c.pages.image c.put_page.new.image c.page_bytes.result.now c.pages.page next c.pages.index c.in-Some.ensures c.pages.invariant.index c.page_bytes.ensures.value c.put_page.ensures c.pages.invariant.bytes;
    }

pub returns-in-None : goal.returns-in-None
returns-in-None c = replaced_all c.args.image.now c.args.vector.now c.args.pages.now c.pages.image c.pages.page c.pages.invariant.size c.in-None.ensures c.pages.invariant.bytes
