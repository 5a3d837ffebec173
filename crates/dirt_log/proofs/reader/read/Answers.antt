use Rattle.std.proofs.Common.{◌*◌, ◌/◌, ℕ, length, drop, ap, ◌∙◌, arith, inl, inr}
use Rattle.std.proofs.lemmas.List.{length-take-le, length-drop}
use Rattle.std.proofs.lemmas.Result.{err_from_is_err_and}
use Rattle.base_block.specs.declared.block.BaseBlock.{BaseBlock}
use Rattle.dirty_vector.specs.Pages.{Pages}
use Rattle.dirt_log.proofs.Whole.{good_size, only_memory, marked_is, made_whole, has_pages, bytes_are}
use Rattle.dirt_log.proofs.PageBytes.{few_dirty}
use Rattle.dirt_log.proofs.reader.read.Goals as goal

pub read-requires : goal.read-requires
read-requires c =
    let bitmap = c.in_ok-bitmap.ensures.ok in
    ap length bitmap.1 ∙ length-take-le (c.in_ok-base.base.bins_size / 4096) (drop 516 c.args.bytes.now) (omega (arith, length-drop 516 c.args.bytes.now, bitmap.0.1))

pub returns-in_err-vector-clause-refused : goal.returns-in_err-vector-clause-refused
returns-in_err-vector-clause-refused c =
    let p = err_from_is_err_and c.from_residual-in_err-vector.result c.from_residual-in_err-vector.ensures.1 in
    let base = c.in_ok-base.ensures.ok in
    let memory = only_memory c.in_ok-base.base.bins_size c.in_ok-bitmap.bitmap.now c.in_err-vector.field-0.0 (good_size c.in_ok-base.base base.1.0) c.in_err-vector.ensures in
    rw (p.1, p.2) (inr memory)

pub overflow_mul-len : goal.overflow_mul-len
overflow_mul-len c =
    let base = c.in_ok-base.ensures.ok in
    let marked = marked_is c.args.bytes.now c.in_ok-bitmap.bitmap.now c.in_ok-base.base c.in_ok-vector.vector base.0 base.1 c.in_ok-bitmap.ensures.ok.1 c.in_ok-vector.ensures in
    omega (arith, few_dirty c.in_ok-vector.vector, c.count-len.ensures.pages, ap (λ (u : Pages). u.bins_size) marked, ap (λ (b : BaseBlock). b.bins_size) base.0, base.1.0.within)

pub returns-in_err-pages-clause-refused : goal.returns-in_err-pages-clause-refused
returns-in_err-pages-clause-refused c =
    let p = err_from_is_err_and c.from_residual-in_err-pages.result c.from_residual-in_err-pages.ensures.1 in
    let base = c.in_ok-base.ensures.ok in
    let marked = marked_is c.args.bytes.now c.in_ok-bitmap.bitmap.now c.in_ok-base.base c.in_ok-vector.vector base.0 base.1 c.in_ok-bitmap.ensures.ok.1 c.in_ok-vector.ensures in
    let refused = c.in_err-pages.ensures.refused in
    rw (p.1, p.2) (inl (refused.0, (λ whole. refused.1 (has_pages c.args.bytes.now c.in_ok-base.base c.in_ok-vector.vector c.pages_start.result _ base.0 marked c.pages_start.ensures (ap (λ (n : ℕ). 512 * n) c.count-len.ensures.pages) whole))))

pub returns-clause-whole : goal.returns-clause-whole
returns-clause-whole c =
    let base = c.in_ok-base.ensures.ok in
    let marked = marked_is c.args.bytes.now c.in_ok-bitmap.bitmap.now c.in_ok-base.base c.in_ok-vector.vector base.0 base.1 c.in_ok-bitmap.ensures.ok.1 c.in_ok-vector.ensures in
    made_whole c.args.bytes.now c.in_ok-base.base c.in_ok-vector.vector c.pages_start.result _ base.0 base.1 c.in_ok-bitmap.ensures.ok.0 marked c.pages_start.ensures (ap (λ (n : ℕ). 512 * n) c.count-len.ensures.pages) c.in_ok-pages.ensures.ok.0

pub returns-clause-marked : goal.returns-clause-marked
returns-clause-marked c =
    let base = c.in_ok-base.ensures.ok in
    marked_is c.args.bytes.now c.in_ok-bitmap.bitmap.now c.in_ok-base.base c.in_ok-vector.vector base.0 base.1 c.in_ok-bitmap.ensures.ok.1 c.in_ok-vector.ensures

pub returns-clause-pages : goal.returns-clause-pages
returns-clause-pages c =
    let base = c.in_ok-base.ensures.ok in
    let marked = marked_is c.args.bytes.now c.in_ok-bitmap.bitmap.now c.in_ok-base.base c.in_ok-vector.vector base.0 base.1 c.in_ok-bitmap.ensures.ok.1 c.in_ok-vector.ensures in
    c.in_ok-pages.ensures.ok.1 ∙ bytes_are c.args.bytes.now c.in_ok-base.base c.in_ok-vector.vector c.pages_start.result _ base.0 marked c.pages_start.ensures (ap (λ (n : ℕ). 512 * n) c.count-len.ensures.pages)
