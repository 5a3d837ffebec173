use Rattle.std.proofs.Common.{◌≡◌, ◌≤◌, ℕ, ◌+◌, ◌-◌, ◌*◌, ◌/◌, length, take, drop, ◌∙◌, ap, subst, arith}
use Rattle.dirty_vector.specs.Pages.{dirty_count}
use Rattle.hive_page_logs.specs.PageLogs.{marked_by, pages_start}
use Rattle.hive_page_logs.proofs.Read.{pages_whole}
use Rattle.hive_page_logs.proofs.page_log.marked_pages.Goals as goal

pub returns-clause-read : goal.returns-clause-read
returns-clause-read c =
    let bytes = c.args.bytes.now in
    let block = c.args.block.now in
    let at = c.args.at in
    let size = block.bins_size in
    let marked = c.in_ok-vector.vector in
    let start_is : c.div_ceil.result * at ≡ pages_start at size = ap (λ (n : ℕ). n * at) c.div_ceil.ensures in
    let count_is : c.count.result ≡ dirty_count marked = c.count.ensures.pages in
    let part_is : (at + 4 + size / 4096) - (at + 4) ≡ size / 4096 = omega arith in
    let From : ℕ → Type 0 = λ start. start + 512 * c.count.result ≤ length bytes in
    let There : ℕ → Type 0 = λ n. pages_start at size + 512 * n ≤ length bytes in
    pages_whole bytes block at c.first_sector.result marked c.in-Some.pages.now c.if-bytes-end.false c.first_sector.ensures
    (c.in_ok-vector.ensures.marked ∙ ap (λ (n : ℕ). marked_by size (take n (drop (at + 4) bytes))) part_is)
    (subst There count_is (subst From start_is c.in-Some.ensures.some.2))
    (c.in-Some.ensures.some.0 ∙ ap (λ (n : ℕ). take (512 * n) (drop (c.div_ceil.result * at) bytes)) count_is ∙ ap (λ (start : ℕ). take (512 * dirty_count marked) (drop start bytes)) start_is)
