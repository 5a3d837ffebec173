use Rattle.std.proofs.Common.{◌≡◌, ◌+◌, ◌-◌, ◌*◌, ℕ, length, take, drop, ap, ◌∙◌, arith}
use Rattle.dirt_log.proofs.PageBytes.{length_page}
use Rattle.dirt_log.proofs.pages.page_bytes.Goals as goal

pub returns-clause-value : goal.returns-clause-value
returns-clause-value c =
    let e : 512 * (c.args.page + 1) - 512 * c.args.page ≡ 512 = omega arith in
    ap (λ (n : ℕ). take n (drop (512 * c.args.page) c.args.image.now)) e

pub returns-clause-long : goal.returns-clause-long
returns-clause-long c =
    let e : 512 * (c.args.page + 1) - 512 * c.args.page ≡ 512 = omega arith in
    ap (λ (n : ℕ). length (take n (drop (512 * c.args.page) c.args.image.now))) e ∙ length_page c.args.image.now c.args.page c.requires
