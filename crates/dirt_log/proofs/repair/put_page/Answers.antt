use Rattle.std.proofs.Common.{◌/◌, ◌%◌, eqb, cond, ℕ, List, length, get_or, ap, ◌∙◌}
use Rattle.dirt_log.proofs.Replaced.{put_page_byte}
use Rattle.dirt_log.proofs.repair.put_page.Goals as goal

pub returns : goal.returns
returns c = λ i.
    let same = c.copy_from_slice.ensures.after in
    put_page_byte c.args.image.now c.copy_from_slice.new.self c.args.page i (ap length same ∙ c.requires.whole) c.requires.inside
    ∙ ap (λ (xs : List ℕ). cond (eqb (i / 512) c.args.page) (get_or xs (i % 512) 0) (get_or c.args.image.now i 0)) same
