use Rattle.std.proofs.Common.{◌≡◌, ◌/◌, List, ℕ, length, take, ap, ◌∙◌, arith, ◌++◌}
use Rattle.std.proofs.lemmas.Slice.{take-put_mid}
use Rattle.dirty_vector.specs.Pages.{is_dirty}
use Rattle.dirt_log.proofs.PageBytes.{length-bitmap}
use Rattle.dirt_log.proofs.steps.put_bitmap.Goals as goal

pub returns : goal.returns
returns c =
    let v = c.args.vector.now in
    let len : length c.write.new.bitmap ≡ v.bins_size / 4096 = ap length c.write.ensures ∙ length-bitmap (is_dirty v) (v.bins_size / 4096) in
    take-put_mid 516 _ c.args.buffer.now c.write.new.bitmap _ (omega (arith, len)) (omega (arith, c.requires)) ∙ ap (λ (b : List ℕ). take 516 c.args.buffer.now ++ b) c.write.ensures
