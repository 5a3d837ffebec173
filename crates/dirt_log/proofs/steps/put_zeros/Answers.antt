use Rattle.std.proofs.Common.{◌≡◌, ◌-◌, ◌++◌, List, ℕ, length, take, drop, ap, ◌∙◌, arith}
use Rattle.std.proofs.Math.ListN.{replicate, length-replicate}
use Rattle.std.proofs.lemmas.List.{length-take-le, length-drop}
use Rattle.std.proofs.lemmas.Slice.{take-put_mid}
use Rattle.base_block.specs.Layout.{zeros}
use Rattle.dirt_log.proofs.steps.put_zeros.Goals as goal

pub returns : goal.returns
unfolding zeros
returns c =
    let buffer = c.args.buffer.now in
    let from = c.args.from in
    let n = c.args.to - c.args.from in
    let len : length (take n (drop from buffer)) ≡ n = length-take-le n (drop from buffer) (omega (arith, length-drop from buffer, c.requires.inside, c.requires.order)) in
    let filled : c.fill.new.self ≡ replicate n 0 = c.fill.ensures.after (λ y e. e) ∙ ap (λ (k : ℕ). replicate k 0) len in
    let size : length c.fill.new.self ≡ n = ap length filled ∙ length-replicate {A = ℕ} n 0 in
    take-put_mid from n buffer c.fill.new.self c.args.to (omega (arith, size, c.requires.order)) (omega (arith, c.requires.inside, c.requires.order)) ∙ ap (λ (xs : List ℕ). take from buffer ++ xs) filled
