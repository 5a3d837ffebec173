use Rattle.std.proofs.Common.{◌≡◌, ◌/◌, length, ap, ◌∙◌, rules}
use Rattle.std.specs.Prelude.{replicate}
use Rattle.hive_cells.proofs.Walk.{walk_start, all_walked}
use Rattle.hive_cells.proofs.tiling.index_again.Goals as goal

pub loop-bin-init : goal.loop-bin-init
loop-bin-init c =
    let zeros : c.fill.new.self ≡ replicate (length c.args.starts.now) 0 = c.fill.ensures.after (search rules) in
    let starts : c.fill.new.self ≡ replicate (length c.args.bytes.now / 512) 0 = zeros ∙ ap (λ n. replicate n 0) c.requires.bits in
    rw (starts, c.clear.ensures) (walk_start c.args.bytes.now (length c.args.free.now) c.if-bytes-ne0.false c.requires.bounds c.requires.most)

pub returns : goal.returns
returns c = all_walked _ _ _ _ c.loop-bin.invariant c.loop-bin-test.false
