-- The sum goes after the fields; the sector so written reads as the block.
use Rattle.std.proofs.Common.{◌≡◌, refl, ap, ◌∙◌, subst, ℕ, ◌<◌, ◌^◌}
use Rattle.base_block.specs.Sums.{sum_of}
use Rattle.base_block.specs.Layout.{zeros, block_at, body_of}
use Rattle.base_block.proofs.Sectors.{written, read_again, sum_front}
use Rattle.base_block.proofs.block.BaseBlock.write.Goals as goal

pub put_fields-requires : goal.put_fields-requires
unfolding zeros
put_fields-requires c = refl

pub returns-clause-encoding : goal.returns-clause-encoding
returns-clause-encoding c =
    written c.args.self.now c.put_fields.new.sector c.put_u32.new.sector c.sum_of_prefix-sum.result c.put_fields.ensures.long c.put_fields.ensures.put c.sum_of_prefix-sum.ensures c.put_u32.ensures.put

pub returns-clause-again : goal.returns-clause-again
returns-clause-again c =
    let encoding = written c.args.self.now c.put_fields.new.sector c.put_u32.new.sector c.sum_of_prefix-sum.result c.put_fields.ensures.long c.put_fields.ensures.put c.sum_of_prefix-sum.ensures c.put_u32.ensures.put in
    let sum : c.sum_of_prefix-sum.result ≡ sum_of (body_of c.args.self.now) = c.sum_of_prefix-sum.ensures ∙ ap sum_of c.put_fields.ensures.put ∙ sum_front (body_of c.args.self.now) (zeros 4) c.put_fields.ensures.long in
    ap block_at encoding ∙ read_again c.args.self.now c.put_fields.ensures.fits c.put_fields.ensures.long (subst (λ (n : ℕ). n < 2 ^ 32) sum c.put_u32.ensures.fits)
