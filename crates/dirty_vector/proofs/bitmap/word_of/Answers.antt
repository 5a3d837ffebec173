use Rattle.std.proofs.Common.{◌≡◌, arith, rules}
use Rattle.std.proofs.Math.Nat.{mod-eq_of_lt}
use Rattle.dirty_vector.proofs.Bytes.{shifted_fits}
use Rattle.dirty_vector.proofs.bitmap.word_of.Goals as goal

pub returns : goal.returns
returns c =
    let same : c.from.result ≡ c.args.byte = search rules in
    rw same (mod-eq_of_lt (shifted_fits c.args.byte c.args.index (omega (arith, c.ranges.byte.fits)) c.requires))
