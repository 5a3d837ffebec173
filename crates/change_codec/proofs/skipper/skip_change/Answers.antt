use Rattle.std.proofs.Common.{arith}
use Rattle.change_codec.specs.Encoding.{made}
use Rattle.change_codec.proofs.Skipped.{whole_read}
use Rattle.change_codec.proofs.skipper.skip_change.Goals as goal

pub returns-then-len-rest : goal.returns-then-len-rest
returns-then-len-rest c =
    let got = c.in_ok-len in
    let f = got.ensures in
    (made (got.len, (f.0, f.1)), whole_read c.args.hives c.args.bytes.now got.len f.0 f.1 got.rest.now f.2 (omega (arith, f.3, c.if-count-gt0.true)) (omega (arith, c.if-len-rest.true)))
