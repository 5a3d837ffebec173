use Rattle.std.proofs.Common.{◌≡◌, ◌+◌, ◌-◌, ◌/◌, ℕ, take, drop, ap, sym, arith}
use Rattle.std.proofs.lemmas.Bool.{not-false}
use Rattle.std.proofs.lemmas.Slice.Eq.{bytes_eq-Decides}
use Rattle.dirt_log.proofs.reader.read_bitmap.Goals as goal

pub returns-clause-ok : goal.returns-clause-ok
returns-clause-ok c =
    let bytes = c.args.bytes.now in
    let n : 516 + c.args.bins_size / 4096 - 516 ≡ c.args.bins_size / 4096 = omega arith in
    (((bytes_eq-Decides _ _).0 (not-false _ (sym c.if-ne.ensures)), omega (arith, c.if-bytes-end.false)), ap (λ (k : ℕ). take k (drop 516 bytes)) n)
