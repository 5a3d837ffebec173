use Rattle.std.proofs.Common.{◌≡◌, length, sym, ◌∙◌, arith}
use Rattle.std.specs.FinMap.{nat_cmp-IsAntisymmetric}
use Rattle.hive_records.specs.RecordReaders.{units_of}
use Rattle.hive_edit.proofs.Names.{fold_alike}
use Rattle.hive_edit.proofs.search.name_order.Goals as goal

pub returns : goal.returns
returns c = λ equal.
    let lengths : c.len-2.result ≡ length c.args.name.now = nat_cmp-IsAntisymmetric c.len-2.result (length c.args.name.now) (sym c.cmp.ensures ∙ equal) in
    fold_alike (units_of c.args.stored.now) c.args.name.now (sym c.len-2.ensures ∙ lengths)
    (λ k h. c.loop-place.invariant k (let m = c.min-len.ensures in let p = c.loop-place-test.false in let a = c.len.ensures in let b = c.len-2.ensures in let l = lengths in grind (arith, h, m, p, a, b, l)))
