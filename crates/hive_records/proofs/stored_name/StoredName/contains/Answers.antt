use Rattle.std.proofs.Common.{sym, arith}
use Rattle.hive_records.proofs.Units.{any_none}
use Rattle.hive_records.proofs.stored_name.StoredName.contains.Goals as goal

pub returns : goal.returns
returns c = sym (any_none _ _ (λ k below. c.loop-place.invariant k (omega (arith, c.len-place-end.ensures, below))))
