use Rattle.std.proofs.Common.{ap, arith, length}
use Rattle.store_model.specs.Machine.{Machine, trees_now}
use Rattle.store_model.proofs.laws.folds_keep.Goals as goal

pub returns : goal.returns
returns c = λ old new number f. (
  ap trees_now f.next,
  omega (arith, ap (λ (m : Machine). m.before) f.next, ap (λ (m : Machine). length m.accepted) f.next),
  ap (λ (m : Machine). m.durable) f.next,
  ap (λ (m : Machine). m.sessions) f.next,
  ap (λ (m : Machine). m.tx_slots) f.next,
  ap (λ (m : Machine). m.begun) f.next,
  f.told,
  ap (λ (m : Machine). m.accepted) f.next,
)
