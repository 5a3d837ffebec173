use Rattle.std.proofs.Common.{refl}
use Rattle.recovery.proofs.Counting.{some_left}
use Rattle.recovery.proofs.found.RecoveredStore.repaired.Goals as goal

pub returns-in-Some-clause-follows : goal.returns-in-Some-clause-follows
returns-in-Some-clause-follows c = λ e.
    let first = c.in-Some.ensures.some c.in-Some.field-0 refl in
    some_left c.args.self.now.hives.items c.in-Some.field-0 first.0 first.1
