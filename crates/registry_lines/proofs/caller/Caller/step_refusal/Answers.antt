use Rattle.std.proofs.Common.{inr, refl, subst}
use Rattle.registry_lines.specs.Scripts.{MayNotEnter}
use Rattle.registry_lines.proofs.caller.Caller.step_refusal.Goals as goal

pub returns-in-Err-Faulted-clause-may : goal.returns-in-Err-Faulted-clause-may
returns-in-Err-Faulted-clause-may g c =
    let O = g.O.Origin in
    inr (refl, subst (MayNotEnter g.O.Start.sole g.O.Start.start O.trees O.number O.hives c.args.session.now.seen c.check_not_faulted.new.session.seen) c.in-Err-Faulted.field-0-is c.in-Err-Faulted.ensures.refused)
