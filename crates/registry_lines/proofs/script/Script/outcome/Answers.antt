use Rattle.std.proofs.Common.{refl}
use Rattle.store_model.specs.declared.event.Event.TheVariants as event
use Rattle.registry_lines.proofs.Hearing.{hears_denied, labelled}
use Rattle.registry_lines.proofs.script.Script.outcome.Goals as goal

pub returns-in-Err-clause-ok : goal.returns-in-Err-clause-ok
returns-in-Err-clause-ok g c =
    let O = g.O.Origin in
    let old = c.args.self.now.session in
    labelled _ c.in_ok-tx.tx _ _ _ _ c.in_ok-tx.ensures.ok
    (hears_denied g.O.Start.sole g.O.Start.start O.trees O.number O.hives old c.outcome.new.session (event.Outcome old.number c.in_ok-tx.tx) c.in-Err.denied c.denied_reply.result c.denied_reply.ensures c.outcome.ensures.seen c.outcome.ensures.number c.in-Err.ensures.denied, refl)
