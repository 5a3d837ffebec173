use Rattle.store_model.specs.declared.event.Event.TheVariants as event
use Rattle.registry_lines.proofs.caller.Caller.first_session.Goals as goal

pub returns-in-Err-clause-refused : goal.returns-in-Err-clause-refused
returns-in-Err-clause-refused g c =
    let O = g.O.Origin in
    let d = c.in-Err.ensures.denied.1 in
    c.refusal_of.ensures g.O.Start.sole g.O.Start.start O.trees O.number O.hives c.args.asker c.in-Err.asker (event.StartSession d.0) tt d.1
