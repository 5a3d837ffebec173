use Rattle.std.proofs.Common.{inl, inr, refl}
use Rattle.store_model.specs.declared.event.Event.TheVariants as event
use Rattle.registry_lines.proofs.Hearing.{hears_denied}
use Rattle.registry_lines.proofs.script.Script.begin_as.Goals as goal

pub returns-in-Err-clause-ok : goal.returns-in-Err-clause-ok
returns-in-Err-clause-ok g c =
    let O = g.O.Origin in
    let old = c.args.self.now.session in
    inl (inr (record {
      hears = hears_denied g.O.Start.sole g.O.Start.start O.trees O.number O.hives old c.create_transaction.new.session (event.Begin old.number c.args.id) c.in-Err.denied c.denied_reply.result c.denied_reply.ensures c.create_transaction.ensures.seen c.create_transaction.ensures.number c.in-Err.ensures.denied;
      rest = refl;
      names = c.make_room.ensures.same;
    }))
