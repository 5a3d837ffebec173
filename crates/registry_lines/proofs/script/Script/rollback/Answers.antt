use Rattle.std.proofs.Common.{refl}
use Rattle.store_model.specs.declared.event.Event.TheVariants as event
use Rattle.registry_lines.proofs.Hearing.{hears, labelled}
use Rattle.registry_lines.proofs.script.Script.rollback.Goals as goal

pub returns-clause-ok : goal.returns-clause-ok
returns-clause-ok g c =
    let O = g.O.Origin in
    let old = c.args.self.now.session in
    let call = c.rollback_transaction-answer in
    labelled _ c.in_ok-tx.tx _ _ _ _ c.in_ok-tx.ensures.ok
    (hears g.O.Start.sole g.O.Start.start O.trees O.number O.hives old call.new.session (event.Rollback old.number c.in_ok-tx.tx) call.result c.reply_to.result c.reply_to.ensures call.ensures.seen call.ensures.number call.ensures.told call.ensures.denied, refl)
