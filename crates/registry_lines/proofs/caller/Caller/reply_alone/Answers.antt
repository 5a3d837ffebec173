use Rattle.std.proofs.Common.{subst, sym}
use Rattle.store_model.specs.declared.event.Event.TheVariants as event
use Rattle.registry_lines.specs.Heard.{HearsAlone}
use Rattle.registry_lines.proofs.Hearing.{hears}
use Rattle.registry_lines.proofs.caller.Caller.reply_alone.Goals as goal

pub returns-in-Write : goal.returns-in-Write
returns-in-Write g c =
    let O = g.O.Origin in
    let old = c.args.session.now in
    let call = c.write-answer in
    subst (λ asked. HearsAlone g.O.Start.sole g.O.Start.start O.trees O.number O.hives c.args.moment old asked c.reply_to.result call.new.session) (sym c.in-Write.is)
    (hears g.O.Start.sole g.O.Start.start O.trees O.number O.hives old call.new.session (event.Write old.number c.args.moment c.in-Write.op) call.result c.reply_to.result c.reply_to.ensures call.ensures.seen call.ensures.number call.ensures.told call.ensures.denied)
