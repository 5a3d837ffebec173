use Rattle.std.proofs.Common.{subst, sym}
use Rattle.store_model.specs.declared.event.Event.TheVariants as event
use Rattle.registry_lines.specs.Heard.{HearsInside}
use Rattle.registry_lines.proofs.Hearing.{hears}
use Rattle.registry_lines.proofs.caller.Caller.reply_inside.Goals as goal

pub returns-in-Write : goal.returns-in-Write
returns-in-Write g c =
    let O = g.O.Origin in
    let old = c.args.session.now in
    let call = c.write-answer in
    subst (λ asked. HearsInside g.O.Start.sole g.O.Start.start O.trees O.number O.hives c.args.moment c.args.tx old asked c.reply_to.result call.new.session) (sym c.in-Write.is)
    (hears g.O.Start.sole g.O.Start.start O.trees O.number O.hives old call.new.session (event.TxWrite old.number c.args.tx c.args.moment c.in-Write.op) call.result c.reply_to.result c.reply_to.ensures call.ensures.seen call.ensures.number call.ensures.told call.ensures.denied)

pub returns-in-Read : goal.returns-in-Read
returns-in-Read g c =
    let O = g.O.Origin in
    let old = c.args.session.now in
    let call = c.look_up_transacted-answer in
    let asked = c.in-Read in
    subst (λ asked. HearsInside g.O.Start.sole g.O.Start.start O.trees O.number O.hives c.args.moment c.args.tx old asked c.reply_to-in-Read.result call.new.session) (sym c.in-Read.is)
    (hears g.O.Start.sole g.O.Start.start O.trees O.number O.hives old call.new.session (event.TxRead old.number c.args.tx asked.hive asked.path asked.question) call.result c.reply_to-in-Read.result c.reply_to-in-Read.ensures call.ensures.seen call.ensures.number call.ensures.told call.ensures.denied)
