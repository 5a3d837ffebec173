use Rattle.std.proofs.Common.{◌∙◌, inr, subst, sym}
use Rattle.store_model.specs.declared.event.Event.TheVariants as event
use Rattle.ktm_calls.specs.Moments.{Sight}
use Rattle.registry_lines.specs.Heard.{IsHeard}
use Rattle.registry_lines.specs.Interpreters.{script_of}
use Rattle.registry_lines.proofs.Hearing.{heard_so}
use Rattle.registry_lines.proofs.Sessions.{ends_named}
use Rattle.registry_lines.proofs.script.Script.end.Goals as goal

pub returns-in-Some-clause-ok : goal.returns-in-Some-clause-ok
returns-in-Some-clause-ok g c =
    let O = g.O.Origin in
    let S = g.O.Start in
    let call = c.end_handle-answer in
    let ends = event.EndSession c.in-Some.handle in
    let heard = heard_so S.sole S.start O.trees O.number O.hives c.take.new.self.session call.new.session ends call.result c.reply_to.result c.reply_to.ensures call.ensures.told call.ensures.denied in
    inr (
      c.in-Some.handle,
      sym c.take.ensures.taken ∙ c.in-Some.is,
      subst (λ (s : Sight). IsHeard S.sole S.start O.trees O.number O.hives (record { number = 0; seen = s }) ends c.reply_to.result call.new.session) c.take.ensures.seen heard,
      ends_named (script_of c.args.self.now) (script_of c.take.new.self) call.new.session c.args.number c.in-Some.ensures.some call.ensures.number,
    )
