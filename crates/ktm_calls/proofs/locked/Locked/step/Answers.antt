use Rattle.std.proofs.Common.{◌∙◌, ap, refl}
use Rattle.refusals.specs.declared.refusal.Refusal.TheVariants.{NoMemory}
use Rattle.store_model.specs.declared.event.Reply.TheVariants.{Refused}
use Rattle.histories.specs.Points.{entry_of}
use Rattle.ktm_calls.specs.Held.{Held}
use Rattle.ktm_calls.proofs.RoomMade.{work_is_calm}
use Rattle.ktm_calls.proofs.Seen.{says_if_refused}
use Rattle.ktm_calls.proofs.Working.{work_fails, work_kind}
use Rattle.ktm_calls.proofs.locked.Locked.step.Goals as goal

pub returns-clause-made : goal.returns-clause-made
returns-clause-made g c =
    let old = (g.E.StoreEngine.state c.args.self.now.engine).machine in
    let new = (g.E.StoreEngine.state c.hold.new.self.engine).machine in (
      rw c.in_ok-told.ensures.kind (work_kind old c.args.event c.requires.work),
      work_fails old new c.args.event c.in_ok-told.told.reply c.requires.work c.in_ok-told.ensures.step c.in_ok-told.ensures.fed,
    )

pub returns-clause-refused : goal.returns-clause-refused
returns-clause-refused g c = λ why is. record {
  past = c.args.self.now.history;
  step = entry_of c.args.event c.in_ok-told.told.reply (g.E.StoreEngine.state c.hold.new.self.engine);
  there = ap (λ (h : Held _). h.history) c.note_flush.ensures.same ∙ c.in_ok-told.ensures.history;
  kind = work_kind (g.E.StoreEngine.state c.args.self.now.engine).machine c.args.event c.requires.work;
  why = why;
  refused = is;
}

pub returns-in_err-told-clause-lacked : goal.returns-in_err-told-clause-lacked
returns-in_err-told-clause-lacked g c = says_if_refused c.from_residual.result _ record {
  past = c.args.self.now.history;
  step = entry_of c.args.event (Refused NoMemory) (g.E.StoreEngine.state c.hold.new.self.engine);
  there = c.in_err-told.ensures.calm (work_is_calm (g.E.StoreEngine.state c.args.self.now.engine).machine c.args.event c.requires.work);
  kind = work_kind (g.E.StoreEngine.state c.args.self.now.engine).machine c.args.event c.requires.work;
  why = NoMemory;
  refused = refl;
}
