use Rattle.std.proofs.Common.{sym, subst}
use Rattle.store_model.specs.Steps.{Step}
use Rattle.store_model.specs.declared.event.Event.{Event}
use Rattle.transactions.specs.Prepared.{IsReady}
use Rattle.transactions.specs.declared.prepared.Ready.{Ready}
use Rattle.transactions.proofs.store.Store.accept.Goals as goal

pub returns-in-Nothing-clause-step : goal.returns-in-Nothing-clause-step
returns-in-Nothing-clause-step c = λ event told.
    let ready = subst (λ (r : Ready). IsReady c.args.self.now.machine c.args.self.now.spare event r) c.in-Nothing.is told in
    subst (λ (e : Event). Step c.args.self.now.machine e c.commit_nothing.result c.commit_nothing.new.self.machine) (sym ready.0.1) (c.commit_nothing.ensures.step ready.0.0)
