use Rattle.std.proofs.Common.{sym, subst}
use Rattle.store_model.specs.Machine.{Machine}
use Rattle.store_model.specs.Steps.{Step}
use Rattle.store_model.specs.declared.event.Event.TheVariants as event
use Rattle.transactions.specs.Prepared.{IsReady}
use Rattle.transactions.proofs.store.Store.commit_accept.Goals as goal

pub accept-requires : goal.accept-requires
accept-requires c =
    let mid = c.make_commit.new.self in
    record { ready = (event.CommitAccept c.args.session c.args.tx c.args.moment, subst (λ (m : Machine). IsReady m mid.spare (event.CommitAccept c.args.session c.args.tx c.args.moment) c.in_ok-ready.ready) (sym c.make_commit.ensures.machine) c.in_ok-ready.ensures.made) }

pub returns-clause-step : goal.returns-clause-step
returns-clause-step c =
    let mid = c.make_commit.new.self in
    let wanted = event.CommitAccept c.args.session c.args.tx c.args.moment in
    subst (λ (m : Machine). Step m wanted c.accept.result c.accept.new.self.machine) c.make_commit.ensures.machine
    (c.accept.ensures.step wanted (subst (λ (m : Machine). IsReady m mid.spare wanted c.in_ok-ready.ready) (sym c.make_commit.ensures.machine) c.in_ok-ready.ensures.made))
