use Rattle.transactions.specs.CommitLogs.{commits_in}
use Rattle.std.proofs.Common.{sym, subst}
use Rattle.store_model.specs.Steps.{CommitsTx}
use Rattle.transactions.specs.Prepared.{IsReadyNothing}
use Rattle.transactions.specs.Stores.{StoreView, store_of}
use Rattle.transactions.proofs.Stored.{commits_nothing}
use Rattle.transactions.proofs.store.Store.commit_nothing.Goals as goal

pub returns-clause-step : goal.returns-clause-step
returns-clause-step c = λ moment.
    let ready = subst (λ (v : StoreView). IsReadyNothing v.machine c.args.session c.args.tx) (sym c.self.view_is) c.requires.ready in
    subst (λ (v : StoreView). CommitsTx v.machine c.args.session c.args.tx moment 0
    (store_of c.self.inside.opened.value c.self.inside.before c.self.inside.history.changes (commits_in c.self.inside.commits) c.self.inside.sessions c.commit.new.self c.self.inside.durable c.self.inside.room c.self.inside.faulted c.self.inside.bounds)) c.self.view_is
    (commits_nothing c.self.inside.opened.value c.self.inside.before c.self.inside.history.changes (commits_in c.self.inside.commits) c.self.inside.sessions c.self.inside.table c.commit.new.self c.self.inside.durable c.self.inside.room c.self.inside.faulted c.self.inside.bounds
    ready.free c.args.session moment c.args.tx ready.ops c.in-Ok.field-0.items ready.text_len ready.there ready.pending ready.none c.in-Ok.ensures.ok)
