use Rattle.std.proofs.Common.{sym, ◌∙◌, ap}
use Rattle.store_model.specs.Machine.{is_open}
use Rattle.transactions.specs.Stores.{StoreView}
use Rattle.transactions.proofs.Stored.{closed_end}
use Rattle.transactions.proofs.store.Store.end_session.Goals as goal

pub returns-in_err-open-clause-step : goal.returns-in_err-open-clause-step
returns-in_err-open-clause-step c =
    closed_end c.args.self.now.machine c.args.session c.in_err-open.field-0.0 c.from_residual.result
    (record { shut = ap (λ (v : StoreView). is_open v.machine c.args.session) (sym c.self.view_is) ∙ c.in_err-open.ensures.refused.0; named = c.in_err-open.ensures.refused.1 }) c.from_residual.ensures.1
