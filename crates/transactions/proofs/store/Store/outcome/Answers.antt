use Rattle.std.proofs.Common.{sym, ◌∙◌, ap}
use Rattle.store_model.specs.Machine.{is_open}
use Rattle.transactions.specs.Stores.{StoreView}
use Rattle.transactions.proofs.Stored.{closed_outcome}
use Rattle.transactions.proofs.store.Store.outcome.Goals as goal

pub returns-in_err-open : goal.returns-in_err-open
returns-in_err-open c =
    closed_outcome c.args.self.now.machine c.args.session c.in_err-open.field-0.0 c.from_residual.result
    (record { shut = ap (λ (v : StoreView). is_open v.machine c.args.session) (sym c.self.view_is) ∙ c.in_err-open.ensures.refused.0; named = c.in_err-open.ensures.refused.1 }) c.from_residual.ensures.1 c.requires.free c.args.tx
