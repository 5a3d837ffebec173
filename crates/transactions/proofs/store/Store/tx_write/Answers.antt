use Rattle.std.proofs.Common.{◌≡◌, Some, subst}
use Rattle.store_model.specs.Machine.{tx_call_refusal}
use Rattle.transactions.proofs.Stored.{uncalled_tx_write}
use Rattle.transactions.proofs.store.Store.tx_write.Goals as goal

pub returns-in_err-check_call-clause-step : goal.returns-in_err-check_call-clause-step
returns-in_err-check_call-clause-step c =
    uncalled_tx_write c.args.self.now.machine c.args.session c.args.tx c.in_err-check_call.field-0.0 c.from_residual.result c.from_residual.ensures.1 c.requires.free c.args.moment c.args.op
    (subst (λ hive. tx_call_refusal c.args.self.now.machine c.args.session c.args.tx hive ≡ Some c.in_err-check_call.field-0.0) c.hive.ensures c.in_err-check_call.ensures.refused)
