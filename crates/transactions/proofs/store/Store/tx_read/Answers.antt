use Rattle.transactions.proofs.Stored.{uncalled_tx_read}
use Rattle.transactions.proofs.store.Store.tx_read.Goals as goal

pub returns-in_err-check_call-clause-step : goal.returns-in_err-check_call-clause-step
returns-in_err-check_call-clause-step c =
    uncalled_tx_read c.args.self.now.machine c.args.session c.args.tx c.in_err-check_call.field-0.0 c.from_residual.result c.from_residual.ensures.1 c.args.hive c.args.path.now c.args.question c.in_err-check_call.ensures.refused
