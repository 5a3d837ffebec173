use Rattle.std.proofs.Common.{◌≡◌, Some, sym, ◌∙◌, ap}
use Rattle.store_model.specs.Ends.{refusal_of}
use Rattle.store_model.specs.Machine.{is_open, unnamed_refusal}
use Rattle.store_model.specs.Transactions.{own, inactive_refusal}
use Rattle.transactions.specs.Stores.{StoreView}
use Rattle.transactions.proofs.Kept.{if_err, if_err_then}
use Rattle.transactions.proofs.Stored.{closed_call, inactive_call, unnamed_call}
use Rattle.transactions.proofs.store.Store.check_call.Goals as goal

pub returns-in_err-open-clause-refused : goal.returns-in_err-open-clause-refused
returns-in_err-open-clause-refused c =
    if_err c.from_residual.result c.in_err-open.field-0.0 _ c.from_residual.ensures.1
    (closed_call c.args.self.now.machine c.args.session c.args.tx c.args.hive c.in_err-open.field-0.0 (record { shut = ap (λ (v : StoreView). is_open v.machine c.args.session) (sym c.self.view_is) ∙ c.in_err-open.ensures.refused.0; named = c.in_err-open.ensures.refused.1 }))

pub returns-in_err-check_active-clause-refused : goal.returns-in_err-check_active-clause-refused
returns-in_err-check_active-clause-refused c =
    if_err c.from_residual-in_err-check_active.result (refusal_of c.in_err-check_active.field-0.0) _ c.from_residual-in_err-check_active.ensures.1
    (inactive_call c.args.self.now.machine c.args.session c.args.tx c.args.hive (refusal_of c.in_err-check_active.field-0.0) (ap (λ (v : StoreView). is_open v.machine c.args.session) (sym c.self.view_is) ∙ c.in_ok-open.ensures.ok)
    (ap (λ (v : StoreView). inactive_refusal (own v.machine.tx_slots c.args.session c.args.tx)) (sym c.self.view_is) ∙ c.in_err-check_active.ensures.refused))

pub returns-clause-refused : goal.returns-clause-refused
returns-clause-refused c =
    let m = c.args.self.now.machine in
    if_err_then c.check_named.result (λ why. unnamed_refusal m c.args.hive ≡ Some why) _
    (λ why e. unnamed_call m c.args.session c.args.tx c.args.hive why (ap (λ (v : StoreView). is_open v.machine c.args.session) (sym c.self.view_is) ∙ c.in_ok-open.ensures.ok)
    (ap (λ (v : StoreView). inactive_refusal (own v.machine.tx_slots c.args.session c.args.tx)) (sym c.self.view_is) ∙ c.in_ok-check_active.ensures.ok) e)
    c.check_named.ensures.refused
