use Rattle.std.proofs.Common.{sym, ◌∙◌, ap}
use Rattle.store_model.specs.Machine.{is_open}
use Rattle.transactions.specs.Stores.{StoreView}
use Rattle.transactions.proofs.Stored.{closed_read}
use Rattle.store_model.specs.Machine.{trees_now}
use Rattle.transactions.proofs.Stored.{missed, unnamed_read}
use Rattle.transactions.proofs.store.Store.read.Goals as goal

pub returns-in_err-open : goal.returns-in_err-open
returns-in_err-open c =
    closed_read c.args.self.now.machine c.args.session c.in_err-open.field-0.0 c.from_residual.result
    (record { shut = ap (λ (v : StoreView). is_open v.machine c.args.session) (sym c.self.view_is) ∙ c.in_err-open.ensures.refused.0; named = c.in_err-open.ensures.refused.1 }) c.from_residual.ensures.1 c.args.hive c.args.path.now c.args.question

pub returns-in_err-check_named : goal.returns-in_err-check_named
returns-in_err-check_named c =
    unnamed_read c.args.self.now.machine c.args.session c.in_err-check_named.field-0.0 c.from_residual-in_err-check_named.result
    (ap (λ (v : StoreView). is_open v.machine c.args.session) (sym c.self.view_is) ∙ c.in_ok-open.ensures.ok) c.from_residual-in_err-check_named.ensures.1 c.args.hive c.args.path.now c.args.question c.in_err-check_named.ensures.refused

pub returns-in_err-found : goal.returns-in_err-found
returns-in_err-found c =
    missed c.args.self.now.machine c.args.session c.args.hive c.args.path.now c.args.question c.trees.result.now c.from_residual-in_err-found.result c.in_err-found.field-0.0
    (ap (λ (v : StoreView). is_open v.machine c.args.session) (sym c.self.view_is) ∙ c.in_ok-open.ensures.ok) c.in_ok-check_named.ensures.ok (c.trees.ensures ∙ c.self.invariant.0.trees ∙ ap (λ (v : StoreView). trees_now v.machine) c.self.view_is) c.in_err-found.ensures.refused c.from_residual-in_err-found.ensures.1
