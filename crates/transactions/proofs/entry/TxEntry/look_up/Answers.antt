use Rattle.std.proofs.Common.{◌≡◌, ◌⊎◌, Some, IfOk, IfErr, subst}
use Rattle.refusals.specs.declared.refusal.Refusal.TheVariants.{NoMemory}
use Rattle.reg_tree.specs.Judgement.{applied}
use Rattle.transactions.proofs.Views.{seen_at}
use Rattle.store_model.specs.Machine.{looked_up, read_refusal}
use Rattle.store_model.specs.Transactions.{view}
use Rattle.transactions.specs.Entries.{transaction_of, HasView}
use Rattle.transactions.proofs.Looks.{looked_alike}
use Rattle.transactions.proofs.entry.TxEntry.look_up.Goals as goal

-- what the view says is what the transaction sees
as_seen : (c : goal.After-look_up) → looked_up c.in-Some.view.trees c.args.hive c.args.path.now c.args.question ≡ looked_up (view c.args.now.now (transaction_of c.ensure_view.new.self)) c.args.hive c.args.path.now c.args.question
as_seen c =
    let e = c.ensure_view.new.self in
    let now = c.args.now.now in
    let seen : HasView now c.args.number e.ops.items (Some c.in-Some.view) = subst (HasView now c.args.number e.ops.items) c.in-Some.is c.in_ok-ensure_view-in_default.ensures.seen in
    looked_alike c.in-Some.view.trees (applied now e.ops.items e.moment) (seen_at now e.ops.items c.in-Some.view.moment c.in-Some.view.trees e.moment seen.1.made) c.args.hive c.args.path.now c.args.question c.in_default.not-InfoOf

pub returns-in-Some-clause-ok : goal.returns-in-Some-clause-ok
returns-in-Some-clause-ok c = subst (λ told. IfOk c.look_up.result (λ found. told ≡ Some found)) (as_seen c) c.look_up.ensures.ok

pub returns-in-Some-clause-refused : goal.returns-in-Some-clause-refused
returns-in-Some-clause-refused c = subst (λ told. IfErr c.look_up.result (λ refusal. (read_refusal told ≡ Some refusal) ⊎ (refusal ≡ NoMemory))) (as_seen c) c.look_up.ensures.refused
