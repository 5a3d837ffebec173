use Rattle.std.proofs.Common.{rules}
use Rattle.std.proofs.lemmas.Result.{IfErr-weaker, IfOk-weaker}
use Rattle.ktm_calls.specs.WholeTransactions.{IsWhole}
use Rattle.ktm_calls.proofs.registry.Registry.transact.Goals as goal

pub returns-in-Ok-clause-committed : goal.returns-in-Ok-clause-committed
returns-in-Ok-clause-committed g c =
    let whole : IsWhole g.O.Start.sole g.O.Start.start g.O.Origin.trees g.O.Origin.number g.O.Origin.hives c.args.session.now.number c.args.id c.args.moment c.args.ops.items c.args.session.now.seen c.transact-answer.new.mine c.in-Ok.accept.told c.in-Ok.accept.handle = search rules in
    IfOk-weaker c.wait_whole.result _ _ (λ made commits. commits c.args.session.now.number c.args.moment c.args.id c.args.ops.items c.args.session.now.seen whole) c.wait_whole.ensures.committed

pub returns-in-Ok-clause-denied : goal.returns-in-Ok-clause-denied
returns-in-Ok-clause-denied g c =
    let whole : IsWhole g.O.Start.sole g.O.Start.start g.O.Origin.trees g.O.Origin.number g.O.Origin.hives c.args.session.now.number c.args.id c.args.moment c.args.ops.items c.args.session.now.seen c.transact-answer.new.mine c.in-Ok.accept.told c.in-Ok.accept.handle = search rules in
    IfErr-weaker c.wait_whole.result _ _ (λ why denies. denies c.args.session.now.number c.args.moment c.args.id c.args.ops.items c.args.session.now.seen whole) c.wait_whole.ensures.denied
