use Rattle.std.proofs.Common.{◌∙◌, sym}
use Rattle.served_replies.proofs.Units.{found}
use Rattle.served_replies.proofs.changes.unit_of.Goals as goal

pub returns-then-from-named : goal.returns-then-from-named
returns-then-from-named c =
    let v = c.in-SetValue in
    found c.args.named c.args.ops.now c.loop-op.op-index c.op-item.result v.hive v.path v.name v.kind v.data c.loop-op.invariant c.loop-op-test.true c.op-item.is v.is (sym c.from.ensures ∙ c.if-from-named.true)
