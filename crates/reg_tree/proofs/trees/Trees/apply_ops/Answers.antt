use Rattle.reg_tree.proofs.Places.{applied_on, all_applied}
use Rattle.reg_tree.proofs.trees.Trees.apply_ops.Goals as goal

pub loop-op-preserved : goal.loop-op-preserved
loop-op-preserved c = applied_on c.args.ops.now c.loop-op.op-index c.op-item.result c.loop-op-test.true c.op-item.is c.args.self.now c.loop-op.made c.apply_one.new.self c.args.moment c.loop-op.invariant c.in_ok-apply_one.ensures

pub returns : goal.returns
returns c = all_applied c.args.ops.now c.loop-op.op-index c.loop-op-test.false c.args.self.now c.loop-op.made c.args.moment c.loop-op.invariant
