use Rattle.std.proofs.Common.{inl, inr}
use Rattle.reg_tree.proofs.Places.{applied_on, weighed_on, all_applied, none_weighed, weighed_here}
use Rattle.refusals.proofs.Refused.{handed_on}
use Rattle.reg_tree.proofs.trees.Trees.apply_within.Goals as goal

pub loop-op-preserved : goal.loop-op-preserved
loop-op-preserved c =
    let ops = c.args.ops.now in
    let made = c.loop-op.made in
    let next = c.apply_one_within.new.self in
    let told = c.in_ok-apply_one_within.ensures.ok in (
      applied_on ops c.loop-op.op-index c.op-item.result c.loop-op-test.true c.op-item.is c.args.self.now made next c.args.moment c.loop-op.invariant.0 told.1,
      weighed_on ops c.loop-op.op-index c.op-item.result c.loop-op-test.true c.op-item.is c.args.self.now made c.args.moment c.loop-op.invariant.1 next told.1 told.0,
    )

pub returns-clause-ok : goal.returns-clause-ok
returns-clause-ok c =
    let ops = c.args.ops.now in (
      none_weighed ops c.loop-op.op-index c.loop-op-test.false c.args.self.now c.loop-op.made c.args.moment c.loop-op.invariant.1,
      all_applied ops c.loop-op.op-index c.loop-op-test.false c.args.self.now c.loop-op.made c.args.moment c.loop-op.invariant.0,
    )

pub returns-in_err-apply_one_within-clause-refused : goal.returns-in_err-apply_one_within-clause-refused
returns-in_err-apply_one_within-clause-refused c =
    let why = c.in_err-apply_one_within.field-0.0 in
    handed_on c.from_residual-in_err-apply_one_within.result why _ c.from_residual-in_err-apply_one_within.ensures.1 (elim c.in_err-apply_one_within.ensures.refused [
      | inl told ↦ inl (weighed_here c.args.ops.now c.loop-op.op-index c.op-item.result c.loop-op-test.true c.op-item.is c.args.self.now c.loop-op.made c.args.moment c.loop-op.invariant.1 told.0, told.1)
      | inr memory ↦ inr memory
    ])
