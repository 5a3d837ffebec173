use Rattle.std.proofs.lemmas.List.{take_more}
use Rattle.std.proofs.Common.{◌+◌, ◌++◌, ◌∷◌, [], take, sym, ◌∙◌, ap}
use Rattle.transactions.proofs.Views.{carried_more}
use Rattle.transactions.proofs.view.carry_out.Goals as goal

pub loop-op-preserved : goal.loop-op-preserved
loop-op-preserved c =
    let ops = c.args.ops.now in
    let op = c.op-item.result in
    let written = rw c.in-Ok-Some.field-0-is at c.in-Ok-Some.ensures.ok in
    carried_more c.args.now.now (take c.loop-op.op-index ops) (take (c.loop-op.op-index + 1) ops) op c.args.moment c.loop-op.trees c.in-Ok-Some.made c.loop-op.invariant written.0 written.1
    (take_more ops c.loop-op.op-index op c.loop-op-test.true ∙ ap (λ x. take c.loop-op.op-index ops ++ x ∷ []) (sym c.op-item.is))
