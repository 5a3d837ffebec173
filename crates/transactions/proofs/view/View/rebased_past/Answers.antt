use Rattle.std.proofs.lemmas.List.{take_more}
use Rattle.std.proofs.Common.{◌≡◌, ◌+◌, ◌++◌, ◌∷◌, [], take, arith, sym, ◌∙◌, ap, subst}
use Rattle.std.specs.Prelude.{IfSome}
use Rattle.reg_tree.specs.Judgement.{legal, applied_one, IsWritten}
use Rattle.transactions.specs.Entries.{IsRebasedBy}
use Rattle.transactions.proofs.Views.{carried_front, stays_more, trees_more}
use Rattle.transactions.proofs.view.View.rebased_past.Goals as goal
use Rattle.transactions.proofs.view.View.rebased_past.Goals.{then-change-gt1+in-Ok-Some, else-change-gt1}

pub loop-op-preserved : goal.loop-op-preserved
loop-op-preserved c =
    let now = c.args.now.now in
    let change = c.args.change.now in
    let front = take c.loop-op.op-index change in
    let done = take (c.loop-op.op-index + 1) change in
    let op = c.op-item.result in
    let moment = c.args.moment in
    let before = c.loop-op.invariant in
    let grown : done ≡ front ++ op ∷ [] = take_more change c.loop-op.op-index op c.loop-op-test.true ∙ ap (λ x. front ++ x ∷ []) (sym c.op-item.is) in
    let moves : IsRebasedBy c.loop-op.seen c.loop-op.trees op moment c.args.number c.in-Some.rebased = subst (λ o. IfSome o (IsRebasedBy c.loop-op.seen c.loop-op.trees op moment c.args.number)) c.in-Some.is c.in_ok-rebased.ensures in (
      stays_more (record { exact = c.either_order.ensures.exact; unwritten = c.either_order.ensures.unwritten; written = c.either_order.ensures.written; but_for_times = c.either_order.ensures.but_for_times }) c.stay_legal.ensures now c.loop-op.trees front done op moment c.args.number c.args.self.now c.loop-op.seen c.in-Some.rebased before.0
          (carried_front now change (c.loop-op.op-index + 1) moment c.requires) (before.2 c.loop-op-test.true) moves grown,
      moves.numbered,
      λ further. elim c.if-change-gt1.branch [
        | then-change-gt1+in-Ok-Some w ↦
            let written = subst (IsWritten (legal c.loop-op.trees op) (applied_one c.loop-op.trees op moment)) w.in-Ok-Some.field-0-is w.in-Ok-Some.ensures.ok in
            w.trees-is ∙ trees_more now c.loop-op.trees w.in-Ok-Some.made front done op moment (before.2 c.loop-op-test.true) written.1 grown
        | else-change-gt1 w ↦ absurd (omega (arith, further, w.if-change-gt1.false))
      ],
    )
