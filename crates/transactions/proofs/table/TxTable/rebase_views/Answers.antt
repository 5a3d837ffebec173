use Rattle.std.proofs.Common.{◌≡◌, ◌+◌, ◌++◌, ◌∷◌, [], arith, sym, ap, subst, length, length-append}
use Rattle.reg_tree.specs.Judgement.{applied}
use Rattle.transactions.specs.Entries.{AreRebased}
use Rattle.transactions.proofs.Views.{moved_more}
use Rattle.transactions.proofs.table.TxTable.rebase_views.Goals as goal

pub loop-slot-preserved : goal.loop-slot-preserved
loop-slot-preserved c =
    let before = c.loop-slot.rebased.items in
    let one = c.in_ok-rebased_at.field-0 in
    let now = applied c.args.self.now.trees c.args.change.now c.args.moment in
    let grown : c.push.new.self.items ≡ before ++ one ∷ [] = c.in_ok-push.ensures.items in (
      omega (arith, ap length grown, length-append before (one ∷ []), c.loop-slot.invariant.0),
      subst (AreRebased now (c.args.self.now.number + 1) c.args.self.now.tx_slots) (sym grown)
          (moved_more now (c.args.self.now.number + 1) c.args.self.now.tx_slots before one c.loop-slot.slot c.loop-slot.invariant.0 c.loop-slot.invariant.1 c.in_ok-rebased_at.ensures),
    )
