use Rattle.std.proofs.Common.{◌≡◌, Some, subst}
use Rattle.std.specs.Prelude.{IfSome}
use Rattle.transactions.specs.Entries.{IsViewed}
use Rattle.transactions.proofs.Views.{moved_any}
use Rattle.transactions.proofs.entry.TxEntry.rebased.Goals as goal

pub returns-in-Some : goal.returns-in-Some
returns-in-Some c =
    let ops = c.args.self.now.ops.items in
    let now = c.args.now.now in
    let viewed : IsViewed now c.args.number ops (Some c.in-Some.view) = subst (IsViewed now c.args.number ops) c.in-Some.is c.requires.viewed in
    let numbered : c.in-Some.view.number ≡ c.args.number = subst (λ o. IfSome o (λ view. view.number ≡ c.args.number)) c.in-Some.is (c.may_rebase.ensures c.if-may_rebase.true) in
    moved_any now c.args.number c.args.moment ops c.args.change.now c.in-Some.view c.rebased_past.result (viewed.made numbered) c.requires.apart c.rebased_past.ensures
