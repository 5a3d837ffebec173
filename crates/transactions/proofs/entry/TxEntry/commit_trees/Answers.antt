use Rattle.std.proofs.Common.{◌≡◌, ℕ, Option, Some, ◌∙◌, subst}
use Rattle.conflicts.proofs.StaysLegal.{any_moment}
use Rattle.transactions.specs.Entries.{AreLight, AreKnown, IsMade, IsViewed, IsViewNow}
use Rattle.transactions.specs.declared.view.Known.TheVariants.{Light}
use Rattle.transactions.proofs.Views.{at_moment}
use Rattle.transactions.proofs.entry.TxEntry.commit_trees.Goals as goal

pub returns-in_ok-try_clone-in-Some-clause-ok : goal.returns-in_ok-try_clone-in-Some-clause-ok
returns-in_ok-try_clone-in-Some-clause-ok c =
    let ops = c.args.self.now.ops.items in
    let now = c.args.now.now in
    let view = c.in-Some.view in
    let viewed : IsViewed now c.args.number ops (Some view) = subst (IsViewed now c.args.number ops) c.in-Some.is c.requires in
    let is : IsViewNow now ops view = viewed.made c.if-view-number.true in
    let at : view.moment ≡ Some c.args.moment = at_moment view.moment c.args.moment c.if-eq.ensures in
    let known : AreKnown now ops view.moment Light = subst (AreKnown now ops view.moment) (c.is_light.ensures c.if-is_light.true) is.known in
    record {
      light = subst (AreLight now ops) at known.1;
      trees = c.in_ok-try_clone-in-Some.ensures ∙ subst (λ (m : Option ℕ). IsMade now ops m view.trees) at is.made;
      carried = λ _. any_moment now known.0.are ops 0 c.args.moment known.0.carried;
    }
