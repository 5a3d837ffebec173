use Rattle.std.proofs.Common.{refl, subst}
use Rattle.std.specs.Prelude.{IfSome}
use Rattle.transactions.specs.Entries.{AreAfter}
use Rattle.transactions.proofs.Views.{fresh_carried}
use Rattle.transactions.proofs.view.View.make.Goals as goal

pub returns-in-Some : goal.returns-in-Some
returns-in-Some c =
    let now = c.args.now.now in
    let ops = c.args.ops.now in
    let known : AreAfter now ops c.args.moment c.in-Some.trees = subst (λ o. IfSome o (AreAfter now ops c.args.moment)) c.in-Some.is c.in_ok-trees.ensures in
    record {
      is = record { made = known.made; known = (fresh_carried now ops c.args.moment c.know_trees.ensures known.carried, known.light) };
      numbered = refl;
      trees = known.made;
    }
