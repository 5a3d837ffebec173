use Rattle.std.proofs.Common.{List, sym, subst}
use Rattle.std.specs.List.Sorted.{IsPermutation}
use Rattle.hive_tree_model.specs.Lists.{Once}
use Rattle.hive_walk.specs.declared.siblings.Sibling.{Sibling}
use Rattle.hive_walk.specs.Siblings.{sibling_names}
use Rattle.hive_walk.proofs.Walked.{siblings_once}
use Rattle.hive_walk.proofs.walk.siblings_at.Goals as goal

pub returns-in-Ok : goal.returns-in-Ok
returns-in-Ok c = λ cells shows split levels keys sound e.
    let items = c.in-Ok.ensures cells shows split keys sound.fits e in (
      subst (λ (s : List Sibling). IsPermutation s c.in_order.result.items) items c.in_order.ensures.same,
      c.in_order.ensures.sorted (subst (λ (s : List Sibling). Once (sibling_names s)) (sym items) (siblings_once split cells keys sound.fits sound.named)),
    )
