use Rattle.std.proofs.Common.{rules}
use Rattle.std.specs.Ordering.{is_lt}
use Rattle.std.proofs.lemmas.List.Sorted.{answers_always}
use Rattle.std.proofs.lemmas.List.MinMax.{ranks_by}
use Rattle.reg_names.specs.Names.{folded}
use Rattle.reg_tree_parts.specs.Orders.{name_order}
use Rattle.reg_tree_parts.proofs.Keys.{names_total}
use Rattle.hive_walk.specs.declared.siblings.Sibling.{Sibling}
use Rattle.hive_walk.proofs.Order.{moved_rises}
use Rattle.hive_walk.proofs.siblings.sort.Goals as goal

pub returns-clause-sorted : goal.returns-clause-sorted
returns-clause-sorted c = λ o.
    moved_rises c.args.siblings.now c.sort_unstable_by.new.self c.sort_unstable_by.ensures.permutation o
    (λ k d z lt. c.sort_unstable_by.ensures.sorted (λ (a b : Sibling). is_lt (name_order (folded a.name) (folded b.name))) (ranks_by names_total (λ (a : Sibling). folded a.name)) (answers_always _ _ _ (λ f a r g h. search rules)) k d z lt)
