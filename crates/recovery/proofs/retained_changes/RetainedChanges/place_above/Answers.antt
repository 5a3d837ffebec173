use Rattle.std.proofs.Common.{ℕ, List, leb, subst, sym, rules}
use Rattle.std.specs.List.Sorted.{IsNonDecreasing}
use Rattle.std.proofs.lemmas.List.Sorted.{IsPartitionPoint-from_clause, IsPartitionedBy-leb}
use Rattle.recovery.specs.Retained.{IsPlaceAbove}
use Rattle.recovery.proofs.NumberedChanges.{numbers_ascend}
use Rattle.recovery.proofs.retained_changes.RetainedChanges.place_above.Goals as goal

pub returns-clause-place : goal.returns-clause-place
returns-clause-place c = λ up.
    let s = c.args.self.now in
    let ascend = numbers_ascend s.numbers.items s.changes.items s.many up in
    subst (λ (l : List ℕ). IsPlaceAbove c.args.number l c.partition_point.result) c.deref.ensures.value
    (IsPartitionPoint-from_clause (λ n. leb n c.args.number) _ _ c.partition_point.ensures.partitioned
    (IsPartitionedBy-leb (λ n. n) _ c.args.number (subst IsNonDecreasing (sym c.deref.ensures.value) ascend)) (λ a r q k. search rules))
