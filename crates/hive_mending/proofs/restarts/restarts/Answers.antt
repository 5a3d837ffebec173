use Rattle.std.proofs.Common.{◌≡◌, ◌+◌, ◌-◌, ◌/◌, ◌∙◌, rules}
use Rattle.std.specs.Prelude.{replicate}
use Rattle.hive_mending.proofs.Steps.{restarts_start}
use Rattle.hive_mending.proofs.restarts.restarts.Goals as goal

pub fill-requires-clause-start : goal.fill-requires-clause-start
fill-requires-clause-start c =
    let counts : c.deref_mut.result.now ≡ replicate ((c.args.end - c.args.first) / 8 + 1) 0 = c.deref_mut.ensures.value ∙ c.in_ok-counts.ensures.items_if_clones_equal (search rules) in
    let next : c.deref_mut-2.result.now ≡ replicate ((c.args.end - c.args.first) / 8 + 1) c.args.end = c.deref_mut-2.ensures.value ∙ c.in_ok-next.ensures.items_if_clones_equal (search rules) in
    rw (counts, next) (restarts_start c.args.bytes.now c.args.end c.args.first c.requires.order c.requires.first c.requires.last)
