use Rattle.std.proofs.Common.{subst}
use Rattle.key_walk.specs.KeyRows.{tree_rows}
use Rattle.hive_check.specs.declared.key_counts.KeyCounts.{KeyCounts}
use Rattle.hive_check.specs.KeyCounts.{AddsKeys}
use Rattle.hive_check.proofs.Keys.{key_counts}
use Rattle.hive_check.proofs.finding.walked.Goals as goal

pub returns-in-Ok : goal.returns-in-Ok
returns-in-Ok c = λ file has counted.
    let took = c.in-Ok.ensures.took in
    let small = c.are_capped.ensures in
    let keys = c.walk_hive.new.sink in
    let all = subst (λ (none : KeyCounts). AddsKeys none keys (tree_rows took.0)) c.new-keys.ensures took.3 in
    (c.args.block.now, c.args.image.now.bytes, has, (counted, (took.0, took.1, took.2, key_counts took.0 keys small.keys small.values small.weight all)))
