use Rattle.std.proofs.Common.{◌≡◌, ◌+◌, ◌++◌, map, drop, sym, subst}
use Rattle.reg_export.specs.Hives.{keys_of}
use Rattle.store_export.specs.Exports.{all_rows, with_prefix}
use Rattle.store_export.proofs.Hives.{keys_more}
use Rattle.store_export.proofs.trees.hive_keys.Goals as goal

pub loop-hive-preserved : goal.loop-hive-preserved
loop-hive-preserved c =
    let prefixes = c.args.request.now.prefixes.now in
    let trees = c.args.trees.now in
    let hive = c.loop-hive.hive in
    subst (λ made. map keys_of made ++ map (with_prefix prefixes) (all_rows (hive + 1) (drop (hive + 1) trees)) ≡ map (with_prefix prefixes) (all_rows 0 trees)) (sym c.in_ok-push.ensures.items)
    (keys_more prefixes trees hive c.loop-hive.hives.items (record { prefix = c.prefix-prefix.result; tree = c.in-Some.tree }) _ (sym c.in-Some.ensures) c.prefix-prefix.ensures c.loop-hive.invariant)
