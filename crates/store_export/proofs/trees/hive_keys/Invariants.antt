use Rattle.std.proofs.Common.{◌≡◌, ◌++◌, map, drop}
use Rattle.reg_export.specs.Hives.{keys_of}
use Rattle.store_export.specs.Exports.{all_rows, with_prefix}
use Rattle.store_export.proofs.trees.hive_keys.Given as goal

-- with the hives from here on it is all hives
abbrev pub invariant-loop-hive : goal.invariant-loop-hive
invariant-loop-hive l =
    map keys_of l.hives.items ++ map (with_prefix l.request.prefixes.now) (all_rows l.hive (drop l.hive l.trees)) ≡ map (with_prefix l.request.prefixes.now) (all_rows 0 l.trees)
