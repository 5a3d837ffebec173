use Rattle.std.proofs.Common.{◌≡◌, ◌++◌, map}
use Rattle.std.specs.List.{range_with_len}
use Rattle.reg_prefixes.specs.Words.{meaning_of, default_meaning}
use Rattle.reg_prefixes.proofs.prefixes.push_defaults.Given as goal

abbrev pub invariant-loop-hive : goal.invariant-loop-hive
invariant-loop-hive l = map meaning_of l.list.items ≡ map meaning_of l.fn.list.items ++ map default_meaning (range_with_len 0 l.hive)
