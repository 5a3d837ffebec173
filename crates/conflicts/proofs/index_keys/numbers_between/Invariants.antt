use Rattle.std.proofs.Common.{◌≡◌, ◌++◌, map}
use Rattle.conflicts.specs.IndexKeys.{IndexKey, numbers_between}
use Rattle.conflicts.proofs.index_keys.numbers_between.Given as goal

abbrev pub invariant-loop-index_key : goal.invariant-loop-index_key
invariant-loop-index_key l = l.found.items ++ map (λ (s : IndexKey). s.1) l.index_key-iterator ≡ numbers_between l.from l.to l.index_keys.keys
