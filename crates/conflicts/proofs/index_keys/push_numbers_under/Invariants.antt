use Rattle.std.proofs.Common.{◌≡◌, ◌++◌, map}
use Rattle.conflicts.specs.IndexKeys.{numbers_under}
use Rattle.conflicts.proofs.index_keys.push_numbers_under.Given as goal

abbrev pub invariant-loop-listed : goal.invariant-loop-listed
invariant-loop-listed l = l.found.items ++ map (λ p. p.1) l.listed-iterator ≡ l.initial.found.items ++ numbers_under l.hash l.hashes.keys
