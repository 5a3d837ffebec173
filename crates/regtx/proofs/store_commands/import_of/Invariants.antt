use Rattle.std.proofs.Common.{◌≡◌}
use Rattle.regtx.proofs.store_commands.import_of.Given as goal

-- the files so far were taken
abbrev pub invariant-loop-path : goal.invariant-loop-path
invariant-loop-path g l = l.import.count ≡ l.path-index
