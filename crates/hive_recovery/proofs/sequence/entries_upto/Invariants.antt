use Rattle.std.proofs.Common.{◌≡◌, ◌++◌, take, drop}
use Rattle.hive_recovery.specs.Limits.{upto}
use Rattle.hive_recovery.proofs.sequence.entries_upto.Given as goal

-- the entries so far, and what may be applied of those behind them
abbrev pub invariant-entries : goal.invariant-entries
invariant-entries l = take l.index l.entries ++ upto l.fn.most (drop l.index l.entries) ≡ upto l.fn.most l.entries
