use Rattle.std.proofs.Common.{take}
use Rattle.regtx_c.specs.Recoveries.{AreLogs}
use Rattle.regtx_c.proofs.recovery.logs_read.Given as goal

-- the logs so far are read
abbrev pub invariant-logs : goal.invariant-logs
invariant-logs l = AreLogs (take l.index l.logs) l.read.items
