use Rattle.hive_savepoint.proofs.Logs.{Saving}
use Rattle.hive_savepoint.proofs.log.UndoLog.save.Given as goal

abbrev pub invariant-loop-page : goal.invariant-loop-page
invariant-loop-page l = Saving l.bytes l.fn.self l.self l.limit l.from l.page
