use Rattle.std.proofs.Common.{rules}
use Rattle.hive_savepoint.proofs.Logs.{blank_log}
use Rattle.hive_savepoint.proofs.log.UndoLog.new.Goals as goal

pub invariant_of-result : goal.invariant_of-result
invariant_of-result c = blank_log _ _ _ (c.in_ok-marks.ensures.items_if_clones_equal (search rules)) c.new.ensures.items c.new-2.ensures.items
