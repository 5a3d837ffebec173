use Rattle.hive_savepoint.proofs.log.UndoLog.has.Goals as goal

pub returns : goal.returns
returns c = rw (c.is_marked.ensures, c.deref.ensures.value, ← c.self.view_is) (c.self.invariant.marked c.args.page)
