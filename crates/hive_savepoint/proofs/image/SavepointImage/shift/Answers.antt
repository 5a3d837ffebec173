use Rattle.hive_savepoint.proofs.image.SavepointImage.shift.Goals as goal

pub returns-clause-moved : goal.returns-clause-moved
returns-clause-moved c = rw (← c.self.view_is) c.shift.ensures.moved
