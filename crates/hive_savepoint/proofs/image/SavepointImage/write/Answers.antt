use Rattle.hive_savepoint.proofs.image.SavepointImage.write.Goals as goal

pub returns-clause-written : goal.returns-clause-written
returns-clause-written c = rw (← c.self.view_is) c.write.ensures.written
