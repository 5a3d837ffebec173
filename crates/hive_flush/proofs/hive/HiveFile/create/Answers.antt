use Rattle.hive_flush.proofs.hive.HiveFile.create.Goals as goal

pub returns-clause-created : goal.returns-clause-created
returns-clause-created g c = λ faithful. c.in_ok-write.ensures.created faithful c.args.store c.args.tree.now 0 c.in_ok-image.ensures.image
