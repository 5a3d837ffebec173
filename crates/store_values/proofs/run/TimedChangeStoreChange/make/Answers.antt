use Rattle.store_values.proofs.Ended.{all_or_nothing}
use Rattle.store_values.proofs.run.TimedChangeStoreChange.make.Goals as goal

pub returns-clause-all : goal.returns-clause-all
returns-clause-all g c = all_or_nothing c.args.self.moment c.args.self.change c.args.engine.now.machine c.make.new.engine.machine c.make.result c.make.ensures.ends
