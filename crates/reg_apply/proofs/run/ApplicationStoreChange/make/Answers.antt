use Rattle.reg_apply.proofs.Once.{all_for}
use Rattle.reg_apply.proofs.run.ApplicationStoreChange.make.Goals as goal

pub returns-clause-all : goal.returns-clause-all
returns-clause-all g c =
    let request = c.args.self.request.now in
    all_for request.unit request.prefixes.now request.moment c.args.self.file c.args.engine.now.machine c.change.new.engine.machine c.change.result c.change.ensures.ends
