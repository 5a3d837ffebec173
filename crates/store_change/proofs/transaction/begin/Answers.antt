use Rattle.store_change.proofs.Transacting.{begun}
use Rattle.store_change.proofs.transaction.begin.Goals as goal

pub returns-in-Begun-clause-begun : goal.returns-in-Begun-clause-begun
returns-in-Begun-clause-begun g c = λ moment. begun c.args.engine.now.machine c.ask.new.engine.machine _ c.in-Begun.tx moment c.requires.open c.in-Begun.ensures.step
