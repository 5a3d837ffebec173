use Rattle.store_change.proofs.Transacting.{in_added, not_opened}
use Rattle.store_change.proofs.transaction.add.Goals as goal

pub returns-in-Added-clause-added : goal.returns-in-Added-clause-added
returns-in-Added-clause-added g c = λ first id ops has is_legal.
    in_added first c.args.engine.now.machine c.ask.new.engine.machine id c.args.tx c.args.moment ops c.args.op _ has c.in-Added.ensures.step.1

pub returns-in-Opened-clause-added : goal.returns-in-Opened-clause-added
returns-in-Opened-clause-added g c = λ first id ops has is_legal.
    absurd (not_opened first c.args.engine.now.machine id c.args.tx c.args.moment ops c.args.op has is_legal c.in-Opened.ensures.step.1)
