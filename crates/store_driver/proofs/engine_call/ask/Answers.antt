use Rattle.store_driver.proofs.Later.{later_by}
use Rattle.store_driver.proofs.engine_call.ask.Goals as goal

pub returns-clause-nears_durable : goal.returns-clause-nears_durable
returns-clause-nears_durable g c = c.event.ensures.answers.nears_durable

pub returns-clause-left : goal.returns-clause-left
returns-clause-left g c = λ not_journal not_trim. (c.event.ensures.answers.journal_stays not_journal not_trim).1

pub returns-clause-later : goal.returns-clause-later
returns-clause-later g c =
    let D = g.D.Disk in
    later_by D.faithful D.failures D.clock c.args.event c.event.result c.args.engine.now c.event.new.self c.event.ensures.answers c.event.ensures.store c.event.ensures.faithful
