use Rattle.ktm_calls.proofs.Answering.{commit_stands, commit_stays}
use Rattle.ktm_calls.proofs.registry.Registry.commit.Goals as goal

pub returns-clause-stands : goal.returns-clause-stands
returns-clause-stands g c =
    let told = c.in_ok-answer.ensures.told in
    commit_stays g.O.Origin.number told.mid.list c.serve_durably.new.session.seen.list c.args.moment c.in_ok-answer.answer.1.reply told.later.more.list
    (commit_stands g.O.Origin.trees g.O.Origin.number g.O.Origin.hives c.args.session.now.seen.list told.mid.list _ c.args.tx c.args.moment c.in_ok-answer.answer.1.reply told.own.answered)
