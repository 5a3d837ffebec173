use Rattle.engine.proofs.engine.Engine.run.Goals as goal

pub returns-clause-receipts : goal.returns-clause-receipts
returns-clause-receipts g c =
    let p = c.self.inside.parts in
    let n = c.run.new.self in
    (c.receipts_are_durable.ensures p.store.machine n.store.machine c.args.events.items c.in_ok-replies.replies.items c.self.invariant.sound.holds.kept.kept c.in_ok-replies.ensures.run).1
