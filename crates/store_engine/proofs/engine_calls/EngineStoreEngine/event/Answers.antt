use Rattle.store_engine.proofs.engine_calls.EngineStoreEngine.event.Goals as goal

pub returns-clause-before : goal.returns-clause-before
returns-clause-before g c = rw c.event.ensures.store c.event.ensures.before

pub returns-clause-after : goal.returns-clause-after
returns-clause-after g c = rw c.event.ensures.store c.event.ensures.after

pub returns-clause-past : goal.returns-clause-past
returns-clause-past g c ok moment then le is =
    let was = g.D.Disk.state_at c.args.self.now.disk in
    let now = g.D.Disk.state_at c.event.new.self.disk in
    rw c.event.ensures.store (c.crashes_leave_prefixes.ensures.past c.args.self.now.store was now (g.D.Disk.clock c.args.self.now.disk) c.event.ensures.call.past moment then le is)
