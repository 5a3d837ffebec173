use Rattle.std.proofs.Common.{◌∙◌, sym}
use Rattle.histories.specs.Points.{entry_of}
use Rattle.ktm_calls.proofs.Counting.{count_kept, counts_together}
use Rattle.ktm_calls.proofs.OpenSessions.{below_more, still_below, still_of}
use Rattle.ktm_calls.proofs.RoomMade.{goes_on_calm}
use Rattle.ktm_calls.proofs.locked.Locked.make.Goals as goal

pub invariant_of-self : goal.invariant_of-self
invariant_of-self g c =
    let old = (g.E.StoreEngine.state c.self.inside.engine).machine in
    let new = (g.E.StoreEngine.state c.put_event-reply.new.engine).machine in
    let step = c.put_event-reply.ensures.step in
    let entry = entry_of c.args.event c.put_event-reply.result (g.E.StoreEngine.state c.put_event-reply.new.engine) in
    let stay = c.openings_stay.ensures.opening old new c.args.event c.put_event-reply.result c.requires.no_fold step in
    let bounds = c.openings_stay.ensures.bounds old new c.args.event c.put_event-reply.result step in
    record {
      book = c.put_event-reply.ensures.book ∙ c.self.invariant.book;
      store = c.put_event-reply.ensures.store ∙ c.self.invariant.store;
      leads = c.put_event-reply.ensures.leads;
      owner = still_of g.O.Origin.trees g.O.Origin.number g.O.Origin.hives old new c.self.invariant.owner stay bounds.0;
      sessions = still_below c.bound_with-self-inside.result old new (below_more c.self.inside.session_bound c.bound_with-self-inside.result old c.bound_with-self-inside.ensures.above c.self.invariant.sessions) c.args.event c.put_event-reply.result c.bound_with-self-inside.ensures.opens step;
      bound = c.bound_with-self-inside.ensures.most;
      list = c.self.invariant.list ∙ sym (c.others_accept_nothing.ensures old new c.args.event c.put_event-reply.result c.requires.calm c.requires.no_fold step);
      asked = count_kept c.is_asked-is_asked.result c.self.inside.events.log c.put_event-reply.new.events.log entry c.self.inside.requests c.count.new.self c.args.permission.now c.count.new.permission c.is_asked-is_asked.ensures c.put_event-reply.ensures.added c.count.ensures.counted c.count.ensures.unasked c.self.invariant.asked;
      room = goes_on_calm g.O.Start.start c.self.inside.events.log c.put_event-reply.new.events.log entry c.put_event-reply.ensures.added c.self.invariant.room c.requires.calm;
    }

pub invariant_of-self-2 : goal.invariant_of-self-2
invariant_of-self-2 g c =
    let old = (g.E.StoreEngine.state c.self.inside.engine).machine in
    let new = (g.E.StoreEngine.state c.put_event-reply.new.engine).machine in
    let step = c.put_event-reply.ensures.step in
    let entry = entry_of c.args.event c.put_event-reply.result (g.E.StoreEngine.state c.put_event-reply.new.engine) in
    let stay = c.openings_stay.ensures.opening old new c.args.event c.put_event-reply.result c.requires.no_fold step in
    let bounds = c.openings_stay.ensures.bounds old new c.args.event c.put_event-reply.result step in
    record {
      book = c.put_event-reply.ensures.book ∙ c.self.invariant.book;
      store = c.put_event-reply.ensures.store ∙ c.self.invariant.store;
      leads = c.put_event-reply.ensures.leads;
      owner = still_of g.O.Origin.trees g.O.Origin.number g.O.Origin.hives old new c.self.invariant.owner stay bounds.0;
      sessions = still_below c.bound_with-self-inside.result old new (below_more c.self.inside.session_bound c.bound_with-self-inside.result old c.bound_with-self-inside.ensures.above c.self.invariant.sessions) c.args.event c.put_event-reply.result c.bound_with-self-inside.ensures.opens step;
      bound = c.bound_with-self-inside.ensures.most;
      list = c.self.invariant.list ∙ sym (c.others_accept_nothing.ensures old new c.args.event c.put_event-reply.result c.requires.calm c.requires.no_fold step);
      asked = count_kept c.is_asked-is_asked.result c.self.inside.events.log c.put_event-reply.new.events.log entry c.self.inside.requests c.count.new.self c.args.permission.now c.count.new.permission c.is_asked-is_asked.ensures c.put_event-reply.ensures.added c.count.ensures.counted c.count.ensures.unasked c.self.invariant.asked;
      room = goes_on_calm g.O.Start.start c.self.inside.events.log c.put_event-reply.new.events.log entry c.put_event-reply.ensures.added c.self.invariant.room c.requires.calm;
    }

pub returns-clause-counts : goal.returns-clause-counts
returns-clause-counts g c =
    let entry = entry_of c.args.event c.put_event-reply.result (g.E.StoreEngine.state c.put_event-reply.new.engine) in
    rw (← c.self.view_is) (counts_together c.is_asked-is_asked.result c.self.inside.events.log c.put_event-reply.new.events.log entry c.self.inside.requests c.count.new.self c.args.permission.now c.count.new.permission c.is_asked-is_asked.ensures c.put_event-reply.ensures.added c.count.ensures.counted c.count.ensures.unasked)

pub returns-in-Refused-NoMemory-clause-counts : goal.returns-in-Refused-NoMemory-clause-counts
returns-in-Refused-NoMemory-clause-counts g c =
    let entry = entry_of c.args.event c.put_event-reply.result (g.E.StoreEngine.state c.put_event-reply.new.engine) in
    rw (← c.self.view_is) (counts_together c.is_asked-is_asked.result c.self.inside.events.log c.put_event-reply.new.events.log entry c.self.inside.requests c.count.new.self c.args.permission.now c.count.new.permission c.is_asked-is_asked.ensures c.put_event-reply.ensures.added c.count.ensures.counted c.count.ensures.unasked)
