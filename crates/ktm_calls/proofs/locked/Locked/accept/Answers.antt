use Rattle.std.proofs.Common.{◌∙◌, subst, sym}
use Rattle.histories.specs.Points.{entry_of}
use Rattle.ktm_calls.specs.Held.{Held}
use Rattle.ktm_calls.specs.Room.{HasMadeRoom}
use Rattle.ktm_calls.proofs.Counting.{count_kept, counts_together}
use Rattle.ktm_calls.proofs.OpenSessions.{accepting_opens_none, still_below, still_of}
use Rattle.ktm_calls.proofs.RoomMade.{goes_on}
use Rattle.ktm_calls.proofs.locked.Locked.accept.Goals as goal

pub invariant_of-self-2 : goal.invariant_of-self-2
invariant_of-self-2 g c =
    let old = (g.E.StoreEngine.state c.self.inside.engine).machine in
    let new = (g.E.StoreEngine.state c.accept_event.new.engine).machine in
    let entry = entry_of c.args.event c.in_ok-reply.reply (g.E.StoreEngine.state c.accept_event.new.engine) in
    let stay = c.openings_stay.ensures.opening old new c.args.event c.in_ok-reply.reply c.requires.no_fold c.in_ok-reply.ensures.step in
    let bounds = c.openings_stay.ensures.bounds old new c.args.event c.in_ok-reply.reply c.in_ok-reply.ensures.step in
    record {
      book = c.accept_event.ensures.book ∙ c.self.invariant.book;
      store = c.accept_event.ensures.store ∙ c.self.invariant.store;
      leads = c.accept_event.ensures.leads;
      owner = still_of g.O.Origin.trees g.O.Origin.number g.O.Origin.hives old new c.self.invariant.owner stay bounds.0;
      sessions = still_below c.self.inside.session_bound old new c.self.invariant.sessions c.args.event c.in_ok-reply.reply (accepting_opens_none c.self.inside.session_bound c.args.event c.requires.accepts) c.in_ok-reply.ensures.step;
      bound = c.self.invariant.bound;
      list = c.in_ok-reply.ensures.list;
      asked = count_kept c.is_asked-is_asked.result c.self.inside.events.log c.accept_event.new.events.log entry c.self.inside.requests c.count.new.self c.args.permission.now c.count.new.permission c.is_asked-is_asked.ensures c.in_ok-reply.ensures.added c.count.ensures.counted c.count.ensures.unasked c.self.invariant.asked;
      room = goes_on g.O.Start.start c.self.inside.events.log c.accept_event.new.events.log entry c.in_ok-reply.ensures.added c.self.invariant.room (λ may. subst (λ (h : Held _). HasMadeRoom g.O.Start.start h.history) (sym c.self.view_is) c.requires.room);
    }

pub returns-clause-counts : goal.returns-clause-counts
returns-clause-counts g c =
    let entry = entry_of c.args.event c.in_ok-reply.reply (g.E.StoreEngine.state c.accept_event.new.engine) in
    rw (← c.self.view_is) (counts_together c.is_asked-is_asked.result c.self.inside.events.log c.accept_event.new.events.log entry c.self.inside.requests c.count.new.self c.args.permission.now c.count.new.permission c.is_asked-is_asked.ensures c.in_ok-reply.ensures.added c.count.ensures.counted c.count.ensures.unasked)
