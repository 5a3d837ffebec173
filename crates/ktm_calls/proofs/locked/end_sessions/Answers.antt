use Rattle.std.proofs.Common.{◌∙◌, ◌≤◌, ◌+◌, ℕ, List, arith, refl, subst, sym}
use Rattle.std.specs.List.{All}
use Rattle.store_model.specs.declared.event.Event.TheVariants as event
use Rattle.histories.specs.Points.{entry_of}
use Rattle.ktm_calls.proofs.Ends.{one_more_end}
use Rattle.ktm_calls.proofs.RoomMade.{goes_on_calm}
use Rattle.ktm_calls.proofs.OpenSessions.{ended, fewer, none_left, still_below, still_of}
use Rattle.ktm_calls.proofs.locked.end_sessions.Goals as goal

pub loop-number-preserved : goal.loop-number-preserved
loop-number-preserved g c =
    let old = (g.E.StoreEngine.state c.loop-number.engine).machine in
    let new = (g.E.StoreEngine.state c.put_event.new.engine).machine in
    let ends = event.EndSession c.loop-number.number in
    let reply = c.put_event.result in
    let step = c.put_event.ensures.step in
    let was = c.loop-number.invariant in
    record {
      owner = still_of g.O.Origin.trees g.O.Origin.number g.O.Origin.hives old new was.owner (c.openings_stay.ensures.opening old new ends reply refl step) (c.openings_stay.ensures.bounds old new ends reply step).0;
      below = still_below c.args.bound old new was.below ends reply tt step;
      list = c.others_accept_nothing.ensures old new ends reply refl refl step ∙ was.list;
      store = c.put_event.ensures.store ∙ was.store;
      book = c.put_event.ensures.book ∙ was.book;
      ends = one_more_end c.args.events.now.log c.loop-number.events.log c.put_event.new.events.log (entry_of ends reply (g.E.StoreEngine.state c.put_event.new.engine)) tt c.put_event.ensures.added was.ends;
      leads = c.put_event.ensures.leads;
      room = goes_on_calm g.O.Start.start c.loop-number.events.log c.put_event.new.events.log (entry_of ends reply (g.E.StoreEngine.state c.put_event.new.engine)) c.put_event.ensures.added was.room refl;
      from = subst (λ (l : List ℕ). All (λ s. c.loop-number.number + 1 ≤ s) l) (sym (ended old new c.loop-number.number reply step)) (fewer c.loop-number.number old.sessions was.from);
    }

pub returns-clause-ends : goal.returns-clause-ends
returns-clause-ends g c = c.loop-number.invariant.ends

pub returns-clause-sessions : goal.returns-clause-sessions
returns-clause-sessions g c =
    none_left c.args.bound c.loop-number.number (g.E.StoreEngine.state c.loop-number.engine).machine.sessions (grind (arith, c.loop-number-test.false)) c.loop-number.invariant.below c.loop-number.invariant.from
