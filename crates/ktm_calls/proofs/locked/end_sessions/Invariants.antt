use Rattle.std.proofs.Common.{◌≡◌, List, ◌++◌}
use Rattle.histories.specs.Histories.{LeadsTo}
use Rattle.histories.specs.Asked.{EndSessions}
use Rattle.histories.specs.Points.{HistoryEntry}
use Rattle.ktm_calls.specs.Moments.{IsOf}
use Rattle.ktm_calls.specs.OpenSessions.{AreBelow}
use Rattle.ktm_calls.specs.Room.{MakesRoom}
use Rattle.ktm_calls.proofs.OpenSessions.{AreFrom}
use Rattle.ktm_calls.proofs.locked.end_sessions.Given as goal

abbrev pub invariant-loop-number : goal.invariant-loop-number
invariant-loop-number g l = record {
  owner : IsOf g.O.Origin.trees g.O.Origin.number g.O.Origin.hives (g.E.StoreEngine.state l.engine).machine;
  below : AreBelow l.bound (g.E.StoreEngine.state l.engine).machine;
  from : AreFrom l.number (g.E.StoreEngine.state l.engine).machine;
  list : (g.E.StoreEngine.state l.engine).machine.accepted ≡ (g.E.StoreEngine.state l.fn.engine).machine.accepted;
  store : g.E.StoreEngine.store l.engine ≡ g.E.StoreEngine.store l.fn.engine;
  book : l.events.book ≡ l.fn.events.book;
  ends : (ends : List HistoryEntry) × EndSessions ends × (l.events.log ≡ l.fn.events.log ++ ends);
  leads : LeadsTo g.O.Start.start g.O.Start.safe g.O.Start.faithful (g.E.StoreEngine.safe l.engine) (g.E.StoreEngine.faithful l.engine) l.events.log (g.E.StoreEngine.state l.engine);
  room : MakesRoom g.O.Start.start l.events.log;
}
