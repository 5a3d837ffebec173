use Rattle.std.proofs.Common.{◌≡◌, ◌++◌, ◌∷◌, [], rules}
use Rattle.engine_invariant.specs.Engines.{EngineView}
use Rattle.histories.specs.Points.{HistoryEntry, entry_of}
use Rattle.histories.proofs.Leading.{leads_with}
use Rattle.ktm_calls.proofs.holding.put_event.Goals as goal

pub returns-clause-leads : goal.returns-clause-leads
returns-clause-leads g c =
    let E = g.E.StoreEngine in
    let O = g.O.Start in
    let old = c.args.engine.now in
    let new = c.event-reply.new.self in
    let made = c.event-reply.ensures in
    let was : EngineView = E.state old in
    let is : EngineView = E.state new in
    let entry : HistoryEntry = entry_of c.args.event c.event-reply.result is in
    let added : c.note.new.events.log ≡ c.args.events.now.log ++ entry ∷ [] = search rules in
    rw added
    (leads_with O.start O.safe O.faithful (E.safe old) (E.safe new) (E.faithful old) (E.faithful new) c.args.events.now.log was entry made.answers made.backward made.past made.after c.requires.leads)
