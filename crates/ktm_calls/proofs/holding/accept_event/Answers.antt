use Rattle.std.proofs.Common.{◌≡◌, ◌++◌, ◌∷◌, [], rules}
use Rattle.histories.specs.Histories.{Continues, LeadsTo}
use Rattle.engine_invariant.specs.Engines.{EngineView}
use Rattle.histories.specs.Points.{HistoryEntry, entry_of}
use Rattle.histories.proofs.Leading.{leads_still, leads_with}
use Rattle.ktm_calls.proofs.holding.accept_event.Goals as goal

pub returns-in_err-next-clause-leads : goal.returns-in_err-next-clause-leads
returns-in_err-next-clause-leads g c =
    let E = g.E.StoreEngine in
    let O = g.O.Start in
    let old = c.args.engine.now in
    let mid = c.prepare-prepared.new.self in
    let kept = c.prepare-prepared.ensures in
    rw kept.same
    (leads_still O.start O.safe O.faithful (E.safe old) (E.safe mid) (E.faithful old) (E.faithful mid) c.args.events.now.log (E.state old)
    kept.backward kept.past c.requires.leads)

pub returns-in_err-publish_next-clause-leads : goal.returns-in_err-publish_next-clause-leads
returns-in_err-publish_next-clause-leads g c =
    let E = g.E.StoreEngine in
    let O = g.O.Start in
    let old = c.args.engine.now in
    let mid = c.prepare-prepared.new.self in
    let kept = c.prepare-prepared.ensures in
    rw kept.same
    (leads_still O.start O.safe O.faithful (E.safe old) (E.safe mid) (E.faithful old) (E.faithful mid) c.args.events.now.log (E.state old)
    kept.backward kept.past c.requires.leads)

pub returns-clause-leads : goal.returns-clause-leads
returns-clause-leads g c =
    let E = g.E.StoreEngine in
    let O = g.O.Start in
    let old = c.args.engine.now in
    let mid = c.prepare-prepared.new.self in
    let new = c.finish-reply.new.self in
    let kept = c.prepare-prepared.ensures in
    let made = c.finish-reply.ensures in
    let was : EngineView = E.state mid in
    let is : EngineView = E.state new in
    let entry : HistoryEntry = entry_of c.args.event c.finish-reply.result is in
    let added : c.note.new.events.log ≡ c.args.events.now.log ++ entry ∷ [] = search rules in
    let still : LeadsTo O.start O.safe O.faithful (E.safe mid) (E.faithful mid) c.args.events.now.log was =
    rw kept.same
    (leads_still O.start O.safe O.faithful (E.safe old) (E.safe mid) (E.faithful old) (E.faithful mid) c.args.events.now.log (E.state old)
    kept.backward kept.past c.requires.leads) in
    let follows : Continues was entry = made.answers _ c.in_ok-next.ensures.prepared c.requires.accepts in
    rw added
    (leads_with O.start O.safe O.faithful (E.safe mid) (E.safe new) (E.faithful mid) (E.faithful new) c.args.events.now.log was entry follows made.backward made.past made.after still)
