use Rattle.std.proofs.Common.{[], ◌∷◌}
use Rattle.histories.proofs.Asked.{asked_none}
use Rattle.histories.specs.Histories.{Continues}
use Rattle.histories.specs.Points.{entry_of}
use Rattle.histories.proofs.Leading.{leads_from, leads_with}
use Rattle.registry_runner.proofs.parts.put.Goals as goal

pub returns-clause-history : goal.returns-clause-history
returns-clause-history g c =
    let E = g.E.StoreEngine in
    let old = c.args.engine.now in
    let new = c.event.new.self in
    let made = c.event.ensures in
    let old_at = E.state old in
    let entry = entry_of c.args.event c.event.result (E.state new) in
    let follows : Continues old_at entry = made.answers in (
      entry ∷ [],
      leads_with old_at (E.safe old) (E.faithful old) (E.safe old) (E.safe new) (E.faithful old) (E.faithful new) [] old_at entry follows made.backward made.past made.after (leads_from old_at (E.safe old) (E.faithful old) c.keeps_a_prefix.ensures),
      asked_none [] entry c.requires.unasked,
    )
