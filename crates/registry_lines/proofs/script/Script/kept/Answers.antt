use Rattle.std.proofs.Common.{inl, inr, refl}
use Rattle.store_model.specs.declared.event.Event.TheVariants as event
use Rattle.registry_lines.proofs.Hearing.{hears_denied, rests}
use Rattle.registry_lines.proofs.script.Script.kept.Goals as goal

pub returns-in-Ok : goal.returns-in-Ok
returns-in-Ok g c = inl ((rests g.O.Start.sole c.args.self.now.session c.outcome_of.new.self c.outcome_of.ensures.number c.outcome_of.ensures.later c.outcome_of.ensures.history c.outcome_of.ensures.asked, inl (c.in-Ok.number, c.in-Ok.ensures.found, refl)), refl)

pub returns-in-Err : goal.returns-in-Err
returns-in-Err g c = inl ((rests g.O.Start.sole c.args.self.now.session c.outcome_of.new.self c.outcome_of.ensures.number c.outcome_of.ensures.later c.outcome_of.ensures.history c.outcome_of.ensures.asked, inr (c.in-Err.refusal, c.in-Err.ensures.refused, refl)), refl)

pub returns-in-Err-outcome_of : goal.returns-in-Err-outcome_of
returns-in-Err-outcome_of g c =
    let O = g.O.Origin in
    inr (
      hears_denied g.O.Start.sole g.O.Start.start O.trees O.number O.hives c.args.self.now.session c.outcome_of-2.new.session (event.OutcomeOf c.args.id) c.in-Err-outcome_of.denied c.denied_reply.result c.denied_reply.ensures
          c.outcome_of-2.ensures.seen c.outcome_of-2.ensures.number c.in-Err-outcome_of.ensures.denied,
      refl,
    )
