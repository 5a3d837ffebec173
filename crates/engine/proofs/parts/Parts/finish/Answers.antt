use Rattle.engine.proofs.NonSteps.{accepting_is_request, non_step_keeps}
use Rattle.engine.proofs.parts.Parts.finish.Goals as goal

pub returns-clause-sound : goal.returns-clause-sound
returns-clause-sound g c =
    non_step_keeps c.events_keep.ensures c.only_steps_make_durable.ensures c.args.self.now c.finish.new.self c.args.prepared.event.value c.finish.result c.requires.sound (accepting_is_request c.args.prepared.event.value c.requires.prepared.0) c.finish.ensures.step c.finish.ensures.retained
