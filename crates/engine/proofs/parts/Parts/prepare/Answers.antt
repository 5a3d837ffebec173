use Rattle.engine.proofs.NonSteps.{told_keeps}
use Rattle.engine.proofs.parts.Parts.prepare.Goals as goal

pub returns-clause-sound : goal.returns-clause-sound
returns-clause-sound g c = told_keeps c.args.self.now c.prepare.new.self c.requires.sound c.prepare.ensures.machine c.prepare.ensures.retained
