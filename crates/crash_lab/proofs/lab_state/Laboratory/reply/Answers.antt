use Rattle.std.proofs.Common.{refl}
use Rattle.crash_lab.proofs.Lines.{answered_as_theirs}
use Rattle.crash_lab.proofs.lab_state.Laboratory.reply.Goals as goal

pub returns-in-Some : goal.returns-in-Some
returns-in-Some c = answered_as_theirs _ _ c.args.line c.in-Some.reported c.in-Some.ensures.reported.1 (refl, refl)
