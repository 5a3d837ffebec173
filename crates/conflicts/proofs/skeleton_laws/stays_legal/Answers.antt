use Rattle.conflicts.proofs.Past.{past_all}
use Rattle.conflicts.proofs.skeleton_laws.stays_legal.Goals as goal

pub returns : goal.returns
returns c = λ es os s apart l. past_all es os s apart l
