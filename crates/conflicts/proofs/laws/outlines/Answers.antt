use Rattle.conflicts.proofs.OnSkeletons.{follows}
use Rattle.conflicts.proofs.LegalOnSkeletons.{legal_from_judged, judged_from_legal}
use Rattle.conflicts.proofs.laws.outlines.Goals as goal

pub returns-clause-follows : goal.returns-clause-follows
returns-clause-follows c = λ trees op m are j. follows trees are m op j

pub returns-clause-judged : goal.returns-clause-judged
returns-clause-judged c = λ trees op are. (legal_from_judged trees are op, λ l. judged_from_legal trees are op l.0 l.1)
