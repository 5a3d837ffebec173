use Rattle.commit_journal.proofs.Opening.{found, created}
use Rattle.commit_journal.proofs.laws.opening.Goals as goal

pub returns : goal.returns
returns g c = record { found = λ t head bytes s any. found t head bytes s any; created = λ t head closed ahead tail any. created t head closed ahead tail any }
