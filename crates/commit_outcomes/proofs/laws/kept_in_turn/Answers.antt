use Rattle.commit_outcomes.proofs.Latest.{kept_in_turn}
use Rattle.commit_outcomes.proofs.laws.kept_in_turn.Goals as goal

pub returns : goal.returns
returns c = kept_in_turn
