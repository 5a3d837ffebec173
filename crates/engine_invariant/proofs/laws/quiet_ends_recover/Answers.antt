use Rattle.engine_invariant.proofs.Advancing.{all_recovered}
use Rattle.engine_invariant.proofs.laws.quiet_ends_recover.Goals as goal

pub returns : goal.returns
returns c = record {
  read = all_recovered;
  crash = λ store states moment machine safe none files left. all_recovered store machine files (safe files left) none;
}
