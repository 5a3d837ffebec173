use Rattle.dirt_log.proofs.Needed.{covered_same, primary_same, logged_same}
use Rattle.dirt_log.proofs.prefixes.repair_prefix_decides.Goals as goal

pub returns-clause-covered : goal.returns-clause-covered
returns-clause-covered c = covered_same

pub returns-clause-primary : goal.returns-clause-primary
returns-clause-primary c = primary_same

pub returns-clause-pages : goal.returns-clause-pages
returns-clause-pages c = logged_same
