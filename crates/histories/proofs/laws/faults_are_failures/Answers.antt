use Rattle.histories.proofs.Chains.{fault_told}
use Rattle.histories.proofs.laws.faults_are_failures.Goals as goal

pub returns : goal.returns
returns c start past rest entry why h told about = fault_told start past rest entry why h told about
