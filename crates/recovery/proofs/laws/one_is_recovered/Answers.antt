use Rattle.recovery.proofs.Together.{recovered_once}
use Rattle.recovery.proofs.laws.one_is_recovered.Goals as goal

pub returns : goal.returns
returns c = recovered_once c.one_store.ensures c.at_most_one_tree.ensures
