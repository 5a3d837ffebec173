use Rattle.store_hive.proofs.Hives.{same_tree}
use Rattle.store_hive.proofs.laws.one_tree.Goals as goal

pub returns : goal.returns
returns c = same_tree c.one_store.ensures c.at_most_one_tree.ensures
