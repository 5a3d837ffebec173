use Rattle.store_hive.proofs.Hives.{alone_in_store, of_the_store}
use Rattle.store_hive.proofs.laws.as_the_store_recovers.Goals as goal

pub returns-clause-each : goal.returns-clause-each
returns-clause-each c = of_the_store c.one_store.ensures c.at_most_one_tree.ensures

pub returns-clause-alone : goal.returns-clause-alone
returns-clause-alone c = alone_in_store c.one_store.ensures c.at_most_one_tree.ensures
