use Rattle.store_hive.proofs.Hives.{as_of_store, refused_none}
use Rattle.store_hive.proofs.laws.refused_files_recover_no_tree.Goals as goal

pub returns-clause-none : goal.returns-clause-none
returns-clause-none c = refused_none c.one_store.ensures c.at_most_one_tree.ensures

pub returns-clause-store : goal.returns-clause-store
returns-clause-store c = as_of_store
