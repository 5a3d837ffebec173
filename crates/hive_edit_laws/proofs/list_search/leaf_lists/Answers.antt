use Rattle.hive_edit_laws.proofs.ListSearch.{leaf_holds, leaf_read, leaf_one}
use Rattle.hive_edit_laws.proofs.list_search.leaf_lists.Goals as goal

pub returns-clause-holds : goal.returns-clause-holds
returns-clause-holds c = λ bytes cells shows leaf its h. leaf_holds bytes cells shows leaf its h

pub returns-clause-elements : goal.returns-clause-elements
returns-clause-elements c = λ bytes cells shows leaf its h list is. leaf_read bytes cells shows leaf its h list is

pub returns-clause-one : goal.returns-clause-one
returns-clause-one c = λ cells leaf its other h g. leaf_one cells leaf its other h g
