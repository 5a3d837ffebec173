use Rattle.hive_edit_laws.proofs.ListSearch.{list_many, list_holds, list_read, leaf_there, in_leaf}
use Rattle.hive_edit_laws.proofs.list_search.subkey_lists.Goals as goal

pub returns-clause-many : goal.returns-clause-many
returns-clause-many c = λ bytes cells shows count at own lent subkeys h. list_many bytes cells shows count at own lent subkeys h

pub returns-clause-holds : goal.returns-clause-holds
returns-clause-holds c = λ bytes cells shows count at own lent subkeys h some. list_holds bytes cells shows count at own lent subkeys h some

pub returns-clause-plain : goal.returns-clause-plain
returns-clause-plain c = λ bytes cells shows count at own lent subkeys h some list is plain. list_read bytes cells shows count at own lent subkeys h some list is plain

pub returns-clause-leaf : goal.returns-clause-leaf
returns-clause-leaf c = λ bytes cells shows count at own lent subkeys h some list is indirect leaf i. leaf_there bytes cells shows count at own lent subkeys h some list is indirect leaf i

pub returns-clause-subkey : goal.returns-clause-subkey
returns-clause-subkey c = λ bytes cells shows count at own lent subkeys h some list is indirect offset i. in_leaf bytes cells shows count at own lent subkeys h some list is indirect offset i
