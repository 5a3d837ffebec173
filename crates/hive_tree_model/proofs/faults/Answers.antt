use Rattle.hive_tree_model.proofs.NoFault.{not_lends, not_told, not_unread, not_shared, not_repeats, not_alike, not_nameless}
use Rattle.hive_tree_model.proofs.Depths.{deep}
use Rattle.hive_tree_model.proofs.faults.Goals as goal

pub returns-clause-unread : goal.returns-clause-unread
returns-clause-unread g c = λ reads root tree cause f s. not_unread reads root s.0 s.1 s.2 cause f

pub returns-clause-nameless : goal.returns-clause-nameless
returns-clause-nameless g c = λ reads root tree f s. not_nameless reads root s.0 s.1 s.2 f

pub returns-clause-alike : goal.returns-clause-alike
returns-clause-alike g c = λ reads root tree f s. not_alike reads root s.0 s.1 s.2 f

pub returns-clause-shared : goal.returns-clause-shared
returns-clause-shared g c = λ reads trail is root tree f s. not_shared reads trail is root s.0 s.1 s.2 f

pub returns-clause-repeats : goal.returns-clause-repeats
returns-clause-repeats g c = λ reads trail is root tree f s. not_repeats reads trail is root s.0 s.1 s.2 f

pub returns-clause-deep : goal.returns-clause-deep
returns-clause-deep g c = λ reads root tree most d s. deep reads root tree s most d

pub returns-clause-told : goal.returns-clause-told
returns-clause-told g c = λ reads trail is bad_name shared root tree cause f s. not_told reads trail is bad_name shared root s.0 s.1 s.2 cause f

pub returns-clause-lends : goal.returns-clause-lends
returns-clause-lends g c = λ reads trail lends is also root tree f s. not_lends reads trail lends is also root s.0 s.1 s.2 s.4 f
