use Rattle.hive_tree_model.proofs.Loading.{begins, goes_on, ends, told_up}
use Rattle.hive_tree_model.proofs.Settled.{settled, lent_met}
use Rattle.hive_tree_model.proofs.loads.Goals as goal

pub returns-clause-begins : goal.returns-clause-begins
returns-clause-begins g c = λ reads marks. begins reads marks

pub returns-clause-goes_on : goal.returns-clause-goes_on
returns-clause-goes_on g c = λ reads old mid new f at p below l k. goes_on reads old mid new f at p below l k

pub returns-clause-ends : goal.returns-clause-ends
returns-clause-ends g c = λ reads old mid new at p f r m l e once some. ends reads old mid new at p f r m l e once some

pub returns-clause-told : goal.returns-clause-told
returns-clause-told g c = λ reads trail is bad_name shared at p r old mid now m f l subkey rest subkey_list cause t. told_up reads trail is bad_name shared at p r old mid now m f l subkey rest subkey_list cause t

pub returns-clause-settled : goal.returns-clause-settled
returns-clause-settled g c = λ reads now root parts below l free. settled reads now root parts below l free

pub returns-clause-lent : goal.returns-clause-lent
returns-clause-lent g c = λ reads trail lends is also now root parts below l cell h e. lent_met reads trail lends is also now root parts below l cell h e
