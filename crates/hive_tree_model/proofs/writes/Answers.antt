use Rattle.hive_tree_model.proofs.Writings.{writes_none, writes_on, writes_key, writes_filled}
use Rattle.hive_tree_model.proofs.writes.Goals as goal

pub returns-clause-begins : goal.returns-clause-begins
returns-clause-begins g c = λ read local there cells. writes_none read local there cells

pub returns-clause-goes_on : goal.returns-clause-goes_on
returns-clause-goes_on g c = λ read local there old mid new f at p below w k. writes_on read local there old mid new f at p below w k

pub returns-clause-ends : goal.returns-clause-ends
returns-clause-ends g c = λ read local there old mid new at p f w grows r once fresh e distinct some. writes_key read local there old mid new at p f w grows r once fresh e distinct some

pub returns-clause-filled : goal.returns-clause-filled
returns-clause-filled g c = λ read local there old start mid full new at p f rest. writes_filled read local there old start mid full new at p f rest
