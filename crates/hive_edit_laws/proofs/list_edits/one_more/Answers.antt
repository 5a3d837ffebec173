use Rattle.hive_edit_laws.proofs.ListParts as part
use Rattle.hive_edit_laws.proofs.list_edits.one_more.Goals as goal

pub returns-clause-added : goal.returns-clause-added
returns-clause-added c = λ words index word. part.more_with words index word

pub returns-clause-taken : goal.returns-clause-taken
returns-clause-taken c = λ words index word e. part.more_without words index word e

pub returns-clause-leaf : goal.returns-clause-leaf
returns-clause-leaf c = λ word us ws fewer more m. part.more_in_leaf word us ws fewer more m

pub returns-clause-two : goal.returns-clause-two
returns-clause-two c = λ word us ws fewer first rest m. part.more_in_two word us ws fewer first rest m

pub returns-clause-new : goal.returns-clause-new
returns-clause-new c = λ word us ws. part.more_in_new word us ws

pub returns-clause-two_joined : goal.returns-clause-two_joined
returns-clause-two_joined c = λ first rest. part.two_joined first rest

pub returns-clause-one_joined : goal.returns-clause-one_joined
returns-clause-one_joined c = λ its. part.one_joined its

pub returns-clause-long : goal.returns-clause-long
returns-clause-long c = λ word fewer more m. part.more_long word fewer more m
