use Rattle.hive_edit_laws.proofs.ListSearch.{word_get, word_in, word_back, get_in, around_index}
use Rattle.hive_edit_laws.proofs.list_search.words_have_indexes.Goals as goal

pub returns-clause-get : goal.returns-clause-get
returns-clause-get c = λ bytes from stride count index h. word_get bytes from stride count index h

pub returns-clause-there : goal.returns-clause-there
returns-clause-there c = λ bytes from stride count index h. word_in bytes from stride count index h

pub returns-clause-index : goal.returns-clause-index
returns-clause-index c = λ bytes from stride count word i. word_back bytes from stride count word i

pub returns-clause-element : goal.returns-clause-element
returns-clause-element c = λ words index word e. get_in words index word e

pub returns-clause-around : goal.returns-clause-around
returns-clause-around c = λ words index word e. around_index words index word e
