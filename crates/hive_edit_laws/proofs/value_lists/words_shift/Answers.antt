use Rattle.hive_edit_laws.proofs.Shifts.{words_in, words_out, with_cut, without_cut}
use Rattle.hive_edit_laws.proofs.value_lists.words_shift.Goals as goal

pub returns-clause-more : goal.returns-clause-more
returns-clause-more c = λ old new from stride count index word most shifts. words_in old new from stride count index word most shifts

pub returns-clause-fewer : goal.returns-clause-fewer
returns-clause-fewer c = λ old new from stride count index most shifts. words_out old new from stride count index most shifts

pub returns-clause-with_cut : goal.returns-clause-with_cut
returns-clause-with_cut c = λ words index word. with_cut words index word

pub returns-clause-without_cut : goal.returns-clause-without_cut
returns-clause-without_cut c = λ words index. without_cut words index
