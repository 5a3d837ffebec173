use Rattle.hive_edit_laws.proofs.LeafBytes.{words_cut, words_copied}
use Rattle.hive_edit_laws.proofs.ListParts.{words_long}
use Rattle.hive_edit_laws.proofs.list_edits.words_have_parts.Goals as goal

pub returns-clause-cut : goal.returns-clause-cut
returns-clause-cut c = λ bytes from stride count more. words_cut bytes from stride count more

pub returns-clause-copied : goal.returns-clause-copied
returns-clause-copied c = λ old new from to stride count wide same. words_copied old new from to stride count wide same

pub returns-clause-long : goal.returns-clause-long
returns-clause-long c = λ bytes from stride count. words_long bytes from stride count
