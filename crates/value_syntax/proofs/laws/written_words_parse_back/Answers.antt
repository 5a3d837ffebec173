use Rattle.value_syntax.proofs.WrittenDatum.{datum_parses}
use Rattle.value_syntax.proofs.laws.written_words_parse_back.Goals as goal

pub returns : goal.returns
returns c = λ kind bytes fits small. datum_parses kind bytes fits small
