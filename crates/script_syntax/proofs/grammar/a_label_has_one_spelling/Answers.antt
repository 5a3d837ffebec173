use Rattle.script_syntax.proofs.Labels.{one_word}
use Rattle.script_syntax.proofs.grammar.a_label_has_one_spelling.Goals as goal

pub returns : goal.returns
returns c = one_word
