use Rattle.base_block.proofs.Folded.{folded}
use Rattle.base_block.proofs.sums.sum_is_of_words.Goals as goal

pub returns : goal.returns
returns c = λ sector long. folded sector long
