use Rattle.change_codec.proofs.Numbers.{number}
use Rattle.change_codec.proofs.laws.number.Goals as goal

pub returns : goal.returns
returns c = λ n. number n
