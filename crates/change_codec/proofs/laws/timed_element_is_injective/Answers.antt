use Rattle.change_codec.proofs.ChangesApart.{apart}
use Rattle.change_codec.proofs.laws.timed_element_is_injective.Goals as goal

pub returns : goal.returns
returns c = λ a b some more same. apart a b some more same
