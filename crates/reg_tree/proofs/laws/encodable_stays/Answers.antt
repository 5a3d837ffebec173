use Rattle.reg_tree.proofs.Spelling.{encodable_stays}
use Rattle.reg_tree.proofs.laws.encodable_stays.Goals as goal

pub returns : goal.returns
returns c = λ tree is op may moment. encodable_stays tree is op may moment
