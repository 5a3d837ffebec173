use Rattle.engine.proofs.Living.{go_on}
use Rattle.engine.proofs.laws.lives_go_on.Goals as goal

pub returns : goal.returns
returns c = λ store machine state lives is many safe seen rest. go_on c.one_is_recovered.ensures store is machine state lives many safe seen rest
