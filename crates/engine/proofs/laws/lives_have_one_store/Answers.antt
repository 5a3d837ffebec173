use Rattle.engine.proofs.Living.{of_one_store}
use Rattle.engine.proofs.laws.lives_have_one_store.Goals as goal

pub returns : goal.returns
returns c = λ store machine state lives is many safe seen rest. of_one_store c.one_is_recovered.ensures store is machine state lives many safe seen rest
