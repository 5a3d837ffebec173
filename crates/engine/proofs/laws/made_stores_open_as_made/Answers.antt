use Rattle.engine.proofs.Living.{opens_as_made}
use Rattle.engine.proofs.laws.made_stores_open_as_made.Goals as goal

pub returns : goal.returns
returns c = opens_as_made c.one_is_recovered.ensures
