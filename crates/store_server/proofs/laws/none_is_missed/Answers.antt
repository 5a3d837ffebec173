use Rattle.store_server.proofs.Followed.{followed}
use Rattle.store_server.proofs.laws.none_is_missed.Goals as goal

pub returns : goal.returns
returns c sole origin trees number hives subject old after chunks replies new follows = followed sole origin trees number hives subject old after chunks replies new follows
