use Rattle.store_model.proofs.Accepting.{others_accept_nothing}
use Rattle.store_model.proofs.laws.others_accept_nothing.Goals as goal

pub returns : goal.returns
returns c old new event reply quiet stays step = (others_accept_nothing old new event reply quiet stays step).0
