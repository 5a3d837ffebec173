use Rattle.std.proofs.Common.{ap}
use Rattle.store_model.specs.declared.event.Reply.TheVariants as reply
use Rattle.transactions.proofs.store.accepted.Goals as goal

pub returns : goal.returns
returns c = ap (reply.Accepted c.args.levels) c.number.ensures
