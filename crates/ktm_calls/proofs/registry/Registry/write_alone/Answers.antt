use Rattle.ktm_calls.proofs.Alone.{alone_denied, alone_stands}
use Rattle.ktm_calls.proofs.registry.Registry.write_alone.Goals as goal

pub returns-clause-refused : goal.returns-clause-refused
returns-clause-refused g c = alone_denied g.O.Start.sole g.O.Start.start g.O.Origin.trees g.O.Origin.number g.O.Origin.hives c.args.session.now.seen c.serve.new.session.seen _ c.args.moment c.args.op c.serve.result c.serve.ensures.denied

pub returns-clause-stands : goal.returns-clause-stands
returns-clause-stands g c = alone_stands g.O.Start.sole g.O.Start.start g.O.Origin.trees g.O.Origin.number g.O.Origin.hives c.args.session.now.seen c.serve.new.session.seen _ c.args.moment c.args.op c.serve.result c.serve.ensures.told
