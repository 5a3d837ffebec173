use Rattle.histories.proofs.Chains.{durable_stays, moment_after}
use Rattle.histories.proofs.laws.moments_are_safe.Goals as goal

pub returns-clause-after : goal.returns-clause-after
returns-clause-after g c start first history k h a p low high = moment_after (g.E.StoreEngine.safe c.args.engine.now) start first history k h a p low high

pub returns-clause-durable : goal.returns-clause-durable
returns-clause-durable g c start first history h p = durable_stays start first history h p
