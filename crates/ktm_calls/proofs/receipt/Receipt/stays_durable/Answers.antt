use Rattle.std.proofs.Common.{ap, arith, rules}
use mathlib.Core.List.{IsPrefix}
use Rattle.histories.proofs.Chains.{durable_stays}
use Rattle.ktm_calls.specs.Moments.{NumberedSight}
use Rattle.ktm_calls.proofs.receipt.Receipt.stays_durable.Goals as goal

pub returns : goal.returns
returns g c =
    let begins : IsPrefix c.self.inside.seen.history c.args.events.now.log = search rules in
    let on = durable_stays g.O.Start.start c.self.inside.seen.history c.args.events.now.log c.requires.run begins in
    omega (arith, c.self.invariant.durable, on, ap (λ (m : NumberedSight). m.number) c.self.view_is)
