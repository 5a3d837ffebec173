use Rattle.std.proofs.Common.{◌≡◌, ◌∙◌, true, ap, arith, refl, subst}
use Rattle.histories.specs.Permissions.{Pool, parts_each}
use Rattle.ktm_calls.specs.Ends.{IsAllAsked}
use Rattle.ktm_calls.specs.Moments.{Sight}
use Rattle.ktm_calls.proofs.Ends.{asked_at_end}
use Rattle.ktm_calls.proofs.registry.Registry.end.Goals as goal

pub returns-clause-asked : goal.returns-clause-asked
returns-clause-asked g c so =
    let each : parts_each g.O.Start.sole g.O.Ledger.parts ≡ g.O.Ledger.parts = rw so refl in
    let all = c.end_shared.ensures.asked (ap (λ (p : Pool). p.left) c.of.ensures ∙ each) in
    let few = c.saw_what_it_asked.ensures in
    asked_at_end c.args.asker.history c.end_shared.result.events.log c.of.result.asked (rw (← c.into_parts-seen.ensures.seen) all) (omega (arith, ap (λ (p : Pool). p.asked) c.of.ensures, c.into_parts-seen.ensures.asked, few))
