use Rattle.std.proofs.Common.{◌≡◌}
use Rattle.registry_runner.specs.Folding.{HistoryStays}
use Rattle.histories.specs.Histories.{HasLedWith}
use Rattle.registry_runner.specs.Running.{IsUnasked}
use Rattle.registry_runner.proofs.parts.fold.Given as goal

-- the changes stay until the history is folded
abbrev pub invariant-loop : goal.invariant-loop
invariant-loop g l =
    let E = g.E.StoreEngine in
    let old = l.fn.engine in
    let now = l.engine in
    HistoryStays (E.state old).machine (E.state now).machine × (E.store now ≡ E.store old)
    × HasLedWith (E.state old) (E.safe old) (E.faithful old) (E.safe now) (E.faithful now) (E.state now) IsUnasked
