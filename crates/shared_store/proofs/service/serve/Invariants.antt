use Rattle.std.proofs.Common.{false}
use Rattle.engine.specs.Shown.{engine_view}
use Rattle.engine_invariant.specs.Prefixes.{IsSafeAt}
use Rattle.shared_store.proofs.service.serve.Given as goal

-- the registry over the store that was just opened
abbrev pub ghosts-serve_over-O-Origin : goal.ghosts-serve_over-O-Origin
ghosts-serve_over-O-Origin g a = record { book = a.count; trees = a.engine.machine.opened; number = a.engine.machine.before; hives = a.engine.machine.bounds.hives }

abbrev pub ghosts-serve_over-O-Start : goal.ghosts-serve_over-O-Start
ghosts-serve_over-O-Start g a =
    let D = g.D.Disk in
    let disk = a.engine.disk in
    record { history = a.events.book; start = engine_view D.clock D.failures a.engine; store = a.engine.store; sole = false; faithful = D.faithful disk; safe = λ moment machine. IsSafeAt a.engine.store (D.state_at disk) moment machine }

abbrev pub ghosts-serve_over-O-Ledger : goal.ghosts-serve_over-O-Ledger
ghosts-serve_over-O-Ledger g a = record { name = a.blank.name; parts = a.blank.parts }
