use Rattle.std.proofs.Common.{◌≡◌, ℕ, true, List, [], Option}
use mathlib.Core.List.{IsPrefix}
use Rattle.reply_lines.specs.Statuses.{with_refusal}
use Rattle.reply_lines.specs.declared.status.Status.{Status}
use Rattle.histories.specs.Histories.{HasLedWith}
use Rattle.histories.specs.Points.{HistoryEntry}
use Rattle.registry_runner.specs.Folding.{IsIdle}
use Rattle.registry_runner.specs.Running.{IsOfStore, RunsFrom}
use Rattle.registry_runner.proofs.parts.run_parts.Given as goal

-- the registry of the part
abbrev pub ghosts-run_part-O-Origin : goal.ghosts-run_part-O-Origin
ghosts-run_part-O-Origin g a = let machine = (g.E.StoreEngine.state a.engine).machine in record { book = a.count; trees = machine.opened; number = machine.before; hives = machine.bounds.hives }

abbrev pub ghosts-run_part-O-Start : goal.ghosts-run_part-O-Start
ghosts-run_part-O-Start g a = let E = g.E.StoreEngine in record { history = a.events.book; start = E.state a.engine; store = E.store a.engine; sole = true; faithful = E.faithful a.engine; safe = E.safe a.engine }

abbrev pub ghosts-run_part-O-Ledger : goal.ghosts-run_part-O-Ledger
ghosts-run_part-O-Ledger g a = record { name = a.blank.name; parts = a.blank.parts }

-- The next part may begin. One history has led there; and wherever it begins a whole one, however the run goes to its end
-- from there, it is the whole run with the refusals so far.
abbrev pub invariant-loop : goal.invariant-loop
invariant-loop g l =
    let remaining = g.B.Read.remaining in
    let contents = g.W.Write.contents in
    let E = g.E.StoreEngine in
    let begun = (g.E.StoreEngine.state l.fn.engine).machine in
    let machine = (g.E.StoreEngine.state l.engine).machine in
    let begun_at = E.state l.fn.engine in
    let here_at = E.state l.engine in
    IsOfStore begun.opened begun.before begun.bounds.hives machine × IsIdle machine × (l.start.number ≡ machine.before) × (E.store l.engine ≡ E.store l.fn.engine)
    × HasLedWith begun_at (E.safe l.fn.engine) (E.faithful l.fn.engine) (E.safe l.engine) (E.faithful l.engine) here_at
    (λ past. (whole : List HistoryEntry) → IsPrefix past whole → (status : Status) (after : Option (List ℕ)) → RunsFrom whole past l.start true here_at machine.opened machine.before machine.bounds.hives (remaining l.reader) (contents l.writer) after status
    → RunsFrom whole [] l.fn.start true begun_at begun.opened begun.before begun.bounds.hives (remaining l.fn.reader) (contents l.fn.writer) after (with_refusal l.has_refusal status))
